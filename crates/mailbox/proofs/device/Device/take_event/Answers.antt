-- `mailbox::device::Device::take_event` meets its contract: the report over its parts, of the device that the call finds. Assumes nothing.
use mathlib.Core.Path.{◌≡◌, ◌∙◌}
use borrow.Author.Rules.{rules}
use lib.ListN.{length}
use Rattle.mailbox.proofs.Endings.{found_logs, after_event}
use Rattle.mailbox.proofs.PartAnswers.{event_parts_done}
use Rattle.mailbox.proofs.device.Device.take_event.Goals as goal

pub returns : goal.returns
returns c =
    let five : length c.args.self.now.logs ≡ 5 = search rules in
    after_event c.end_due.ensures.found _ _
    (event_parts_done _ c.end_due.ensures.found.valid (found_logs c.end_due.ensures.found ∙ five) _ c.log_at-k.ensures.0 c.event_report_in.ensures)
