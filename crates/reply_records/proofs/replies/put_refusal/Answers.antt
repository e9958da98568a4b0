-- `reply_records::replies::put_refusal` meets its contract. Assumes nothing.
use mathlib.Core.Path.{ap, ◌∙◌}
use Rattle.wire.specs.Refusal.{refusal_number}
use Rattle.protocol.proofs.Laws.{puts_line_as}
use Rattle.reply_records.proofs.ReadLaws.{refusal_placed, refusal_plain}
use Rattle.reply_records.proofs.ReplyLaws.{invalid_input_alone}
use Rattle.reply_records.proofs.replies.put_refusal.Goals as goal

pub returns-in-InvalidInput : goal.returns-in-InvalidInput
returns-in-InvalidInput c =
    let r = c.args.refusal in
    puts_line_as c.put_numbers.ensures ((cc) ∙ refusal_placed (refusal_number r) c.args.place (ap refusal_number c.in-InvalidInput.is))

pub returns-in_default : goal.returns-in_default
returns-in_default c =
    let r = c.args.refusal in
    puts_line_as c.put_numbers-in_default.ensures ((cc) ∙ refusal_plain (refusal_number r) c.args.place (invalid_input_alone r c.in_default.not-InvalidInput))
