-- `mailbox::telling::tell_log` meets its contract. Assumes nothing.
use mathlib.Core.Path.{◌≡◌, sym, ◌∙◌}
use native.Mathlib.Omega.{arith}
use lib.ListN.{get_or}
use Rattle.events.specs.Get.{get_code}
use Rattle.commands.proofs.Laws.{room_for}
use Rattle.mailbox.proofs.PartAnswers.{log_told_refused, log_told}
use Rattle.mailbox.proofs.telling.tell_log.Goals as goal

pub returns-then-code-ne-SUCCESS : goal.returns-then-code-ne-SUCCESS
returns-then-code-ne-SUCCESS c =
    log_told_refused c.get_code-code.ensures c.if-code-ne-SUCCESS.true

pub get-length-requires : goal.get-length-requires
get-length-requires c =
    (c.requires.0, room_for (omega arith) c.requires.2)

pub returns : goal.returns
returns c =
    let passed : get_code (get_or c.args.payload.now 0 0) ≡ 0 = sym c.get_code-code.ensures ∙ c.if-code-ne-SUCCESS.false in
    log_told c.if-code-ne-SUCCESS.false passed c.get-length.ensures
