-- `mailbox::pool::pool_command_in` meets its contract: refused before any command, or what the command of its opcode tells. Assumes nothing.
use mathlib.Core.Path.{◌≡◌, sym, ◌∙◌}
use borrow.Author.Tests.{eqb-true}
use lib.ListN.{length}
use Rattle.commands.specs.declared.mailboxes.Mailbox.TheVariants.{Pool}
use Rattle.commands.specs.Commands.{commands, checked}
use Rattle.commands.proofs.Laws.{checked_fits_room, checked_takes}
use Rattle.list_commands.proofs.Laws.{device_list, device_lines}
use Rattle.mailbox.proofs.PoolAnswers.{pool_refused, pool_log, pool_list, pool_told}
use Rattle.mailbox.proofs.pool.pool_command_in.Goals as goal

pub returns-then-code-ne-SUCCESS : goal.returns-then-code-ne-SUCCESS
returns-then-code-ne-SUCCESS c =
    pool_refused c.admitted-code.ensures c.if-code-ne-SUCCESS.true

pub tell_log-requires : goal.tell_log-requires
unfolding commands
tell_log-requires c =
    let passed : checked Pool c.args.opcode (length c.args.payload.now) (length c.args.reply.now) ≡ 0 = sym c.admitted-code.ensures ∙ c.if-code-ne-SUCCESS.false in
    (c.requires.2, eqb-true _ 1 (checked_takes _ _ _ _ passed 0x0100 c.if-opcode-eq256.true), checked_fits_room _ _ _ _ passed)

pub returns-then-opcode-eq256 : goal.returns-then-opcode-eq256
returns-then-opcode-eq256 c =
    pool_log c.admitted-code.ensures c.if-code-ne-SUCCESS.false c.if-opcode-eq256.true c.tell_log.ensures

pub get-requires : goal.get-requires
unfolding commands
get-requires c =
    let passed : checked Pool c.args.opcode (length c.args.payload.now) (length c.args.reply.now) ≡ 0 = sym c.admitted-code.ensures ∙ c.if-code-ne-SUCCESS.false in
    let l = c.lines_of-lines.ensures in
    (device_list c.requires.0 l c.requires.1, device_lines c.requires.0 l, eqb-true _ 16 (checked_takes _ _ _ _ passed 0x4300 c.if-opcode-eq17152.true), checked_fits_room _ _ _ _ passed)

pub returns-then-opcode-eq17152 : goal.returns-then-opcode-eq17152
returns-then-opcode-eq17152 c =
    pool_list c.admitted-code.ensures c.if-code-ne-SUCCESS.false c.if-opcode-eq17152.true c.lines_of-lines.ensures c.get.ensures

pub tell-requires : goal.tell-requires
tell-requires c =
    (sym c.admitted-code.ensures ∙ c.if-code-ne-SUCCESS.false, c.if-opcode-eq256.false, c.if-opcode-eq17152.false)

pub returns : goal.returns
returns c =
    pool_told c.admitted-code.ensures c.if-code-ne-SUCCESS.false c.tell.ensures
