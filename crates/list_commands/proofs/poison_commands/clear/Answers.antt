-- `list_commands::poison_commands::clear` meets its contract: refused by the checks of the line, or what the list's clearing makes of it. Assumes nothing.
use native.Mathlib.Omega.{arith}
use Rattle.poison.proofs.Laws.{valid_more}
use Rattle.list_commands.proofs.Addresses.{line_low}
use Rattle.list_commands.proofs.ListAnswers.{clear_refusal, clear_success}
use Rattle.list_commands.proofs.poison_commands.clear.Goals as goal

pub overflow_cast-line : goal.overflow_cast-line
overflow_cast-line c =
    let h = line_low _ c.requires.1 c.check_line-code.ensures c.if-code-eq-SUCCESS.true in record { fits = omega (arith, h) }

pub clear-requires : goal.clear-requires
clear-requires c =
    (valid_more c.requires.1 c.requires.0, line_low _ c.requires.1 c.check_line-code.ensures c.if-code-eq-SUCCESS.true)

pub returns-then-code-eq-SUCCESS : goal.returns-then-code-eq-SUCCESS
returns-then-code-eq-SUCCESS c =
    clear_success c.requires.0 c.get-address.ensures c.check_line-code.ensures c.if-code-eq-SUCCESS.true c.clear.ensures

pub returns-else-code-eq-SUCCESS : goal.returns-else-code-eq-SUCCESS
returns-else-code-eq-SUCCESS c =
    clear_refusal c.requires.0 c.get-address.ensures c.check_line-code.ensures _ c.if-code-eq-SUCCESS.false
