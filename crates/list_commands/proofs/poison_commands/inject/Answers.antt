-- `list_commands::poison_commands::inject` meets its contract: refused by the checks of the line, or what the list's injection makes of it. Assumes nothing.
use native.Mathlib.Omega.{arith}
use Rattle.poison.proofs.Laws.{valid_more}
use Rattle.list_commands.proofs.Addresses.{line_low}
use Rattle.list_commands.proofs.ListAnswers.{inject_refusal, inject_done}
use Rattle.list_commands.proofs.poison_commands.inject.Goals as goal

pub returns-then-code-ne-SUCCESS : goal.returns-then-code-ne-SUCCESS
returns-then-code-ne-SUCCESS c =
    inject_refusal c.requires.0 c.get-address.ensures c.check_line-code.ensures c.if-code-ne-SUCCESS.true

pub overflow_cast-line : goal.overflow_cast-line
overflow_cast-line c =
    let h = line_low _ c.requires.1 c.check_line-code.ensures c.if-code-ne-SUCCESS.false in record { fits = omega (arith, h) }

pub inject-requires : goal.inject-requires
inject-requires c =
    (valid_more c.requires.1 c.requires.0, line_low _ c.requires.1 c.check_line-code.ensures c.if-code-ne-SUCCESS.false)

pub returns-in-Added : goal.returns-in-Added
returns-in-Added c =
    inject_done c.requires.0 c.get-address.ensures c.check_line-code.ensures c.if-code-ne-SUCCESS.false c.in-Added.ensures

pub returns-in-Covered : goal.returns-in-Covered
returns-in-Covered c =
    inject_done c.requires.0 c.get-address.ensures c.check_line-code.ensures c.if-code-ne-SUCCESS.false c.in-Covered.ensures

pub returns-in-Full : goal.returns-in-Full
returns-in-Full c =
    inject_done c.requires.0 c.get-address.ensures c.check_line-code.ensures c.if-code-ne-SUCCESS.false c.in-Full.ensures
