-- `list_commands::poison_commands::get` meets its contract: refused by the checks of the range, or the records written and then the header before them. Assumes nothing.
use native.Mathlib.Omega.{arith}
use borrow.Author.Rules.{rules}
use Rattle.poison.proofs.Laws.{valid_more}
use Rattle.list_commands.proofs.Addresses.{range_low}
use Rattle.list_commands.proofs.ListAnswers.{get_refusal, get_reply}
use Rattle.list_commands.proofs.poison_commands.get.Goals as goal

pub returns-then-code-ne-SUCCESS : goal.returns-then-code-ne-SUCCESS
returns-then-code-ne-SUCCESS c =
    get_refusal _ c.get-address.ensures c.get-n.ensures c.check_range-code.ensures _ c.if-code-ne-SUCCESS.true

pub overflow_cast-from : goal.overflow_cast-from
overflow_cast-from c =
    let h = range_low _ _ c.requires.1 c.check_range-code.ensures c.if-code-ne-SUCCESS.false in record { fits = omega (arith, h) }

pub overflow_cast-n : goal.overflow_cast-n
overflow_cast-n c =
    let h = range_low _ _ c.requires.1 c.check_range-code.ensures c.if-code-ne-SUCCESS.false in record { fits = omega (arith, h) }

pub put_records-found-requires : goal.put_records-found-requires
put_records-found-requires c =
    let room = c.requires.3 in
    (valid_more c.requires.1 c.requires.0, range_low _ _ c.requires.1 c.check_range-code.ensures c.if-code-ne-SUCCESS.false, search rules, omega (arith, room))

pub returns : goal.returns
returns c =
    get_reply _ c.get-address.ensures c.get-n.ensures c.check_range-code.ensures c.args.list.now c.if-code-ne-SUCCESS.false
    c.put_records-found.ensures c.min-number.ensures c.put_header.ensures c.requires.3
