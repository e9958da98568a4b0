-- `PoisonList::stretch_from` meets its contract: the entry over the line, or the one after it, says how far to go (Stretches). Assumes nothing.
use native.Mathlib.Omega.{arith}
use Rattle.poison.proofs.Stretches.{entry_end, covered_to, free_to_next, free_to_end}
use Rattle.poison.proofs.list.PoisonList.stretch_from.Goals as goal

pub overflow_add-past : goal.overflow_add-past
overflow_add-past c =
    let f = c.in-Some.ensures in
    omega (arith, entry_end c.requires.0 c.requires.1 f.0 f.1)

pub returns-in-Some : goal.returns-in-Some
returns-in-Some c =
    let f = c.in-Some.ensures in
    covered_to c.requires.0 c.requires.1 f.0 f.1 c.min.ensures

pub returns-then-next-self : goal.returns-then-next-self
returns-then-next-self c =
    free_to_next c.requires.0 c.requires.1 c.in_default.ensures c.place-next.ensures c.if-next-self.true c.min-then-next-self.ensures

pub returns : goal.returns
returns c =
    free_to_end c.requires.0 c.requires.1 c.in_default.ensures c.place-next.ensures c.if-next-self.false
