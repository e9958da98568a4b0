-- `wire::copy` meets its contract. Assumes nothing.
use mathlib.Core.Path.{sym, ap, refl, ◌∙◌}
use lib.ListN.{length}
use borrow.Author.Rules.{rules}
use Rattle.wire.proofs.Laws.{part_lent, part_none, length_part, copied_turn}
use Rattle.wire.proofs.copy.Goals as goal

pub loop-i-init : goal.loop-i-init
loop-i-init c =
    let a = c.args in
    (ap length (part_lent a.at a.n a.d.now) ∙ length_part a.at a.n a.d.now (search rules), sym (part_none a.from 0 a.s.now refl))

pub loop-i-preserved : goal.loop-i-preserved
loop-i-preserved c =
    let a = c.args in
    (search rules, copied_turn c.loop-i.byte-items a.s.now a.from c.loop-i.i a.n (search rules) c.loop-i.invariant.0 (search rules) c.loop-i.invariant.1)
