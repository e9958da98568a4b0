-- `PoisonList::put_neighbours` meets its contract. The invariant: the records that are left, written over what d is now, give what all of
-- them written over d at entry give (Records). Assumes nothing.
use mathlib.Core.Path.{◌≡◌}
use native.Mathlib.Omega.{arith}
use borrow.Author.Rules.{rules}
use Rattle.poison.proofs.Records.{neighbours_turn, neighbours_end}
use Rattle.poison.proofs.list.PoisonList.put_neighbours.Goals as goal

pub loop-i-preserved : goal.loop-i-preserved
loop-i-preserved c =
    let a = c.args in
    let l = a.self.now in
    let e = c.entry_at.ensures in
    let cut = rw (e.start, e.lines, e.kind) at c.put_cut.ensures in
    neighbours_turn a.from a.n a.first a.m l.starts l.lengths l.kinds c.requires.0 a.at c.loop-i.i c.loop-i.d _ _ (search rules) (search rules) cut c.loop-i.invariant

pub returns : goal.returns
returns c =
    let a = c.args in
    let l = a.self.now in
    let e : c.loop-i.i ≡ a.m = omega arith in
    neighbours_end a.from a.n a.first a.m l.starts l.lengths l.kinds c.requires.0 a.at c.loop-i.d _ (search rules) (rw e at c.loop-i.invariant)
