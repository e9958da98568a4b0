-- `PoisonList::last_start` meets its contract. The loop keeps `Searching`: the place sought is among the `size` from `base` on (Halves). Assumes nothing.
use Rattle.poison.proofs.Halves.{Searching}
use Rattle.poison.proofs.list.PoisonList.last_start.Given as goal

abbrev pub invariant-loop-size : goal.invariant-loop-size
invariant-loop-size l = Searching l.self.count l.self.starts l.line l.base l.size

abbrev pub decreases-loop-size : goal.decreases-loop-size
decreases-loop-size l = l.size
