-- `PoisonList::report` meets its contract. The loop's invariant: what is left to do from `at` on, done to the list as it is, gives what the
-- whole report gives (Reporting, Progress). The measure is what is left of the extent. Assumes nothing.
use Prim.Native.Nat.{◌-◌}
use Rattle.poison.proofs.Reporting.{Underway}
use Rattle.poison.proofs.list.PoisonList.report.Given as goal

abbrev pub invariant-loop-at : goal.invariant-loop-at
invariant-loop-at l = Underway l.initial.self l.self l.start l.lines l.kind l.at l.stored l.dropped

abbrev pub decreases-loop-at : goal.decreases-loop-at
decreases-loop-at l = l.end - l.at
