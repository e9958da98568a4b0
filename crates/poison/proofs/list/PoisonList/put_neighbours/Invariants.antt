-- `PoisonList::put_neighbours` meets its contract. The invariant: the records that are left, written over what d is now, give what all of
-- them written over d at entry give (Records). Assumes nothing.
use mathlib.Core.Path.{◌≡◌}
use mathlib.Core.List.{map}
use Prim.Native.Nat.{◌+◌, ◌*◌}
use lib.ListN.{drop}
use Rattle.wire.specs.Wire.{splice}
use Rattle.poison.specs.State.{entries_in}
use Rattle.poison.specs.Range.{cut_to, records_bytes}
use Rattle.poison.proofs.list.PoisonList.put_neighbours.Given as goal

abbrev pub invariant-loop-i : goal.invariant-loop-i
invariant-loop-i l = splice (l.at + 16 * l.i) (records_bytes (map (cut_to l.from l.n) (drop (l.first + l.i) (entries_in (l.first + l.m) l.self.starts l.self.lengths l.self.kinds)))) l.d ≡ splice l.at (records_bytes (map (cut_to l.from l.n) (drop l.first (entries_in (l.first + l.m) l.self.starts l.self.lengths l.self.kinds)))) l.initial.d
