-- `PoisonList::put_entry` meets its contract: what is put into each array leaves the slots past the new last entry (Moves). Assumes nothing.
use mathlib.Core.Path.{refl}
use native.Mathlib.Omega.{arith}
use Rattle.poison.proofs.Moves.{entry_put}
use Rattle.poison.proofs.list.PoisonList.put_entry.Goals as goal

pub returns : goal.returns
returns c =
    record {
      arrays = entry_put c.requires.0 c.put.ensures (omega arith) c.put-2.ensures (omega arith) c.put-3.ensures (omega arith);
      count = refl;
      overflow = refl;
      overflow_time = refl;
    }
