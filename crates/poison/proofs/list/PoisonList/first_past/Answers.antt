-- `PoisonList::first_past` meets its contract: the run over a line is the first that ends past it, and where there is none, it is the first
-- that starts past the line (Neighbours). Assumes nothing.
use native.Mathlib.Omega.{arith}
use Rattle.poison.proofs.Neighbours.{past_over, past_none}
use Rattle.poison.proofs.list.PoisonList.first_past.Goals as goal

pub returns-in-Some : goal.returns-in-Some
returns-in-Some c =
    let f = c.in-Some.ensures in past_over c.requires _ _ f.0 f.1

pub returns-in-None : goal.returns-in-None
returns-in-None c =
    past_none c.requires _ _ _ c.in-None.ensures (omega arith) c.place.ensures
