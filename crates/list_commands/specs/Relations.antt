-- What the poison commands ensure: records of equations between their answers and the definitions, one field for each part of an answer. Assumes nothing.
use Rattle.std.specs.Prelude.{ℕ, ◌≡◌, Bool, List}
use Rattle.wire.specs.Returns.{Refused}
use Rattle.poison.specs.State as P
use Rattle.poison.specs.declared.list.PoisonList.{PoisonList}
use Rattle.list_commands.specs.PoisonCommands.{ListChange, inject_poison, inject_adds}

-- a command that changes the poison list, by its return number c and the list r that it leaves; a refusal leaves the very same list
pub record ListDone (o : ListChange) (lines : ℕ) (l : PoisonList) (c : ℕ) (r : PoisonList) : Type 0 where
  pub code : c ≡ o.code
  pub list : P.state_of r ≡ o.list
  pub refused : Refused c → r ≡ l
  pub valid : P.ValidList lines r

-- Inject Poison in the list: the same, and whether it added an entry (a)
pub record InjectDone (lines : ℕ) (l : PoisonList) (p : List ℕ) (c : ℕ) (a : Bool) (r : PoisonList) : Type 0 where
  pub done : ListDone (inject_poison lines (P.state_of l) p) lines l c r
  pub added : a ≡ inject_adds lines (P.state_of l) p
