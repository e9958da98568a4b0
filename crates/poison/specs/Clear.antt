-- Clear Poison (document 01, "Poison list"): "uncovered, Success. Else the entry is replaced by the part before the line and the part
-- after, each if not empty, same type. With 256 held and both parts left, the part after is dropped."
use Rattle.std.specs.Prelude.{◌≡◌, Bool, cond, List, [], ◌∷◌, ◌++◌, map, ℕ}
use Rattle.poison.specs.declared.list.PoisonList.{PoisonList}
use Rattle.poison.specs.Runs.{in_run, before, after, keeps, lost}
use Rattle.poison.specs.State.{Entry, PoisonState, shape, shapes, entry, state_of, ValidList}
use Rattle.poison.specs.Report.{with_drop}

-- the entry over line k replaced by its part before and, if `keep`, its part after, same type
abbrev pub cut_entries : Bool → ℕ → List Entry → List Entry
cut_entries keep k [] = []
cut_entries keep k (e ∷ es) =
    cond (in_run (shape e) k)
    (map (entry e.kind) (before k (shape e)) ++ (cond keep (map (entry e.kind) (after k (shape e))) [] ++ es))
    (e ∷ cut_entries keep k es)

-- the list after line k is cleared at a device time
abbrev pub after_clear : PoisonState → ℕ → ℕ → PoisonState
after_clear s k time = with_drop s (cut_entries (keeps k (shapes s.entries)) k s.entries) (lost k (shapes s.entries)) time

-- what the code's clearing ensures
pub record Clears (l : PoisonList) (k time : ℕ) (r : PoisonList) : Type 0 where
  pub state : state_of r ≡ after_clear (state_of l) k time
  pub valid : (m : ℕ) → ValidList m l → ValidList m r
