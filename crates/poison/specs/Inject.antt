-- Inject Poison (document 01, "Poison list"): "covered, Success and nothing changes; 256 held, 0010h; else a one-line entry of type 3."
use Rattle.std.specs.Prelude.{◌≡◌, Bool, false, not, ◌&&◌, ◌||◌, cond, ℕ, ◌<◌, ltb, length}
use Rattle.poison.specs.declared.list.PoisonList.{PoisonList}
use Rattle.poison.specs.Runs.{run, slots}
use Rattle.poison.specs.State.{PoisonState, entry, covers, insert_entry, state_of, ValidList}

-- the list with a one-line entry of type 3 at line k
abbrev pub with_entry : PoisonState → ℕ → PoisonState
with_entry s k = record { entries = insert_entry (entry 3 (run k 1)) s.entries; overflow = s.overflow; overflow_time = s.overflow_time }

-- whether an injection at line k is taken: the line is covered, or there is room
abbrev pub injects : PoisonState → ℕ → Bool
injects s k = covers s.entries k || ltb (length s.entries) slots

-- whether an injection at line k adds an entry (document 02, W-204): the line is not covered, and there is room
abbrev pub adds : PoisonState → ℕ → Bool
adds s k = not (covers s.entries k) && ltb (length s.entries) slots

-- the list after an injection at line k that is taken
abbrev pub after_inject : PoisonState → ℕ → PoisonState
after_inject s k = cond (covers s.entries k) s (with_entry s k)

-- what the code's injection ensures of the list before, the list after, whether it was taken and whether it added an entry; one that is not taken leaves the
-- very same list
pub record Injects (l : PoisonList) (k : ℕ) (b a : Bool) (r : PoisonList) : Type 0 where
  pub done : b ≡ injects (state_of l) k
  pub added : a ≡ adds (state_of l) k
  pub state : state_of r ≡ cond (injects (state_of l) k) (after_inject (state_of l) k) (state_of l)
  pub refused : b ≡ false → r ≡ l
  pub valid : (m : ℕ) → ValidList m l → k < m → ValidList m r
