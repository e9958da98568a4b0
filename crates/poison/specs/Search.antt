-- Where an entry lies: what the search by halves finds.
use Rattle.std.specs.Prelude.{◌≡◌, Option, Some, None, List, ℕ, ◌≤◌, ◌<◌, ltb, get_or}
use Rattle.poison.specs.declared.list.PoisonList.{PoisonList}
use Rattle.poison.specs.Runs.{Run, in_run, slots}
use Rattle.poison.specs.Shift.{first_at}
use Rattle.poison.specs.State.{runs_in}

-- the place of the run over line k, or the number of runs where none covers it
abbrev pub cover_at : List Run → ℕ → ℕ
cover_at rs k = first_at (λ r. in_run r k) rs

-- the place of a run that starts at line k: before the first that starts past it
abbrev pub place_of : List Run → ℕ → ℕ
place_of rs k = first_at (λ r. ltb k r.start) rs

-- what the search answers for line k of a list in memory: the place of the entry over it, or none where no entry covers it
abbrev pub Finds : PoisonList → ℕ → Option ℕ → Type 0
Finds l k None = l.count ≡ cover_at (runs_in l.count l.starts l.lengths) k
Finds l k (Some at) = (at ≡ cover_at (runs_in l.count l.starts l.lengths) k) × (at < l.count)

-- ---- the search by halves, among starts alone
-- at most 256 starts, each past the one before it
pub record Ascending (count : ℕ) (starts : List ℕ) : Type 0 where
  pub few : count ≤ slots
  pub order : (i j : ℕ) → i < j → j < count → get_or starts i 0 < get_or starts j 0

-- i is the place of the last start at or before a line, or the first place where there is none
pub record LastStart (count : ℕ) (starts : List ℕ) (line i : ℕ) : Type 0 where
  pub within : 0 < count → i < count
  pub below : 0 < i → get_or starts i 0 ≤ line
  pub above : (j : ℕ) → i < j → j < count → line < get_or starts j 0
