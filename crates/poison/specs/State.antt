-- The poison list as document 01 speaks of it (the view), what a list in memory stands for, and what holds of every list made and
-- changed by these calls.
use Rattle.std.specs.Prelude.{◌≡◌, Bool, false, cond, List, [], ◌∷◌, map, ℕ, ◌+◌, ◌≤◌, ◌<◌, ltb, length, take}
use Rattle.poison.specs.declared.list.PoisonList.{PoisonList}
use Rattle.poison.specs.Runs.{Run, run, in_run, in_runs, total, Chain, slots}
use Rattle.poison.specs.Shift.{zip}

-- an entry is a start (a line), a length in lines and a type
pub record Entry : Type 0 where
  pub start : ℕ
  pub lines : ℕ
  pub kind : ℕ

-- the entries in ascending address order, the overflow flag and the overflow time
pub record PoisonState : Type 0 where
  pub entries : List Entry
  pub overflow : Bool
  pub overflow_time : ℕ

-- a new list
abbrev pub empty : PoisonState
empty = record { entries = []; overflow = false; overflow_time = 0 }

-- an entry's lines as a run; a run as an entry of a type
abbrev pub shape : Entry → Run
shape e = record { start = e.start; lines = e.lines }

abbrev pub entry : ℕ → Run → Entry
entry kind r = record { start = r.start; lines = r.lines; kind = kind }

abbrev pub shapes : List Entry → List Run
shapes es = map shape es

-- whether an entry covers line k
abbrev pub covers : List Entry → ℕ → Bool
covers es k = in_runs (shapes es) k

-- the type of the entry over line k, 0 where there is none
abbrev pub kind_at : List Entry → ℕ → ℕ
kind_at [] k = 0
kind_at (e ∷ es) k = cond (in_run (shape e) k) e.kind (kind_at es k)

-- an entry put in its place, in address order
abbrev pub insert_entry : Entry → List Entry → List Entry
insert_entry e [] = e ∷ []
insert_entry e (x ∷ xs) = cond (ltb e.start x.start) (e ∷ x ∷ xs) (x ∷ insert_entry e xs)

abbrev pub insert_entries : List Entry → List Entry → List Entry
insert_entries [] xs = xs
insert_entries (e ∷ es) xs = insert_entries es (insert_entry e xs)

-- damage total: the sum of entry lengths
abbrev pub damage_total : PoisonState → ℕ
damage_total s = total (shapes s.entries)

-- ---- what a list in memory stands for
-- the first n of the runs, and of the entries, that stand side by side in arrays
abbrev pub runs_in : ℕ → List ℕ → List ℕ → List Run
runs_in n starts lengths = take n (zip run starts lengths)

abbrev pub entries_in : ℕ → List ℕ → List ℕ → List ℕ → List Entry
entries_in n starts lengths kinds = take n (zip (λ r k. entry k r) (zip run starts lengths) kinds)

abbrev pub entries_of : PoisonList → List Entry
entries_of l = entries_in l.count l.starts l.lengths l.kinds

-- the sum of some numbers; of the first n lengths that stand in an array
abbrev pub sum_of : List ℕ → ℕ
sum_of [] = 0
sum_of (n ∷ ns) = n + sum_of ns

abbrev pub total_in : ℕ → List ℕ → ℕ
total_in n lengths = sum_of (take n lengths)

-- the list in memory that three arrays, a count, the flag and its time make up
abbrev pub list_of : List ℕ → List ℕ → List ℕ → ℕ → Bool → ℕ → PoisonList
list_of starts lengths kinds count overflow time =
    record { starts = starts; lengths = lengths; kinds = kinds; count = count; overflow = overflow; overflow_time = time }

abbrev pub state_of : PoisonList → PoisonState
state_of l = record { entries = entries_of l; overflow = l.overflow; overflow_time = l.overflow_time }

-- ---- validity
-- the lines of the largest device: 1,023 units of 4,194,304 lines
abbrev pub capacity : ℕ
capacity = 4290772992

-- runs in arrays of 256 slots: at most 256, ascending, none empty, no line in two, all among the first n lines
pub record ValidRuns (n count : ℕ) (starts lengths : List ℕ) : Type 0 where
  pub few : count ≤ slots
  pub starts_slots : length starts ≡ slots
  pub lengths_slots : length lengths ≡ slots
  pub chain : Chain 0 n (runs_in count starts lengths)

-- every type has three bits
abbrev pub Typed : List Entry → Type 0
Typed [] = Unit {0}
Typed (e ∷ es) = (e.kind < 8) × Typed es

-- a list on a device of n lines: at most 256 entries, ascending, none empty, no line in two, all on the device, each of a type
pub record ValidList (n : ℕ) (l : PoisonList) : Type 0 where
  pub few : l.count ≤ slots
  pub chain : Chain 0 n (shapes (entries_of l))
  pub typed : Typed (entries_of l)

-- the same, whatever the types: enough for a line test
pub record ValidShapes (n : ℕ) (l : PoisonList) : Type 0 where
  pub few : l.count ≤ slots
  pub chain : Chain 0 n (shapes (entries_of l))

-- a valid list's arrays, lent: 256 slots each, and the first `count` entries as a valid list has them; the flag and its time do not matter
pub record ValidSlots (n count : ℕ) (starts lengths kinds : List ℕ) : Type 0 where
  pub runs : ValidRuns n count starts lengths
  pub kinds_slots : length kinds ≡ slots
  pub typed : Typed (entries_in count starts lengths kinds)

-- a new list in memory
pub record Made (r : PoisonList) : Type 0 where
  pub state : state_of r ≡ empty
  pub valid : (n : ℕ) → ValidList n r
