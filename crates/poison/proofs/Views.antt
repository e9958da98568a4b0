-- A list in memory and its view: the entries and the runs that its arrays hold, by place; and what a valid list gives a search. Assumes nothing.
use mathlib.Core.Path.{◌≡◌, refl, sym, ap, ◌∙◌}
use mathlib.Core.Bool.{Bool}
use mathlib.Core.List.{List, [], ◌∷◌}
use Prim.Native.Nat.{ℕ, zero, suc, ◌≤◌, ◌<◌}
use native.Mathlib.Omega.{arith}
use lib.ListN.{length, take, get_or}
use lib.Seq.{length-take-le, get_or-take}
use Rattle.poison.specs.declared.list.PoisonList.{PoisonList}
use Rattle.poison.specs.Runs.{Run, run}
use Rattle.poison.specs.Shift.{zip}
use Rattle.poison.specs.State.{Entry, shapes, entry, runs_in, entries_in, entries_of, list_of, ValidRuns, ValidList, ValidShapes, ValidSlots}
use Rattle.poison.proofs.Zips.{length_zip, zip_getD}

-- a run and a type as an entry
abbrev pub typed_as : Run → ℕ → Entry
typed_as r k = entry k r

-- ---- any arrays
-- the runs of the entries are those of the starts and lengths
shapes_zip : (n : ℕ) (rs : List Run) (kinds : List ℕ) → length rs ≡ length kinds → shapes (take n (zip typed_as rs kinds)) ≡ take n rs
shapes_zip zero rs kinds e = refl
shapes_zip (suc n) [] kinds e = refl
shapes_zip (suc n) (r ∷ rs) [] e = absurd (omega arith)
shapes_zip (suc n) (r ∷ rs) (k ∷ kinds) e = ap (λ (xs : List Run). r ∷ xs) (shapes_zip n rs kinds (omega arith))

module _ (n : ℕ) (starts lengths : List ℕ) (same : length starts ≡ length lengths) where
  pub length_runs : n ≤ length starts → length (runs_in n starts lengths) ≡ n
  length_runs h = length-take-le n (zip run starts lengths) (rw (length_zip run starts lengths same) h)

  pub run_at : (i : ℕ) → i < n → get_or (runs_in n starts lengths) i (run 0 0) ≡ run (get_or starts i 0) (get_or lengths i 0)
  run_at i h = get_or-take n (zip run starts lengths) i (run 0 0) h ∙ zip_getD run starts lengths i 0 0 same

  module _ (kinds : List ℕ) (same_kinds : length starts ≡ length kinds) where
    runs_kinds : length (zip run starts lengths) ≡ length kinds
    runs_kinds = length_zip run starts lengths same ∙ same_kinds

    pub shapes_in : shapes (entries_in n starts lengths kinds) ≡ runs_in n starts lengths
    shapes_in = shapes_zip n (zip run starts lengths) kinds runs_kinds

    pub length_entries_in : n ≤ length starts → length (entries_in n starts lengths kinds) ≡ n
    length_entries_in h =
        length-take-le n (zip typed_as (zip run starts lengths) kinds)
        (rw (length_zip typed_as (zip run starts lengths) kinds runs_kinds, length_zip run starts lengths same) h)

    pub entry_in : (i : ℕ) → i < n → get_or (entries_in n starts lengths kinds) i (entry 0 (run 0 0)) ≡ entry (get_or kinds i 0) (run (get_or starts i 0) (get_or lengths i 0))
    entry_in i h =
        get_or-take n (zip typed_as (zip run starts lengths) kinds) i (entry 0 (run 0 0)) h
        ∙ zip_getD typed_as (zip run starts lengths) kinds i (run 0 0) 0 runs_kinds
        ∙ ap (λ (r : Run). entry (get_or kinds i 0) r) (zip_getD run starts lengths i 0 0 same)

-- ---- a list in memory, whose arrays have 256 slots
pub record Sized (l : PoisonList) : Type 0 where
  pub starts : length l.starts ≡ 256
  pub lengths : length l.lengths ≡ 256
  pub kinds : length l.kinds ≡ 256

module _ (l : PoisonList) (sized : Sized l) where
  pub same_lengths : length l.starts ≡ length l.lengths
  same_lengths = sized.starts ∙ sym sized.lengths

  pub same_kinds : length l.starts ≡ length l.kinds
  same_kinds = sized.starts ∙ sym sized.kinds

  -- the entries' runs are those that the search goes through
  pub shapes_of : shapes (entries_of l) ≡ runs_in l.count l.starts l.lengths
  shapes_of = shapes_in l.count l.starts l.lengths same_lengths l.kinds same_kinds

  pub length_entries : l.count ≤ 256 → length (entries_of l) ≡ l.count
  length_entries h = length_entries_in l.count l.starts l.lengths same_lengths l.kinds same_kinds (rw sized.starts h)

  pub entry_at : (i : ℕ) → i < l.count → get_or (entries_of l) i (entry 0 (run 0 0)) ≡ entry (get_or l.kinds i 0) (run (get_or l.starts i 0) (get_or l.lengths i 0))
  entry_at i h = entry_in l.count l.starts l.lengths same_lengths l.kinds same_kinds i h

  pub shapes_runs : {n : ℕ} → ValidShapes n l → ValidRuns n l.count l.starts l.lengths
  shapes_runs v = record { few = v.few; starts_slots = sized.starts; lengths_slots = sized.lengths; chain = rw (← shapes_of) v.chain }

  pub valid_runs : {n : ℕ} → ValidList n l → ValidRuns n l.count l.starts l.lengths
  valid_runs v = record { few = v.few; starts_slots = sized.starts; lengths_slots = sized.lengths; chain = rw (← shapes_of) v.chain }

-- a valid list's runs are in order, whatever its types
pub valid_shapes : {n : ℕ} {l : PoisonList} → ValidList n l → ValidShapes n l
valid_shapes v = record { few = v.few; chain = v.chain }

-- ---- the arrays of a valid list, lent, and the list that they make up with any flag and time
pub valid_slots : (l : PoisonList) → Sized l → {n : ℕ} → ValidList n l → ValidSlots n l.count l.starts l.lengths l.kinds
valid_slots l sized v = record { runs = valid_runs l sized v; kinds_slots = sized.kinds; typed = v.typed }

module _ {n count : ℕ} {starts lengths kinds : List ℕ} (v : ValidSlots n count starts lengths kinds) (overflow : Bool) (time : ℕ) where
  pub slots_sized : Sized (list_of starts lengths kinds count overflow time)
  slots_sized = record { starts = v.runs.starts_slots; lengths = v.runs.lengths_slots; kinds = v.kinds_slots }

  pub slots_valid : ValidList n (list_of starts lengths kinds count overflow time)
  slots_valid = record { few = v.runs.few; chain = rw (shapes_of (list_of starts lengths kinds count overflow time) slots_sized) v.runs.chain; typed = v.typed }
