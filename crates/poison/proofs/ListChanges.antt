-- The list's own small changes in memory, by the view: what is done to the three arrays is done to the entries; the sum of the lengths.
-- Assumes nothing.
use mathlib.Core.Path.{◌≡◌, refl, sym, ap, ◌∙◌}
use mathlib.Core.Bool.{Bool, true, false, cond}
use mathlib.Core.List.{List, [], ◌∷◌, ◌++◌}
use Prim.Native.Nat.{ℕ, zero, suc, ◌+◌, ◌-◌, ◌≤◌, ◌<◌}
use native.Mathlib.Omega.{arith}
use lib.Dec.{ltb}
use lib.ListN.{length, take, drop, get_or, set, length-map, length-set}
use lib.Seq.{set-get_or, take-set-lt}
use Rattle.std.specs.List.{sum}
use Rattle.std.proofs.lemmas.List.Sums.{sum_by-cons}
use Rattle.poison.specs.declared.list.PoisonList.{PoisonList}
use Rattle.poison.specs.Runs.{Run, run, total}
use Rattle.poison.specs.Shift.{zip, put_at, pullAt}
use Rattle.poison.specs.Moved.{EntryAdded, EntryRemoved}
use Rattle.poison.specs.Report.{dropped_at}
use Rattle.poison.specs.State.{Entry, PoisonState, entry, shape, shapes, runs_in, entries_in, entries_of, list_of, state_of, insert_entry, damage_total, sum_of, total_in}
use Rattle.poison.specs.Search.{place_of}
use Rattle.poison.proofs.Moves.{take_put, length_put, take_pull, first_le}
use Rattle.poison.proofs.Zips.{length_zip, zip_put, zip_pull, zip_set}
use Rattle.poison.proofs.Views.{Sized, typed_as, same_lengths, same_kinds, shapes_of, length_entries}

-- ---- what is done to a list in memory, by the view
-- the list with other entries, flag and time as they were
abbrev pub with_entries : PoisonState → List Entry → PoisonState
with_entries s es = record { entries = es; overflow = s.overflow; overflow_time = s.overflow_time }

-- r is l with an entry more at place `at`
pub record InsertedAt (l : PoisonList) (at start lines kind : ℕ) (r : PoisonList) : Type 0 where
  pub state : state_of r ≡ with_entries (state_of l) (take at (entries_of l) ++ (entry kind (run start lines) ∷ drop at (entries_of l)))
  pub count : r.count ≡ l.count + 1
  pub sized : Sized r

-- r is l with an entry more, in its place in address order
pub record Inserted (l : PoisonList) (start lines kind : ℕ) (r : PoisonList) : Type 0 where
  pub state : state_of r ≡ with_entries (state_of l) (insert_entry (entry kind (run start lines)) (entries_of l))
  pub count : r.count ≡ l.count + 1
  pub sized : Sized r

-- r is l after a drop at a time: the flag is set, and the first drop sets the overflow time
pub record Flagged (l : PoisonList) (time : ℕ) (r : PoisonList) : Type 0 where
  pub state : state_of r ≡ record { entries = entries_of l; overflow = true; overflow_time = cond l.overflow l.overflow_time time }
  pub count : r.count ≡ l.count

-- r is l without the entry at place `at`
pub record RemovedAt (l : PoisonList) (at : ℕ) (r : PoisonList) : Type 0 where
  pub state : state_of r ≡ with_entries (state_of l) (take at (entries_of l) ++ drop (at + 1) (entries_of l))
  pub count : r.count ≡ l.count - 1

-- r is l with another entry at place `at`
pub record ReplacedAt (l : PoisonList) (at start lines kind : ℕ) (r : PoisonList) : Type 0 where
  pub state : state_of r ≡ with_entries (state_of l) (set (entries_of l) at (entry kind (run start lines)))
  pub count : r.count ≡ l.count

-- ---- the entries, where the same is done to each of the three arrays
module _ (starts lengths kinds : List ℕ) (same : length starts ≡ length lengths) (same_k : length starts ≡ length kinds) where
  runs : List Run
  runs = zip run starts lengths

  all : List Entry
  unfolding runs
  all = zip typed_as runs kinds

  runs_long : length runs ≡ length kinds
  unfolding runs
  runs_long = length_zip run starts lengths same ∙ same_k

  all_long : length all ≡ length starts
  unfolding runs all
  all_long = length_zip typed_as runs kinds runs_long ∙ length_zip run starts lengths same

  pub entries_put : (at n start lines kind : ℕ) → at ≤ n → n < length starts → entries_in (n + 1) (put_at at n start starts) (put_at at n lines lengths) (put_at at n kind kinds) ≡ take at (entries_in n starts lengths kinds) ++ (entry kind (run start lines) ∷ drop at (entries_in n starts lengths kinds))
  unfolding runs all
  entries_put at n start lines kind h k =
      rw (zip_put run at n start lines starts lengths same, zip_put typed_as at n (run start lines) kind runs kinds runs_long)
      (take_put all at n (entry kind (run start lines)) h (rw all_long k))

  pub entries_pull : (at n : ℕ) → at ≤ n → n < length starts → entries_in n (pullAt at n starts) (pullAt at n lengths) (pullAt at n kinds) ≡ take at (entries_in (n + 1) starts lengths kinds) ++ drop (at + 1) (entries_in (n + 1) starts lengths kinds)
  unfolding runs all
  entries_pull at n h k =
      rw (zip_pull run at n starts lengths same, zip_pull typed_as at n runs kinds runs_long)
      (take_pull all at n h (rw all_long k))

  pub entries_set : (at n start lines : ℕ) → at < n → entries_in n (set starts at start) (set lengths at lines) kinds ≡ set (entries_in n starts lengths kinds) at (entry (get_or kinds at 0) (run start lines))
  unfolding runs all
  entries_set at n start lines h =
      rw (zip_set run starts lengths at start lines)
      (ap (λ (ks : List ℕ). take n (zip typed_as (set runs at (run start lines)) ks)) (sym (set-get_or kinds at 0))
      ∙ rw (zip_set typed_as runs kinds at (run start lines) (get_or kinds at 0)) (take-set-lt n all at (entry (get_or kinds at 0) (run start lines)) h))

-- ---- insertion in address order is insertion at the place found
pub insert_is : (e : Entry) (es : List Entry) → insert_entry e es ≡ take (place_of (shapes es) e.start) es ++ (e ∷ drop (place_of (shapes es) e.start) es)
insert_is e [] = refl
insert_is e (x ∷ xs) = go (ltb e.start x.start) (insert_is e xs)
  where
    p : ℕ
    p = place_of (shapes xs) e.start

    go : (b : Bool) → insert_entry e xs ≡ take p xs ++ (e ∷ drop p xs) → cond b (e ∷ x ∷ xs) (x ∷ insert_entry e xs) ≡ take (cond b 0 (suc p)) (x ∷ xs) ++ (e ∷ drop (cond b 0 (suc p)) (x ∷ xs))
    go true i = refl
    go false i = ap (λ (l : List Entry). x ∷ l) i

-- ---- states are equal by their parts
pub state_path : {es fs : List Entry} {o p : Bool} {s t : ℕ} → es ≡ fs → o ≡ p → s ≡ t → ◌≡◌ {A = PoisonState} (record { entries = es; overflow = o; overflow_time = s }) (record { entries = fs; overflow = p; overflow_time = t })
state_path a b c = λ i. record { entries = a i; overflow = b i; overflow_time = c i }

-- ---- a list in memory whose count is another
abbrev pub recount : PoisonList → ℕ → PoisonList
recount l m = list_of l.starts l.lengths l.kinds m l.overflow l.overflow_time

same_list : {l r : PoisonList} → recount r l.count ≡ l → r.count ≡ l.count → r ≡ l
same_list {l} {r} e n = ap (recount r) n ∙ e

-- an insertion by what stands in memory before it and after it: of lists with the same arrays, flag and time, the counts are equal, however the code comes by them
pub added_by : {l l' r r' : PoisonList} {at start lines kind : ℕ} → EntryAdded l' at start lines kind r' → l'.count ≡ l.count → r.count ≡ r'.count → recount l' l.count ≡ l → recount r r'.count ≡ r' → EntryAdded l at start lines kind r
added_by {l} {l'} {r} {r'} added n m e f =
    rw (← same_list e n, same_list f m) added

-- ---- lists in memory
module _ (l : PoisonList) (sized : Sized l) where
  pub inserted_at : {r : PoisonList} {at start lines kind : ℕ} → at ≤ l.count → l.count < 256 → EntryAdded l at start lines kind r → InsertedAt l at start lines kind r
  inserted_at {r} {at} {start} {lines} {kind} h k e =
      let p = e.arrays in
      record {
        state =
            state_path
            (rw (p.starts, p.lengths, p.kinds, e.count) (entries_put l.starts l.lengths l.kinds (same_lengths l sized) (same_kinds l sized) at l.count start lines kind h (rw sized.starts k)))
            e.overflow e.overflow_time;
        count = e.count;
        sized =
            record {
              starts = rw p.starts (length_put l.starts at l.count start h (rw sized.starts k) ∙ sized.starts);
              lengths = rw p.lengths (length_put l.lengths at l.count lines h (rw sized.lengths k) ∙ sized.lengths);
              kinds = rw p.kinds (length_put l.kinds at l.count kind h (rw sized.kinds k) ∙ sized.kinds);
            };
      }

  -- the place that the search finds is one of the list's
  pub place_within : (at start : ℕ) → l.count ≤ 256 → at ≡ place_of (runs_in l.count l.starts l.lengths) start → at ≤ l.count
  place_within at start h e =
      let q : length (runs_in l.count l.starts l.lengths) ≡ l.count = ap length (sym (shapes_of l sized)) ∙ (length-map (entries_of l) shape ∙ length_entries l sized h) in
      rw e (omega (arith, first_le (λ (x : Run). ltb start x.start) (runs_in l.count l.starts l.lengths), q))

  pub inserted : (r : PoisonList) (at start lines kind : ℕ) → at ≡ place_of (runs_in l.count l.starts l.lengths) start → InsertedAt l at start lines kind r → Inserted l start lines kind r
  inserted r at start lines kind e i =
      record {
        state =
            i.state
            ∙ state_path
            (ap (λ (k : ℕ). take k (entries_of l) ++ (entry kind (run start lines) ∷ drop k (entries_of l))) (e ∙ ap (λ (rs : List Run). place_of rs start) (sym (shapes_of l sized)))
            ∙ sym (insert_is (entry kind (run start lines)) (entries_of l)))
            refl refl;
        count = i.count;
        sized = i.sized;
      }

  -- an entry that is put in where the search says
  pub inserted_there : {r : PoisonList} {at start lines kind : ℕ} → at ≡ place_of (runs_in l.count l.starts l.lengths) start → l.count < 256 → EntryAdded l at start lines kind r → Inserted l start lines kind r
  inserted_there {r} {at} {start} {lines} {kind} e less added =
      let few : l.count ≤ 256 = omega arith in
      inserted r at start lines kind e (inserted_at (place_within at start few e) less added)

  pub removed_at : {r : PoisonList} {at : ℕ} → at < l.count → l.count ≤ 256 → EntryRemoved l at r → RemovedAt l at r
  removed_at {r} {at} h k e =
      let p = e.arrays in
      let n : l.count - 1 + 1 ≡ l.count = omega arith in
      let w : at ≤ l.count - 1 = omega arith in
      let u : l.count - 1 < 256 = omega arith in
      record {
        state =
            state_path
            (rw (p.starts, p.lengths, p.kinds, e.count) (entries_pull l.starts l.lengths l.kinds (same_lengths l sized) (same_kinds l sized) at (l.count - 1) w (rw sized.starts u))
            ∙ ap (λ (m : ℕ). take at (entries_in m l.starts l.lengths l.kinds) ++ drop (at + 1) (entries_in m l.starts l.lengths l.kinds)) n)
            e.overflow e.overflow_time;
        count = e.count;
      }

-- ---- another start and length at a place, the type as it was; another length alone
abbrev pub replaced_by : PoisonList → ℕ → ℕ → ℕ → PoisonList
replaced_by l at start lines = list_of (set l.starts at start) (set l.lengths at lines) l.kinds l.count l.overflow l.overflow_time

abbrev pub shortened : PoisonList → ℕ → ℕ → PoisonList
shortened l at lines = list_of l.starts (set l.lengths at lines) l.kinds l.count l.overflow l.overflow_time

module _ (l : PoisonList) (sized : Sized l) (at : ℕ) where
  pub replaced_at : (start lines : ℕ) → at < l.count → ReplacedAt l at start lines (get_or l.kinds at 0) (replaced_by l at start lines)
  replaced_at start lines h =
      record { state = state_path (entries_set l.starts l.lengths l.kinds (same_lengths l sized) (same_kinds l sized) at l.count start lines h) refl refl; count = refl }

  pub shortened_sized : (lines : ℕ) → Sized (shortened l at lines)
  shortened_sized lines = record { starts = sized.starts; lengths = length-set l.lengths at lines ∙ sized.lengths; kinds = sized.kinds }

  pub shortened_at : (lines : ℕ) → at < l.count → ReplacedAt l at (get_or l.starts at 0) lines (get_or l.kinds at 0) (shortened l at lines)
  shortened_at lines h =
      rw set-get_or at (replaced_at (get_or l.starts at 0) lines h)

-- ---- the sum of the lengths
sum_is : (ns : List ℕ) → sum ns ≡ sum_of ns
sum_is [] = refl
sum_is (n ∷ ns) = rw sum_by-cons (ap (λ (k : ℕ). n + k) (sum_is ns))

total_runs : (n : ℕ) (starts lengths : List ℕ) → length starts ≡ length lengths → total (runs_in n starts lengths) ≡ total_in n lengths
total_runs zero starts lengths e = refl
total_runs (suc n) [] [] e = refl
total_runs (suc n) [] (m ∷ lengths) e = absurd (omega arith)
total_runs (suc n) (s ∷ starts) [] e = absurd (omega arith)
total_runs (suc n) (s ∷ starts) (m ∷ lengths) e = ap (λ (k : ℕ). m + k) (total_runs n starts lengths (omega arith))

pub total_is : (l : PoisonList) (sized : Sized l) → total_in l.count l.lengths ≡ damage_total (state_of l)
total_is l sized = sym (ap total (shapes_of l sized) ∙ total_runs l.count l.starts l.lengths (same_lengths l sized))

pub sum_total : (l : PoisonList) (sized : Sized l) → sum (take l.count l.lengths) ≡ damage_total (state_of l)
sum_total l sized = sum_is (take l.count l.lengths) ∙ total_is l sized

-- ---- the flag set at a drop, with the time of the first
pub flagged : (l : PoisonList) (time : ℕ) {r : PoisonList} → r ≡ dropped_at l time → Flagged l time r
flagged l time e = rw e (record { state = refl; count = refl })
