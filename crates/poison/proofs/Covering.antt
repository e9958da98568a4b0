-- What the answer of the search for the run over a line says of the line, and of the entry over it in a list in memory. Assumes nothing.
use mathlib.Core.Path.{◌≡◌, refl, sym, ap, ◌∙◌}
use mathlib.Core.Bool.{Bool, true, false, ◌||◌, cond, false≢true, or-true}
use mathlib.Core.List.{List, [], ◌∷◌}
use Prim.Native.Nat.{ℕ, zero, suc, ◌≤◌, ◌<◌}
use native.Mathlib.Omega.{arith}
use lib.ListN.{length, get_or, length-map}
use Rattle.poison.specs.declared.list.PoisonList.{PoisonList}
use Rattle.poison.specs.Runs.{Run, run, end, in_run, in_runs, slots}
use Rattle.poison.specs.State.{Entry, shape, shapes, covers, kind_at, runs_in, entries_of}
use Rattle.poison.specs.Search.{cover_at}
use Rattle.poison.proofs.Moves.{nought, first_le, first_holds}
use Rattle.poison.proofs.Counts.{Place, low, mid, high, place}
use Rattle.poison.proofs.Views.{Sized, shapes_of, length_entries, entry_at}

-- what is read past the end of a list of runs
abbrev pub no_run : Run
no_run = run 0 0

-- ---- the run over a line
-- a run's lines are covered
pub covered_at : (rs : List Run) (i k : ℕ) → i < length rs → in_run (get_or rs i no_run) k ≡ true → in_runs rs k ≡ true
covered_at [] i k h e = absurd (omega arith)
covered_at (r ∷ rs) zero k h e = rw e
covered_at (r ∷ rs) (suc i) k h e = rw (covered_at rs i k (omega arith) e) (or-true (in_run r k))

pub cover_le : (rs : List Run) (k : ℕ) → cover_at rs k ≤ length rs
cover_le rs k = first_le (λ (r : Run). in_run r k) rs

-- a run found: the line is covered; none found: it is not
pub some_covers : (rs : List Run) (k : ℕ) → cover_at rs k < length rs → in_runs rs k ≡ true
some_covers rs k h = covered_at rs (cover_at rs k) k h (first_holds (λ (r : Run). in_run r k) no_run rs h)

pub none_covers : (rs : List Run) (k : ℕ) → cover_at rs k ≡ length rs → in_runs rs k ≡ false
none_covers [] k h = refl
none_covers (r ∷ rs) k h = go (in_run r k) h (none_covers rs k)
  where
    go : (b : Bool) → cond b 0 (suc (cover_at rs k)) ≡ suc (length rs) → (cover_at rs k ≡ length rs → in_runs rs k ≡ false) → (b || in_runs rs k) ≡ false
    go true h i = absurd (omega arith)
    go false h i = i (omega arith)

-- the run found has the line
pub cover_bounds : (rs : List Run) (k : ℕ) → cover_at rs k < length rs → ((get_or rs (cover_at rs k) no_run).start ≤ k) × (k < end (get_or rs (cover_at rs k) no_run))
cover_bounds rs k h = go (place (get_or rs (cover_at rs k) no_run) k)
  where
    has : in_run (get_or rs (cover_at rs k) no_run) k ≡ true
    has = first_holds (λ (x : Run). in_run x k) no_run rs h

    go : Place (get_or rs (cover_at rs k) no_run) k → ((get_or rs (cover_at rs k) no_run).start ≤ k) × (k < end (get_or rs (cover_at rs k) no_run))
    go (low u v) = absurd (false≢true (sym v ∙ has))
    go (mid u w v) = (u, w)
    go (high u w v) = absurd (false≢true (sym v ∙ has))

-- ---- the entry over a line, by its place
kind_found : (es : List Entry) (k : ℕ) → cover_at (shapes es) k < length es → kind_at es k ≡ (get_or es (cover_at (shapes es) k) nought).kind
kind_found [] k h = absurd (omega arith)
kind_found (x ∷ es) k h = go (in_run (shape x) k) h (kind_found es k)
  where
    go : (b : Bool) → cond b 0 (suc (cover_at (shapes es) k)) < suc (length es) → (cover_at (shapes es) k < length es → kind_at es k ≡ (get_or es (cover_at (shapes es) k) nought).kind) → cond b x.kind (kind_at es k) ≡ (get_or (x ∷ es) (cond b 0 (suc (cover_at (shapes es) k))) nought).kind
    go true h i = refl
    go false h i = i (omega arith)

-- ---- a list in memory, and the answer of the search for the entry over a line
pub record Searched (l : PoisonList) (k at : ℕ) : Type 0 where
  pub sized : Sized l
  pub few : l.count ≤ slots
  pub is : at ≡ cover_at (runs_in l.count l.starts l.lengths) k

pub searched : (l : PoisonList) (k at : ℕ) → Sized l → l.count ≤ slots → at ≡ cover_at (runs_in l.count l.starts l.lengths) k → Searched l k at
searched l k at sized few is = record { sized = sized; few = few; is = is }

module _ {l : PoisonList} {k at : ℕ} (s : Searched l k at) where
  pub place_over : at ≡ cover_at (shapes (entries_of l)) k
  place_over = rw (shapes_of l s.sized) s.is

  runs_held : length (shapes (entries_of l)) ≡ l.count
  runs_held = length-map (entries_of l) shape ∙ length_entries l s.sized s.few

  pub place_held : at ≤ l.count
  place_held = omega (arith, place_over, cover_le (shapes (entries_of l)) k, runs_held)

  pub covered_line : at < l.count → covers (entries_of l) k ≡ true
  covered_line h = some_covers (shapes (entries_of l)) k (omega (arith, place_over, runs_held))

  pub uncovered_line : l.count ≤ at → covers (entries_of l) k ≡ false
  uncovered_line h = none_covers (shapes (entries_of l)) k (omega (arith, place_over, place_held, runs_held))

  pub kind_at_place : at < l.count → kind_at (entries_of l) k ≡ get_or l.kinds at 0
  kind_at_place h =
      kind_found (entries_of l) k (omega (arith, place_over, length_entries l s.sized s.few))
      ∙ rw (← place_over) (ap (λ (e : Entry). e.kind) (entry_at l s.sized at h))
