-- From valid runs in arrays to what the search by halves uses, and from the place that it finds to `cover_at` and `place_of`. Assumes nothing.
use mathlib.Core.Path.{◌≡◌, refl, sym, ◌∙◌}
use mathlib.Core.Bool.{Bool, true, false, cond}
use mathlib.Core.Logic.{◌⊎◌, inl, inr}
use mathlib.Core.List.{List, [], ◌∷◌}
use Prim.Native.Nat.{ℕ, zero, suc, ◌+◌, ◌-◌, ◌≤◌, ◌<◌}
use native.Mathlib.Omega.{arith}
use borrow.Author.Tests.{lt-ltb, le-ltb, ltb-true, ltb-false, leb-true, leb-false}
use lib.Dec.{leb, ltb}
use lib.ListN.{length, get_or}
use Rattle.std.specs.Bool.{then_some}
use Rattle.poison.specs.declared.list.PoisonList.{PoisonList}
use Rattle.poison.specs.Runs.{Run, run, end, in_run, Chain}
use Rattle.poison.specs.Shift.{zip}
use Rattle.poison.specs.State.{runs_in, ValidRuns}
use Rattle.poison.specs.Search.{cover_at, place_of, Ascending, LastStart, Finds}
use Rattle.poison.proofs.Moves.{first_is, first_none}
use Rattle.poison.proofs.Counts.{below_run, past_run, inside_run}
use Rattle.poison.proofs.Zips.{length_zip, zip_getD}
use Rattle.poison.proofs.Views.{length_runs, run_at}

-- ---- a chain, by place: no run is empty, and each ends before the next starts
pub chain_from : (lo hi : ℕ) (rs : List Run) → Chain lo hi rs → (i : ℕ) (d : Run) → i < length rs → (lo ≤ (get_or rs i d).start) × (0 < (get_or rs i d).lines)
chain_from lo hi [] c i d h = absurd (omega arith)
chain_from lo hi (r ∷ rs) c zero d h = (c.0, c.1)
chain_from lo hi (r ∷ rs) c (suc i) d h = let q = chain_from (end r) hi rs c.2 i d (omega arith) in (omega arith, q.1)

pub chain_order : (lo hi : ℕ) (rs : List Run) → Chain lo hi rs → (i j : ℕ) (d : Run) → i < j → j < length rs → end (get_or rs i d) ≤ (get_or rs j d).start
chain_order lo hi [] c i j d p h = absurd (omega arith)
chain_order lo hi (r ∷ rs) c i zero d p h = absurd (omega arith)
chain_order lo hi (r ∷ rs) c zero (suc j) d p h = (chain_from (end r) hi rs c.2 j d (omega arith)).0
chain_order lo hi (r ∷ rs) c (suc i) (suc j) d p h = chain_order (end r) hi rs c.2 i j d (omega arith) (omega arith)

-- ---- runs in arrays
module _ {n : ℕ} (count : ℕ) (starts lengths : List ℕ) (v : ValidRuns n count starts lengths) where
  same : length starts ≡ length lengths
  same = v.starts_slots ∙ sym v.lengths_slots

  long : count ≤ length starts
  long = rw v.starts_slots v.few

  held : length (runs_in count starts lengths) ≡ count
  held = length_runs count starts lengths same long

  pub some_lines : (i : ℕ) → i < count → 0 < get_or lengths i 0
  some_lines i h = rw (run_at count starts lengths same i h) at (chain_from 0 n (runs_in count starts lengths) v.chain i (run 0 0) (omega (arith, held))).1

  pub apart : (i j : ℕ) → i < j → j < count → get_or starts i 0 + get_or lengths i 0 ≤ get_or starts j 0
  apart i j p h =
      let q : i < count = omega arith in
      rw (run_at count starts lengths same i q, run_at count starts lengths same j h) at (chain_order 0 n (runs_in count starts lengths) v.chain i j (run 0 0) p (omega (arith, held)))

  pub ascending : Ascending count starts
  ascending = record { few = v.few; order = λ i j p h. omega (arith, apart i j p h, some_lines i (omega arith)) }

  whole : count ≤ length (zip run starts lengths)
  whole = rw (length_zip run starts lengths same) long

  by_place : (i : ℕ) → get_or (zip run starts lengths) i (run 0 0) ≡ run (get_or starts i 0) (get_or lengths i 0)
  by_place i = zip_getD run starts lengths i 0 0 same

  module _ (line i : ℕ) (last : LastStart count starts line i) where
    before : get_or starts i 0 ≤ line → i < count → (j : ℕ) → j < i → in_run (get_or (zip run starts lengths) j (run 0 0)) line ≡ false
    before s h j p = rw (by_place j) (past_run (run (get_or starts j 0) (get_or lengths j 0)) line (omega (arith, apart j i p h)))

    past : (j : ℕ) → i < j → j < count → in_run (get_or (zip run starts lengths) j (run 0 0)) line ≡ false
    past j p h = rw (by_place j) (below_run (run (get_or starts j 0) (get_or lengths j 0)) line (last.above j p h))

    -- the line is in the run found
    pub cover_found : 0 < count → get_or starts i 0 ≤ line → line - get_or starts i 0 < get_or lengths i 0 → i ≡ cover_at (runs_in count starts lengths) line
    cover_found z s t =
        let h : i < count = last.within z in
        sym
        (first_is (λ (r : Run). in_run r line) (run 0 0) (zip run starts lengths) count i h whole (before s h)
        (rw (by_place i) (inside_run (run (get_or starts i 0) (get_or lengths i 0)) line s (omega arith))))

    -- the line is not in the run found: it is in none
    none_at : 0 < count → (line < get_or starts i 0) ⊎ (get_or starts i 0 + get_or lengths i 0 ≤ line) → (j : ℕ) → j < count → in_run (get_or (zip run starts lengths) j (run 0 0)) line ≡ false
    none_at z o j h = by_order (leb j i) (leb i j) refl refl
      where
        at_i : (line < get_or starts i 0) ⊎ (get_or starts i 0 + get_or lengths i 0 ≤ line) → in_run (run (get_or starts i 0) (get_or lengths i 0)) line ≡ false
        at_i (inl p) = below_run (run (get_or starts i 0) (get_or lengths i 0)) line p
        at_i (inr p) = past_run (run (get_or starts i 0) (get_or lengths i 0)) line p

        by_order : (a b : Bool) → leb j i ≡ a → leb i j ≡ b → in_run (get_or (zip run starts lengths) j (run 0 0)) line ≡ false
        by_order true true s t =
            let p = leb-true j i s in
            let q = leb-true i j t in
            let e : j ≡ i = omega arith in
            rw (e, by_place i) (at_i o)
        by_order true false s t = let q = leb-false i j t in before (last.below (omega arith)) (last.within z) j q
        by_order false b s t = past j (leb-false j i s) h

    pub cover_none : 0 < count → (line < get_or starts i 0) ⊎ (get_or starts i 0 + get_or lengths i 0 ≤ line) → count ≡ cover_at (runs_in count starts lengths) line
    cover_none z o = sym (first_none (λ (r : Run). in_run r line) (run 0 0) (zip run starts lengths) count whole (none_at z o))

    -- ---- the place of an entry that starts at the line
    passed : (j : ℕ) → get_or starts j 0 ≤ line → ltb line (get_or (zip run starts lengths) j (run 0 0)).start ≡ false
    passed j p = rw (by_place j) (le-ltb line (get_or starts j 0) p)

    reached : (j : ℕ) → line < get_or starts j 0 → ltb line (get_or (zip run starts lengths) j (run 0 0)).start ≡ true
    reached j p = rw (by_place j) (lt-ltb line (get_or starts j 0) p)

    -- the first place from which the starts are past the line
    place_at : (k : ℕ) → k ≤ count → ((j : ℕ) → j < k → get_or starts j 0 ≤ line) → (k < count → line < get_or starts k 0) → k ≡ place_of (runs_in count starts lengths) line
    place_at k h low high = by_end (ltb k count) refl
      where
        by_end : (b : Bool) → ltb k count ≡ b → k ≡ place_of (runs_in count starts lengths) line
        by_end true e =
            let p : k < count = ltb-true k count e in
            sym (first_is (λ (r : Run). ltb line r.start) (run 0 0) (zip run starts lengths) count k p whole (λ j q. passed j (low j q)) (reached k (high p)))
        by_end false e =
            let p : count ≤ k = ltb-false k count e in
            let q : k ≡ count = omega arith in
            rw q (sym (first_none (λ (r : Run). ltb line r.start) (run 0 0) (zip run starts lengths) count whole (λ j w. passed j (low j (omega arith)))))

    pub place_found : 0 < count → (start r : ℕ) → start ≡ get_or starts i 0 → r ≡ cond (leb start line) (i + 1) i → r ≡ place_of (runs_in count starts lengths) line
    place_found z start r e f = by_start (leb (get_or starts i 0) line) refl (f ∙ rw e)
      where
        by_start : (b : Bool) → leb (get_or starts i 0) line ≡ b → r ≡ cond (leb (get_or starts i 0) line) (i + 1) i → r ≡ place_of (runs_in count starts lengths) line
        by_start true t g =
            let s : get_or starts i 0 ≤ line = leb-true (get_or starts i 0) line t in
            let h : i < count = last.within z in
            rw (g, t)
            (place_at (i + 1) (omega arith) (λ j p. by_order j p (leb i j) refl) (λ p. last.above (i + 1) (omega arith) p))
          where
            by_order : (j : ℕ) → j < i + 1 → (b : Bool) → leb i j ≡ b → get_or starts j 0 ≤ line
            by_order j p true u =
                let w = leb-true i j u in
                let q : j ≡ i = omega arith in
                rw q (leb-true (get_or starts i 0) line t)
            by_order j p false u = omega (arith, apart j i (leb-false i j u) (last.within z), leb-true (get_or starts i 0) line t)
        by_start false t g =
            let s : line < get_or starts i 0 = leb-false (get_or starts i 0) line t in
            let first : (0 < i → ⊥) = λ p. omega (arith, last.below p) in
            let e0 : i ≡ 0 = by_zero i first in
            rw (g, t)
            (place_at i (omega (arith, last.within z)) (λ j p. absurd (omega arith)) (λ p. s))
          where
            by_zero : (k : ℕ) → (0 < k → ⊥) → k ≡ 0
            by_zero zero f = refl
            by_zero (suc k) f = absurd (f (omega arith))

-- what the code's test of the run at the last start gives
pub finds_tested : {n : ℕ} (l : PoisonList) → ValidRuns n l.count l.starts l.lengths → (line i : ℕ) → LastStart l.count l.starts line i → 0 < l.count → (ahead : ℕ) → (get_or l.starts i 0 ≤ line) × (ahead ≡ line - get_or l.starts i 0) → Finds l line (then_some (ltb ahead (get_or l.lengths i 0)) i)
finds_tested l v line i last some ahead e = go (ltb ahead (get_or l.lengths i 0)) refl
  where
    go : (b : Bool) → ltb ahead (get_or l.lengths i 0) ≡ b → Finds l line (then_some b i)
    go true t = (cover_found l.count l.starts l.lengths v line i last some e.0 (omega (arith, ltb-true ahead (get_or l.lengths i 0) t, e.1)), last.within some)
    go false t = cover_none l.count l.starts l.lengths v line i last some (inr (omega (arith, ltb-false ahead (get_or l.lengths i 0) t, e.0, e.1)))

-- no entries
pub cover_empty : (count : ℕ) (starts lengths : List ℕ) (line : ℕ) → count ≡ 0 → count ≡ cover_at (runs_in count starts lengths) line
cover_empty count starts lengths line e = rw e

pub place_empty : (count : ℕ) (starts lengths : List ℕ) (line : ℕ) → count ≡ 0 → 0 ≡ place_of (runs_in count starts lengths) line
place_empty count starts lengths line e = rw e
