-- How far the lines from a line on are all covered, or all uncovered, by the run over it and the run after it: what the code of a media
-- report finds from the search's answers. Assumes nothing.
use mathlib.Core.Path.{◌≡◌, refl, sym, ◌∙◌}
use mathlib.Core.Bool.{Bool, true, false, ◌||◌, cond, true≢false}
use mathlib.Core.List.{List, [], ◌∷◌}
use mathlib.Core.Logic.{◌⊎◌, inl, inr}
use Prim.Native.Nat.{ℕ, zero, suc, ◌+◌, ◌≤◌, ◌<◌, min}
use native.Mathlib.Omega.{arith}
use borrow.Author.Tests.{ltb-true, ltb-false, leb-true, leb-false}
use lib.Dec.{ltb, leb}
use lib.ListN.{length, get_or}
use Rattle.poison.specs.Runs.{Run, run, end, in_run, in_runs, Chain}
use Rattle.poison.specs.State.{runs_in, ValidRuns}
use Rattle.poison.specs.Search.{cover_at, place_of}
use Rattle.poison.specs.Stretch.{Stretches}
use Rattle.poison.proofs.Moves.{first_holds}
use Rattle.poison.proofs.Counts.{Place, low, mid, high, place, below_run, past_run, inside_run, chain_le, chain_low}
use Rattle.poison.proofs.Views.{length_runs, run_at}
use Rattle.poison.proofs.Places.{chain_from}
use Rattle.poison.proofs.Covering.{no_run, covered_at, none_covers, cover_bounds}

-- ---- a run of a chain ends where the chain does or before
pub chain_end : (lo hi i : ℕ) (rs : List Run) → Chain lo hi rs → i < length rs → end (get_or rs i no_run) ≤ hi
chain_end lo hi i [] c h = absurd (omega arith)
chain_end lo hi zero (r ∷ rs) c h = chain_le (end r) hi rs c.2
chain_end lo hi (suc i) (r ∷ rs) c h = chain_end (end r) hi i rs c.2 (omega arith)

-- ---- the run after a line that none covers
-- from there on, up to the next run, no line is covered
pub free_until : (lo hi a k : ℕ) (rs : List Run) → Chain lo hi rs → in_runs rs a ≡ false → a ≤ k → (place_of rs a < length rs → k < (get_or rs (place_of rs a) no_run).start) → in_runs rs k ≡ false
free_until lo hi a k [] c e h f = refl
free_until lo hi a k (x ∷ rs) c e h f = go (ltb a x.start) refl f (free_until (end x) hi a k rs c.2)
  where
    P : ℕ
    P = place_of rs a

    rest : (b : Bool) → (b || in_runs rs a) ≡ false → in_runs rs a ≡ false
    rest true z = absurd (true≢false z)
    rest false z = z

    go : (b : Bool) → ltb a x.start ≡ b → (cond b 0 (suc P) < suc (length rs) → k < (get_or (x ∷ rs) (cond b 0 (suc P)) no_run).start) → (in_runs rs a ≡ false → a ≤ k → (P < length rs → k < (get_or rs P no_run).start) → in_runs rs k ≡ false) → (in_run x k || in_runs rs k) ≡ false
    go true g f i = rw (below_run x k (f (omega arith)), chain_low (end x) hi rs c.2 k (omega (arith, f (omega arith))))
    go false g f i =
        rw (past_run x k (omega (arith, past (place x a))))
        (i (rest (in_run x a) e) h (λ z. f (omega arith)))
      where
        past : Place x a → end x ≤ a
        past (low u v) = let w = ltb-false a x.start g in absurd (omega arith)
        past (mid u w v) = absurd (true≢false (sym (rw v refl) ∙ e))
        past (high u w v) = w

-- ---- the stretch from a line on
module _ (rs : List Run) (hi a e : ℕ) (c : Chain 0 hi rs) (lt : a < e) where
  -- a run over the line: its lines are covered, to its end or to the extent's
  pub stretch_covered : cover_at rs a < length rs → (stop : ℕ) → stop ≡ min (end (get_or rs (cover_at rs a) no_run)) e → Stretches rs a e stop true
  stretch_covered h stop is =
      let b = cover_bounds rs a h in
      record {
        ahead = omega arith;
        within = omega arith;
        same = λ k p q. covered_at rs (cover_at rs a) k h (inside_run (get_or rs (cover_at rs a) no_run) k (omega arith) (omega arith));
        edge = λ z. absurd (true≢false z);
      }

  -- no run over it: no line is covered up to where the extent ends or the next run starts
  pub stretch_free : cover_at rs a ≡ length rs → (stop : ℕ) → stop ≤ e → (place_of rs a < length rs → stop ≤ (get_or rs (place_of rs a) no_run).start) → (stop ≡ e) ⊎ ((place_of rs a < length rs) × (stop ≡ (get_or rs (place_of rs a) no_run).start)) → Stretches rs a e stop false
  stretch_free none stop within before o =
      record {
        ahead = ahead o;
        within = within;
        same = λ k p q. free_until 0 hi a k rs c (none_covers rs a none) p (λ z. omega (arith, before z));
        edge = λ y. edge o;
      }
    where
      ahead : (stop ≡ e) ⊎ ((place_of rs a < length rs) × (stop ≡ (get_or rs (place_of rs a) no_run).start)) → a < stop
      ahead (inl q) = omega arith
      ahead (inr q) = omega (arith, ltb-true a (get_or rs (place_of rs a) no_run).start (first_holds (λ (x : Run). ltb a x.start) no_run rs q.0), q.1)

      edge : (stop ≡ e) ⊎ ((place_of rs a < length rs) × (stop ≡ (get_or rs (place_of rs a) no_run).start)) → (stop ≡ e) ⊎ (in_runs rs stop ≡ true)
      edge (inl q) = inl q
      edge (inr q) = inr (covered_at rs (place_of rs a) stop q.0 (inside_run (get_or rs (place_of rs a) no_run) stop (omega (arith, q.1)) (omega (arith, q.1, chain_from 0 hi rs c (place_of rs a) no_run q.0))))

-- ---- runs in arrays, with the answers of the search for line a
module _ {n count : ℕ} {starts lengths : List ℕ} (v : ValidRuns n count starts lengths) {a e : ℕ} (lt : a < e) where
  abbrev R : List Run
  R = runs_in count starts lengths

  same_slots : length starts ≡ length lengths
  same_slots = v.starts_slots ∙ sym v.lengths_slots

  len : length R ≡ count
  len = length_runs count starts lengths same_slots (omega (arith, v.few, v.starts_slots))

  at_place : (j : ℕ) → j < count → get_or R j no_run ≡ run (get_or starts j 0) (get_or lengths j 0)
  at_place j h = run_at count starts lengths same_slots j h

  -- an entry over the line
  module _ {i : ℕ} (is : i ≡ cover_at R a) (h : i < count) where
    over : cover_at R a < length R
    over = omega (arith, len, is)

    over_is : get_or R (cover_at R a) no_run ≡ run (get_or starts i 0) (get_or lengths i 0)
    over_is = rw (← is) (at_place i h)

    pub entry_end : get_or starts i 0 + get_or lengths i 0 ≤ n
    entry_end = rw over_is at (chain_end 0 n (cover_at R a) R v.chain over)

    pub covered_to : {stop : ℕ} → stop ≡ min (get_or starts i 0 + get_or lengths i 0) e → Stretches R a e stop true
    covered_to {stop} s = stretch_covered R n a e v.chain lt over stop (rw over_is s)

  -- no entry over it, and the place of the next
  module _ (none : count ≡ cover_at R a) {p : ℕ} (next : p ≡ place_of R a) where
    no_run_over : cover_at R a ≡ length R
    no_run_over = omega (arith, none, len)

    pub free_to_next : p < count → {stop : ℕ} → stop ≡ min (get_or starts p 0) e → Stretches R a e stop false
    free_to_next h {stop} s = stretch_free R n a e v.chain lt no_run_over stop (omega arith) (λ z. rw start_is (omega arith)) (ends (leb (get_or starts p 0) e) refl)
      where
        start_is : get_or R (place_of R a) no_run ≡ run (get_or starts p 0) (get_or lengths p 0)
        start_is = rw (← next) (at_place p h)

        ends : (b : Bool) → leb (get_or starts p 0) e ≡ b → (stop ≡ e) ⊎ ((place_of R a < length R) × (stop ≡ (get_or R (place_of R a) no_run).start))
        ends true t = inr (omega (arith, next, len), rw start_is (omega (arith, leb-true (get_or starts p 0) e t)))
        ends false t = inl (omega (arith, leb-false (get_or starts p 0) e t))

    pub free_to_end : count ≤ p → Stretches R a e e false
    free_to_end h = stretch_free R n a e v.chain lt no_run_over e (omega arith) (λ z. absurd (omega (arith, next, len))) (inl refl)
