-- The runs of a set in an extent, from a line on: past lines that are not in it, and past a run of lines that are; that they are
-- maximal; how many lines they have. Assumes nothing.
use mathlib.Core.Path.{◌≡◌, refl, sym}
use mathlib.Core.Bool.{Bool, true, false, cond}
use mathlib.Core.List.{List, [], ◌∷◌}
use mathlib.Core.Logic.{◌⊎◌, inl, inr}
use Prim.Native.Nat.{ℕ, zero, suc, ◌+◌, ◌≤◌, ◌<◌}
use native.Mathlib.Omega.{arith}
use borrow.Author.Tests.{lt-ltb, eq-eqb, ne_eqb, eqb-true, eqb-false}
use lib.Dec.{ltb, eqb}
use lib.ListN.{take, drop}
use Rattle.poison.specs.Runs.{Run, run, end, Chain, joined, runs_of, total, some_run}
use Rattle.poison.proofs.RunLaws.{chain_runs_of}

module _ (p : ℕ → Bool) where
  pub runs_cong : (q : ℕ → Bool) (a n : ℕ) → ((k : ℕ) → a ≤ k → k < a + n → p k ≡ q k) → runs_of p a n ≡ runs_of q a n
  runs_cong q a zero h = refl
  runs_cong q a (suc n) h = rw (h a (omega arith) (omega arith), runs_cong q (suc a) n (λ k u v. h k (omega arith) (omega arith)))

  -- past m lines that are not in the set
  pub runs_skip : (a m n : ℕ) → ((k : ℕ) → a ≤ k → k < a + m → p k ≡ false) → runs_of p a (m + n) ≡ runs_of p (a + m) n
  runs_skip a zero n h =
      let e : 0 + n ≡ n = omega arith in
      let f : a + 0 ≡ a = omega arith in
      rw (e, f)
  runs_skip a (suc m) n h =
      let e : suc m + n ≡ suc (m + n) = omega arith in
      let f : a + suc m ≡ suc a + m = omega arith in
      rw (e, f, h a (omega arith) (omega arith)) (runs_skip (suc a) m n (λ k u v. h k (omega arith) (omega arith)))

  apart_joined : (a : ℕ) (rs : List Run) (hi : ℕ) → Chain (suc (suc a)) hi rs → joined a rs ≡ run a 1 ∷ rs
  apart_joined a [] hi c = refl
  apart_joined a (r ∷ rs) hi c = rw (ne_eqb r.start (suc a) (λ z. omega arith))

  -- the line after a is no line of the set, or there is none
  one_joined : (a n : ℕ) → (n ≡ 0) ⊎ (p (suc a) ≡ false) → joined a (runs_of p (suc a) n) ≡ run a 1 ∷ runs_of p (suc a) n
  one_joined a zero h = refl
  one_joined a (suc n) (inl h) = absurd (omega arith)
  one_joined a (suc n) (inr h) = rw h (apart_joined a (runs_of p (suc (suc a)) n) (suc (suc a) + n) (chain_runs_of p (suc (suc a)) n))

  -- past m + 1 lines of the set that nothing continues
  pub runs_fill : (a m n : ℕ) → ((k : ℕ) → a ≤ k → k < a + suc m → p k ≡ true) → (n ≡ 0) ⊎ (p (a + suc m) ≡ false) → runs_of p a (suc m + n) ≡ run a (suc m) ∷ runs_of p (a + suc m) n
  runs_fill a zero n h g =
      let e : 1 + n ≡ suc n = omega arith in
      let f : a + 1 ≡ suc a = omega arith in
      rw (e, f, h a (omega arith) (omega arith)) (one_joined a n (rw f at g))
  runs_fill a (suc m) n h g =
      let e : suc (suc m) + n ≡ suc (suc m + n) = omega arith in
      let f : a + suc (suc m) ≡ suc a + suc m = omega arith in
      let i = runs_fill (suc a) m n (λ k u v. h k (omega arith) (omega arith)) (rw f at g) in
      rw (e, f, h a (omega arith) (omega arith), i, eq-eqb (suc a) (suc a) refl)

-- ---- the runs of a set are maximal
-- runs between any two of which there is a line, and none below `lo`
abbrev pub Gaps : ℕ → List Run → Type 0
Gaps lo [] = Unit {0}
Gaps lo (r ∷ rs) = (lo ≤ r.start) × Gaps (suc (end r)) rs

gaps_lower : (lo lo' : ℕ) (rs : List Run) → lo' ≤ lo → Gaps lo rs → Gaps lo' rs
gaps_lower lo lo' [] h g = tt
gaps_lower lo lo' (r ∷ rs) h g = (omega arith, g.1)

gaps_joined : (a : ℕ) (rs : List Run) → Gaps (suc a) rs → Gaps a (joined a rs)
gaps_joined a [] g = (omega arith, tt)
gaps_joined a (r ∷ rs) g = go (eqb r.start (suc a)) refl
  where
    go : (b : Bool) → eqb r.start (suc a) ≡ b → Gaps a (cond (eqb r.start (suc a)) (run a (suc r.lines) ∷ rs) (run a 1 ∷ r ∷ rs))
    go true e =
        let q = eqb-true r.start (suc a) e in
        rw e (omega arith, gaps_lower (suc (end r)) (suc (a + suc r.lines)) rs (omega arith) g.1)
    go false e =
        let q = eqb-false r.start (suc a) e in
        rw e (omega arith, (omega arith, g.1))

pub gaps_runs_of : (p : ℕ → Bool) (a n : ℕ) → Gaps a (runs_of p a n)
gaps_runs_of p a zero = tt
gaps_runs_of p a (suc n) = go (p a) (gaps_runs_of p (suc a) n)
  where
    go : (b : Bool) → Gaps (suc a) (runs_of p (suc a) n) → Gaps a (cond b (joined a (runs_of p (suc a) n)) (runs_of p (suc a) n))
    go true g = gaps_joined a (runs_of p (suc a) n) g
    go false g = gaps_lower (suc a) a (runs_of p (suc a) n) (omega arith) g

-- ---- how many lines the runs of a chain have
pub total_chain : (lo hi : ℕ) (rs : List Run) → Chain lo hi rs → lo + total rs ≤ hi
total_chain lo hi [] c = omega arith
total_chain lo hi (r ∷ rs) c = let i = total_chain (end r) hi rs c.2 in omega arith

pub some_total : (lo hi : ℕ) (rs : List Run) → Chain lo hi rs → some_run rs ≡ ltb 0 (total rs)
some_total lo hi [] c = refl
some_total lo hi (r ∷ rs) c = sym (lt-ltb 0 (r.lines + total rs) (omega arith))

pub chain_drop : (lo hi m : ℕ) (rs : List Run) → Chain lo hi rs → (b : ℕ) × Chain b hi (drop m rs)
chain_drop lo hi zero rs c = (lo, c)
chain_drop lo hi (suc m) [] c = (lo, c)
chain_drop lo hi (suc m) (r ∷ rs) c = chain_drop (end r) hi m rs c.2

pub total_take_drop : (m : ℕ) (rs : List Run) → total (take m rs) + total (drop m rs) ≡ total rs
total_take_drop zero rs = omega arith
total_take_drop (suc m) [] = refl
total_take_drop (suc m) (r ∷ rs) = let i = total_take_drop m rs in omega arith
