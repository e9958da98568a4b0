-- Laws of lines, counts and chains. Assumes nothing.
use mathlib.Core.Path.{◌≡◌, refl, ap₂, ◌∙◌}
use mathlib.Core.Bool.{Bool, true, false, ◌&&◌, ◌||◌, true≢false}
use mathlib.Core.List.{List, [], ◌∷◌}
use Prim.Native.Nat.{ℕ, zero, suc, ◌+◌, ◌-◌, ◌≤◌, ◌<◌, min}
use native.Mathlib.Omega.{arith}
use native.Mathlib.Nat.{zero-add}
use borrow.Author.Tests.{lt-ltb, le-ltb, le-leb, lt-leb, ltb-true, ltb-false, leb-true, leb-false}
use lib.Dec.{leb, ltb}
use Rattle.poison.specs.Runs.{Run, end, in_run, in_runs, total, one_if, count, Chain}

-- ---- neither of two
pub or_left : (a b : Bool) → (a || b) ≡ false → a ≡ false
or_left true b e = e
or_left false b e = refl

pub or_right : (a b : Bool) → (a || b) ≡ false → b ≡ false
or_right true b e = absurd (true≢false e)
or_right false b e = e

-- ---- a line and a run: below it, in it, past it
pub below_run : (r : Run) (k : ℕ) → k < r.start → in_run r k ≡ false
unfolding in_run
below_run r k h = simp (lt-leb r.start k h)

pub past_run : (r : Run) (k : ℕ) → end r ≤ k → in_run r k ≡ false
unfolding in_run
past_run r k h = simp (le-leb r.start k (omega arith), le-ltb k (end r) h)

pub inside_run : (r : Run) (k : ℕ) → r.start ≤ k → k < end r → in_run r k ≡ true
unfolding in_run
inside_run r k h g = simp (le-leb r.start k h, lt-ltb k (end r) g)

pub data Place (r : Run) (k : ℕ) : Type 0 where
  low : k < r.start → in_run r k ≡ false → Place r k
  mid : r.start ≤ k → k < end r → in_run r k ≡ true → Place r k
  high : r.start ≤ k → end r ≤ k → in_run r k ≡ false → Place r k

pub place : (r : Run) (k : ℕ) → Place r k
place r k = go (leb r.start k) (ltb k (end r)) refl refl
  where
    go : (a b : Bool) → leb r.start k ≡ a → ltb k (end r) ≡ b → Place r k
    go false b e f = low (leb-false _ _ e) (below_run r k (leb-false _ _ e))
    go true true e f = mid (leb-true _ _ e) (ltb-true _ _ f) (inside_run r k (leb-true _ _ e) (ltb-true _ _ f))
    go true false e f = high (leb-true _ _ e) (ltb-false _ _ f) (past_run r k (ltb-false _ _ f))

-- ---- counts
pub count_cong : (f g : ℕ → Bool) (n : ℕ) → ((k : ℕ) → k < n → f k ≡ g k) → count f n ≡ count g n
count_cong f g zero h = refl
count_cong f g (suc n) h = ap₂ (λ (b : Bool) (m : ℕ). one_if b + m) (h n (omega arith)) (count_cong f g n (λ k q. h k (omega arith)))

one_or : (a b : Bool) → (a && b) ≡ false → one_if (a || b) ≡ one_if a + one_if b
one_or true true e = absurd (true≢false e)
one_or true false e = refl
one_or false true e = refl
one_or false false e = refl

-- two sets with no line in common: their counts add up
pub count_or : (f g : ℕ → Bool) (n : ℕ) → ((k : ℕ) → (f k && g k) ≡ false) → count (λ k. f k || g k) n ≡ count f n + count g n
count_or f g zero h = refl
count_or f g (suc n) h =
    let i = count_or f g n h in
    let o = one_or (f n) (g n) (h n) in
    omega arith

pub count_none : (f : ℕ → Bool) (n : ℕ) → ((k : ℕ) → k < n → f k ≡ false) → count f n ≡ 0
count_none f zero h = refl
count_none f (suc n) h = rw (h n (omega arith)) (zero-add _ ∙ count_none f n (λ k q. h k (omega arith)))

-- a run's lines below n
pub count_run : (r : Run) (n : ℕ) → count (in_run r) n ≡ min n (end r) - min n r.start
count_run r zero = omega arith
count_run r (suc n) = go (place r n) (count_run r n)
  where
    go : Place r n → count (in_run r) n ≡ min n (end r) - min n r.start → one_if (in_run r n) + count (in_run r) n ≡ min (suc n) (end r) - min (suc n) r.start
    go (low h e) i = rw e (omega arith)
    go (mid h g e) i = rw e (omega arith)
    go (high h g e) i = rw e (omega arith)

-- ---- chains
pub chain_le : (lo hi : ℕ) (rs : List Run) → Chain lo hi rs → lo ≤ hi
chain_le lo hi [] c = c
chain_le lo hi (r ∷ rs) c = let h = chain_le (end r) hi rs c.2 in omega arith

pub chain_low : (lo hi : ℕ) (rs : List Run) → Chain lo hi rs → (k : ℕ) → k < lo → in_runs rs k ≡ false
chain_low lo hi [] c k h = refl
chain_low lo hi (r ∷ rs) c k h = rw (below_run r k (omega arith), chain_low (end r) hi rs c.2 k (omega arith))

-- a run and the runs past it share no line
pub apart : (r : Run) (hi : ℕ) (rs : List Run) → Chain (end r) hi rs → (k : ℕ) → (in_run r k && in_runs rs k) ≡ false
apart r hi rs c k = go (place r k)
  where
    go : Place r k → (in_run r k && in_runs rs k) ≡ false
    go (low h e) = rw e refl
    go (mid h g e) = rw (e, chain_low (end r) hi rs c k g) refl
    go (high h g e) = rw e refl

-- the lines of a chain are as many as its runs' lengths together
pub count_chain : (lo hi : ℕ) (rs : List Run) → Chain lo hi rs → count (in_runs rs) hi ≡ total rs
count_chain lo hi [] c = count_none (λ k. false) hi (λ k h. refl)
count_chain lo hi (r ∷ rs) c =
    let q = chain_le (end r) hi rs c.2 in
    let i = count_chain (end r) hi rs c.2 in
    let o = count_or (in_run r) (in_runs rs) hi (apart r hi rs c.2) in
    let u = count_run r hi in
    o ∙ omega arith
