-- The search by halves among ascending starts: a test of order as a number by one division, what holds at each turn, and that a turn keeps it.
-- Assumes nothing.
use mathlib.Core.Path.{◌≡◌, refl}
use mathlib.Core.Bool.{Bool, true, false, cond}
use mathlib.Core.List.{List}
use Prim.Native.Nat.{ℕ, ◌≤◌, ◌<◌, ◌+◌, ◌-◌, ◌*◌, ◌/◌}
use native.Mathlib.Omega.{arith}
use borrow.Author.Tests.{leb-true, leb-false}
use lib.Dec.{leb}
use lib.ListN.{get_or}
use Rattle.poison.specs.Search.{Ascending, LastStart}

-- ---- a test of order as 1 or 0, and a step that it scales
module _ (base half start line : ℕ) (start_fits : start < 4294967296) (line_fits : line < 4294967296) where
  by_test : (b : Bool) → leb start line ≡ b → (half * ((line + 4294967296 - start) / 4294967296) ≤ half) × (base + half * ((line + 4294967296 - start) / 4294967296) ≡ cond b (base + half) base)
  by_test true t =
      let o : start ≤ line = leb-true start line t in
      let one : (line + 4294967296 - start) / 4294967296 ≡ 1 = omega arith in
      (rw one (omega arith), rw one (omega arith))
  by_test false t =
      let o : line < start = leb-false start line t in
      let none : (line + 4294967296 - start) / 4294967296 ≡ 0 = omega arith in
      (rw none (omega arith), rw none (omega arith))

  pub at_most : half * ((line + 4294967296 - start) / 4294967296) ≤ half
  at_most = (by_test (leb start line) refl).0

  pub stepped : base + half * ((line + 4294967296 - start) / 4294967296) ≡ cond (leb start line) (base + half) base
  stepped = (by_test (leb start line) refl).1

-- ---- the loop: the `size` places from `base` on are left
pub record Searching (count : ℕ) (starts : List ℕ) (line base size : ℕ) : Type 0 where
  pub within : base + size ≤ count
  pub some : 0 < count → 0 < size
  pub below : 0 < base → get_or starts base 0 ≤ line
  pub above : (j : ℕ) → base + size ≤ j → j < count → line < get_or starts j 0

pub begins : (count : ℕ) (starts : List ℕ) (line : ℕ) → Searching count starts line 0 count
begins count starts line = record { within = omega arith; some = λ p. p; below = λ p. absurd (omega arith); above = λ j p q. absurd (omega arith) }

module _ (count : ℕ) (starts : List ℕ) (line base size : ℕ) (a : Ascending count starts) (s : Searching count starts line base size) (more : 1 < size) where
  abbrev half : ℕ
  half = size / 2

  -- the entry at the middle starts after the line: so do all from the new end on
  far : line < get_or starts (base + half) 0 → (j : ℕ) → base + (size - half) ≤ j → j < count → (b : Bool) → leb j (base + half) ≡ b → line < get_or starts j 0
  far over j p q true t =
      let l : j ≤ base + half = leb-true j (base + half) t in
      let same : j ≡ base + half = omega (arith, s.within) in
      rw same over
  far over j p q false t = omega (arith, a.order (base + half) j (leb-false j (base + half) t) q)

  by_half : (b : Bool) → leb (get_or starts (base + half) 0) line ≡ b → Searching count starts line (cond b (base + half) base) (size - half)
  by_half true t = record {
    within = omega (arith, s.within);
    some = λ p. omega arith;
    below = λ p. leb-true (get_or starts (base + half) 0) line t;
    above = λ j p q. s.above j (omega arith) q;
  }
  by_half false t = record {
    within = omega (arith, s.within);
    some = λ p. omega arith;
    below = s.below;
    above = λ j p q. far (leb-false (get_or starts (base + half) 0) line t) j p q (leb j (base + half)) refl;
  }

  -- a turn, by the start that was read and the place that the step gave
  pub turned : (start base' : ℕ) → start ≡ get_or starts (base + half) 0 → base' ≡ cond (leb start line) (base + half) base → Searching count starts line base' (size - half)
  turned start base' e f = rw (f, e) (by_half (leb (get_or starts (base + half) 0) line) refl)

pub ends : (count : ℕ) (starts : List ℕ) (line base size : ℕ) → Searching count starts line base size → size ≤ 1 → LastStart count starts line base
ends count starts line base size s p = record {
  within = λ q. let z : 0 < size = s.some q in omega (arith, s.within);
  below = s.below;
  above = λ j q r. s.above j (omega arith) r;
}
