-- The rule of the walk (document 02, W-202) without a depth, and its two cases. Assumes nothing.
use mathlib.Core.Path.{◌≡◌, refl, ap₂, ◌∙◌}
use mathlib.Core.Bool.{Bool, true, false, ◌&&◌, cond, false≢true}
use mathlib.Core.List.{List, ◌++◌}
use Prim.Native.Nat.{ℕ, zero, suc, ◌+◌, ◌-◌, ◌/◌, ◌≤◌, ◌<◌}
use native.Mathlib.Omega.{arith}
use lib.Dec.{ltb}
use lib.ListN.{length, take}
use borrow.Author.Tests.{ltb-true}
use Rattle.poison.specs.State.{Entry}
use Rattle.poison.specs.Range.{sharing}
use Rattle.host.specs.Walk.{halves, walked, walk}

and_right : (x y : Bool) → (x && y) ≡ true → y ≡ true
and_right true y h = h
and_right false y h = absurd (false≢true h)

-- a range that is halved has two lines or more
pub two_lines : (most : ℕ) (es : List Entry) (a n : ℕ) → halves most es a n ≡ true → 1 < n
unfolding halves
two_lines most es a n h = ltb-true 1 n (and_right (ltb most (length (sharing a n es))) (ltb 1 n) h)

module _ (most : ℕ) (es : List Entry) where
  -- any depth that is not below the number of lines gives the same
  enough : (f g a n : ℕ) → n ≤ f → n ≤ g → walked most f es a n ≡ walked most g es a n
  unfolding walked
  enough zero zero a n p q = refl
  enough zero (suc g) a n p q = go (halves most es a n) refl
    where
      go : (b : Bool) → halves most es a n ≡ b
          → take most (sharing a n es) ≡ cond b (walked most g es a (n / 2) ++ walked most g es (a + n / 2) (n - n / 2)) (take most (sharing a n es))
      go true h = let t = two_lines most es a n h in absurd (omega arith)
      go false h = refl
  enough (suc f) zero a n p q = go (halves most es a n) refl
    where
      go : (b : Bool) → halves most es a n ≡ b
          → cond b (walked most f es a (n / 2) ++ walked most f es (a + n / 2) (n - n / 2)) (take most (sharing a n es)) ≡ take most (sharing a n es)
      go true h = let t = two_lines most es a n h in absurd (omega arith)
      go false h = refl
  enough (suc f) (suc g) a n p q = go (halves most es a n) refl (λ b m u w. enough f g b m u w)
    where
      go : (b : Bool) → halves most es a n ≡ b → ((b m : ℕ) → m ≤ f → m ≤ g → walked most f es b m ≡ walked most g es b m)
          → cond b (walked most f es a (n / 2) ++ walked most f es (a + n / 2) (n - n / 2)) (take most (sharing a n es))
          ≡ cond b (walked most g es a (n / 2) ++ walked most g es (a + n / 2) (n - n / 2)) (take most (sharing a n es))
      go true h i = let t = two_lines most es a n h in ap₂ ◌++◌ (i a (n / 2) (omega arith) (omega arith)) (i (a + n / 2) (n - n / 2) (omega arith) (omega arith))
      go false h i = refl

  -- the rule of the walk, without a depth
  pub walk_step : (a n : ℕ) → walk most es a n ≡ cond (halves most es a n) (walk most es a (n / 2) ++ walk most es (a + n / 2) (n - n / 2)) (take most (sharing a n es))
  unfolding walked walk
  walk_step a n = enough n (suc n) a n (omega arith) (omega arith) ∙ go (halves most es a n) refl
    where
      go : (b : Bool) → halves most es a n ≡ b
          → cond b (walked most n es a (n / 2) ++ walked most n es (a + n / 2) (n - n / 2)) (take most (sharing a n es))
          ≡ cond b (walked most (n / 2) es a (n / 2) ++ walked most (n - n / 2) es (a + n / 2) (n - n / 2)) (take most (sharing a n es))
      go true h = ap₂ ◌++◌ (enough n (n / 2) a (n / 2) (omega arith) (omega arith)) (enough n (n - n / 2) (a + n / 2) (n - n / 2) (omega arith) (omega arith))
      go false h = refl

  pub walk_halved : (a n : ℕ) → halves most es a n ≡ true → walk most es a n ≡ walk most es a (n / 2) ++ walk most es (a + n / 2) (n - n / 2)
  walk_halved a n h = walk_step a n ∙ rw h refl

  pub walk_whole : (a n : ℕ) → halves most es a n ≡ false → walk most es a n ≡ take most (sharing a n es)
  walk_whole a n h = walk_step a n ∙ rw h refl
