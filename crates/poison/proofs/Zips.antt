-- What is done to each of two lists is done to the two side by side: take, drop, get_or, set, and an element put in or taken away. Assumes nothing.
use mathlib.Core.Path.{◌≡◌, refl, ap, ◌∙◌}
use mathlib.Core.List.{List, [], ◌∷◌, ◌++◌}
use Prim.Native.Nat.{ℕ, zero, suc, ◌+◌, ◌-◌}
use native.Mathlib.Omega.{arith}
use lib.ListN.{length, take, drop, get_or, set, length-take, length-drop}
use Rattle.poison.specs.Shift.{zip, put_at, pullAt}

module _ {A B C : Type 0} (f : A → B → C) where
  pub zip_take : (n : ℕ) (xs : List A) (ys : List B) → zip f (take n xs) (take n ys) ≡ take n (zip f xs ys)
  zip_take zero xs ys = refl
  zip_take (suc n) [] ys = refl
  zip_take (suc n) (a ∷ xs) [] = refl
  zip_take (suc n) (a ∷ xs) (b ∷ ys) = ap (λ (cs : List C). f a b ∷ cs) (zip_take n xs ys)

  pub length_zip : (xs : List A) (ys : List B) → length xs ≡ length ys → length (zip f xs ys) ≡ length xs
  length_zip [] ys e = refl
  length_zip (a ∷ xs) [] e = absurd (omega arith)
  length_zip (a ∷ xs) (b ∷ ys) e = ap suc (length_zip xs ys (omega arith))

  pub zip_getD : (xs : List A) (ys : List B) (i : ℕ) (a : A) (b : B) → length xs ≡ length ys → get_or (zip f xs ys) i (f a b) ≡ f (get_or xs i a) (get_or ys i b)
  zip_getD [] [] i a b e = refl
  zip_getD [] (y ∷ ys) i a b e = absurd (omega arith)
  zip_getD (x ∷ xs) [] i a b e = absurd (omega arith)
  zip_getD (x ∷ xs) (y ∷ ys) zero a b e = refl
  zip_getD (x ∷ xs) (y ∷ ys) (suc i) a b e = zip_getD xs ys i a b (omega arith)

  pub zip_set : (xs : List A) (ys : List B) (i : ℕ) (a : A) (b : B) → zip f (set xs i a) (set ys i b) ≡ set (zip f xs ys) i (f a b)
  zip_set [] ys i a b = refl
  zip_set (x ∷ xs) [] zero a b = refl
  zip_set (x ∷ xs) [] (suc i) a b = refl
  zip_set (x ∷ xs) (y ∷ ys) zero a b = refl
  zip_set (x ∷ xs) (y ∷ ys) (suc i) a b = ap (λ (cs : List C). f x y ∷ cs) (zip_set xs ys i a b)

  pub zip_drop : (n : ℕ) (xs : List A) (ys : List B) → length xs ≡ length ys → zip f (drop n xs) (drop n ys) ≡ drop n (zip f xs ys)
  zip_drop zero xs ys e = refl
  zip_drop (suc n) [] [] e = refl
  zip_drop (suc n) [] (b ∷ ys) e = refl
  zip_drop (suc n) (a ∷ xs) [] e = absurd (omega arith)
  zip_drop (suc n) (a ∷ xs) (b ∷ ys) e = zip_drop n xs ys (omega arith)

  pub zip_append : (xs xs' : List A) (ys ys' : List B) → length xs ≡ length ys → zip f (xs ++ xs') (ys ++ ys') ≡ zip f xs ys ++ zip f xs' ys'
  zip_append [] xs' [] ys' e = refl
  zip_append [] xs' (b ∷ ys) ys' e = absurd (omega arith)
  zip_append (a ∷ xs) xs' [] ys' e = absurd (omega arith)
  zip_append (a ∷ xs) xs' (b ∷ ys) ys' e = ap (λ (cs : List C). f a b ∷ cs) (zip_append xs xs' ys ys' (omega arith))

  same_take : (n : ℕ) (xs : List A) (ys : List B) → length xs ≡ length ys → length (take n xs) ≡ length (take n ys)
  same_take n xs ys e = simp length-take (rw e)

  same_drop : (n : ℕ) (xs : List A) (ys : List B) → length xs ≡ length ys → length (drop n xs) ≡ length (drop n ys)
  same_drop n xs ys e = simp length-drop (rw e)

  -- two parts and what follows them, side by side
  zip_parts : (at m n : ℕ) (xs : List A) (ys : List B) → length xs ≡ length ys → zip f (take m (drop at xs) ++ drop n xs) (take m (drop at ys) ++ drop n ys) ≡ take m (drop at (zip f xs ys)) ++ drop n (zip f xs ys)
  zip_parts at m n xs ys e =
      zip_append (take m (drop at xs)) (drop n xs) (take m (drop at ys)) (drop n ys) (same_take m (drop at xs) (drop at ys) (same_drop at xs ys e))
      ∙ rw (zip_take m (drop at xs) (drop at ys), zip_drop at xs ys e, zip_drop n xs ys e) refl

  pub zip_put : (at n : ℕ) (a : A) (b : B) (xs : List A) (ys : List B) → length xs ≡ length ys → zip f (put_at at n a xs) (put_at at n b ys) ≡ put_at at n (f a b) (zip f xs ys)
  unfolding put_at
  zip_put at n a b xs ys e =
      zip_append (take at xs) _ (take at ys) _ (same_take at xs ys e)
      ∙ rw (zip_take at xs ys, zip_parts at (n - at) (n + 1) xs ys e) refl

  pub zip_pull : (at n : ℕ) (xs : List A) (ys : List B) → length xs ≡ length ys → zip f (pullAt at n xs) (pullAt at n ys) ≡ pullAt at n (zip f xs ys)
  unfolding pullAt
  zip_pull at n xs ys e =
      zip_append (take at xs) _ (take at ys) _ (same_take at xs ys e)
      ∙ rw (zip_take at xs ys, zip_parts (at + 1) (n - at) n xs ys e) refl
