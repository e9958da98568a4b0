-- Elements moved within an array: one put in its place, or taken away. What lies past the new last element keeps what it held.
use Rattle.std.specs.Prelude.{◌≡◌, Bool, cond, List, [], ◌∷◌, ◌++◌, ℕ, suc, ◌+◌, ◌-◌, take, drop}

-- e put at place `at` of the n held of the slots l: those from `at` on move up by one slot
unfoldable pub put_at {ℓ} : {A : Type ℓ} → ℕ → ℕ → A → List A → List A
put_at at n e l = take at l ++ (e ∷ (take (n - at) (drop at l) ++ drop (n + 1) l))

-- the element at place `at` of the n + 1 held taken away: those after it move down by one slot, and the slot that held the last keeps it
unfoldable pub pullAt {ℓ} : {A : Type ℓ} → ℕ → ℕ → List A → List A
pullAt at n l = take at l ++ (take (n - at) (drop (at + 1) l) ++ drop n l)

-- an entry put at place `at` of the n that three arrays hold side by side: in each array its part; "slots past the new last entry keep what they held" (document 02, W-203)
pub record EntryPut (at n start lines kind : ℕ) (s l k s' l' k' : List ℕ) : Type 0 where
  pub starts : s' ≡ put_at at n start s
  pub lengths : l' ≡ put_at at n lines l
  pub kinds : k' ≡ put_at at n kind k
  pub past_starts : drop (n + 1) s' ≡ drop (n + 1) s
  pub past_lengths : drop (n + 1) l' ≡ drop (n + 1) l
  pub past_kinds : drop (n + 1) k' ≡ drop (n + 1) k

-- the entry at place `at` of the n + 1 that three arrays hold side by side taken away
pub record EntryTaken (at n : ℕ) (s l k s' l' k' : List ℕ) : Type 0 where
  pub starts : s' ≡ pullAt at n s
  pub lengths : l' ≡ pullAt at n l
  pub kinds : k' ≡ pullAt at n k

-- the place of the first element that passes a test, or the number of elements
abbrev pub first_at {ℓ} : {A : Type ℓ} → (A → Bool) → List A → ℕ
first_at p [] = 0
first_at p (x ∷ xs) = cond (p x) 0 (suc (first_at p xs))

-- two lists side by side
abbrev pub zip : {A B C : Type 0} → (A → B → C) → List A → List B → List C
zip f [] ys = []
zip f (a ∷ xs) [] = []
zip f (a ∷ xs) (b ∷ ys) = f a b ∷ zip f xs ys
