-- Little-endian numbers in lists of bytes, and a list with a part replaced. Assumes nothing.
use Rattle.std.specs.Prelude.{List, [], ◌∷◌, ◌++◌, ◌≡◌, Bool, true, false, ◌&&◌, ℕ, zero, suc, ◌+◌, ◌*◌, ◌/◌, ◌%◌, ◌^◌, ◌<◌, eqb, length, take, drop}

-- the k little-endian bytes of n, the lowest first
unfoldable pub le : ℕ → ℕ → List ℕ
le zero n = []
le (suc k) n = n % 256 ∷ le k (n / 256)

-- the number that a list of little-endian bytes stands for
unfoldable pub number : List ℕ → ℕ
number [] = 0
number (b ∷ bs) = number bs * 256 + b

-- the k elements of xs from index at
unfoldable pub part : ℕ → ℕ → List ℕ → List ℕ
part at k xs = take k (drop at xs)

-- the number in the k bytes of xs from index at
unfoldable pub field : List ℕ → ℕ → ℕ → ℕ
unfolding number part
field xs at k = number (part at k xs)

-- what a read of k bytes gives: the number there, which is below 256 ^ k
pub record Read (xs : List ℕ) (at k r : ℕ) : Type 0 where
  pub value : r ≡ field xs at k
  pub small : r < 256 ^ k

-- xs with bs in place of as many elements from index at
unfoldable pub splice : ℕ → List ℕ → List ℕ → List ℕ
splice at bs xs = take at xs ++ bs ++ drop (at + length bs) xs

-- whether two lists are equal
unfoldable pub same : List ℕ → List ℕ → Bool
same [] [] = true
same [] (y ∷ ys) = false
same (x ∷ xs) [] = false
same (x ∷ xs) (y ∷ ys) = eqb x y && same xs ys
