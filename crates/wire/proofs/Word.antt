-- What std reads from eight bytes is the number that they stand for, and zeros past the bytes of a number do not change it. Assumes nothing.
use mathlib.Core.Path.{◌≡◌, refl, ap, ◌∙◌}
use mathlib.Core.List.{List, [], ◌∷◌, ◌++◌}
use Prim.Native.Nat.{ℕ, zero, suc, ◌+◌, ◌-◌, ◌*◌, ◌≤◌}
use native.Mathlib.Omega.{arith}
use lib.ListN.{length, drop, replicate, length-append, length-replicate}
use Rattle.std.proofs.lemmas.List.{drop-replicate}
use Rattle.std.specs.Int.{w64, from_le_bytes}
use Rattle.wire.specs.Wire.{number, part, field}
use Rattle.wire.proofs.Laws.{length_part}

number_zeros : (k : ℕ) → number (replicate k 0) ≡ 0
unfolding number
number_zeros zero = refl
number_zeros (suc k) = ap (λ (n : ℕ). n * 256 + 0) (number_zeros k)

pub number_padded : (bs : List ℕ) (k : ℕ) → number (bs ++ replicate k 0) ≡ number bs
unfolding number
number_padded [] k = number_zeros k
number_padded (b ∷ bs) k = ap (λ (n : ℕ). n * 256 + b) (number_padded bs k)

pub number_word : (bs : List ℕ) → length bs ≡ 8 → from_le_bytes w64 bs ≡ number bs
unfolding number
number_word (a ∷ b ∷ c ∷ d ∷ e ∷ f ∷ g ∷ h ∷ []) long = omega arith
number_word (a ∷ b ∷ c ∷ d ∷ e ∷ f ∷ g ∷ h ∷ i ∷ bs) long = absurd (omega arith)
number_word [] long = absurd (omega arith)
number_word (a ∷ []) long = absurd (omega arith)
number_word (a ∷ b ∷ []) long = absurd (omega arith)
number_word (a ∷ b ∷ c ∷ []) long = absurd (omega arith)
number_word (a ∷ b ∷ c ∷ d ∷ []) long = absurd (omega arith)
number_word (a ∷ b ∷ c ∷ d ∷ e ∷ []) long = absurd (omega arith)
number_word (a ∷ b ∷ c ∷ d ∷ e ∷ f ∷ []) long = absurd (omega arith)
number_word (a ∷ b ∷ c ∷ d ∷ e ∷ f ∷ g ∷ []) long = absurd (omega arith)

-- n bytes of xs, followed by zeros up to eight
pub word_read : (xs bs : List ℕ) (at n r : ℕ) → at + n ≤ length xs → n ≤ 8 → bs ≡ part at n xs → r ≡ from_le_bytes w64 (bs ++ drop n (replicate 8 0)) → r ≡ field xs at n
unfolding field
word_read xs bs at n r fits few e read =
    let long : length bs ≡ n = ap length e ∙ length_part at n xs fits in
    let eight : length (bs ++ replicate (8 - n) 0) ≡ 8 = simp (length-append, length-replicate) (omega arith) in
    let zeros : drop n (replicate 8 0) ≡ replicate (8 - n) 0 = drop-replicate n 8 0 in
    read ∙ ap (λ (l : List ℕ). from_le_bytes w64 (bs ++ l)) zeros ∙ number_word _ eight ∙ number_padded bs (8 - n) ∙ ap number e
