-- Bytes and the numbers in them: the k bytes of the number that stands in k bytes are those bytes; parts of a list one after the other; bytes that are all zero. And the
-- reserved bits of a whole list, byte by byte. What the theorems on replies rest on (document 02, W-202). Assumes nothing.
use mathlib.Core.Path.{◌≡◌, refl, sym, ap, ap₂, ◌∙◌}
use mathlib.Core.Bool.{Bool, true, false, cond}
use mathlib.Core.List.{List, [], ◌∷◌, ◌++◌}
use Prim.Native.Nat.{ℕ, zero, suc, ◌+◌, ◌*◌, ◌/◌, ◌%◌, ◌≤◌, ◌<◌, ◌^◌}
use native.Mathlib.Omega.{arith}
use native.Mathlib.Numerals.{add-one}
use lib.Dec.{eqb}
use lib.ListN.{length, take, drop, get_or, length-take, length-drop}
use lib.Seq.{take-add, drop-drop, get_or-take, get_or-drop}
use borrow.Author.Tests.{eq-eqb, eqb-true}
use Rattle.wire.specs.Wire.{le, number, part, field}
use Rattle.wire.proofs.Laws.{length_part, part_step, byte_more}
use Rattle.host_replies.specs.declared.counted.Kind.{Kind}
use Rattle.host_replies.specs.Counted.{reserved, first_reserved}
use Rattle.host_replies.specs.Fields.{Bytes, Unreserved}

-- ---- bytes
bytes_tail : {b : ℕ} {bs : List ℕ} → Bytes (b ∷ bs) → Bytes bs
bytes_tail h = record { each = λ i l. h.each (suc i) (omega arith) }

pub bytes_drop : (at : ℕ) {bs : List ℕ} → Bytes bs → Bytes (drop at bs)
bytes_drop at {bs} h = record { each = λ i l. rw (get_or-drop at bs i 0) (h.each (at + i) (omega (arith, length-drop at bs))) }

bytes_part : (at k : ℕ) {bs : List ℕ} → Bytes bs → at + k ≤ length bs → Bytes (part at k bs)
unfolding part
bytes_part at k {bs} h fits =
    record {
      each = λ i l.
          let less : i < k = omega (arith, length-take k (drop at bs)) in
          rw (get_or-take k (drop at bs) i 0 less, get_or-drop at bs i 0) (h.each (at + i) (omega arith));
    }

-- the bytes of the number that bytes stand for are those bytes
le_number : (k : ℕ) (bs : List ℕ) → Bytes bs → length bs ≡ k → le k (number bs) ≡ bs
unfolding le number
le_number zero [] h e = refl
le_number zero (b ∷ bs) h e = absurd (omega arith)
le_number (suc k) [] h e = absurd (omega arith)
le_number (suc k) (b ∷ bs) h e =
    let small : b < 256 = h.each 0 (omega arith) in
    let low : (number bs * 256 + b) % 256 ≡ b = omega arith in
    let high : (number bs * 256 + b) / 256 ≡ number bs = omega arith in
    ap₂ (λ (x y : ℕ). x ∷ le k y) low high ∙ ap (λ (l : List ℕ). b ∷ l) (le_number k bs (bytes_tail h) (omega arith))

-- The bytes of a field that was read are the bytes that it was read from.
pub le_field : (bs : List ℕ) (at k : ℕ) → Bytes bs → at + k ≤ length bs → le k (field bs at k) ≡ part at k bs
unfolding field
le_field bs at k h fits = le_number k (part at k bs) (bytes_part at k h fits) (length_part at k bs fits)

-- and it is below 256 ^ k
number_small : (k : ℕ) (bs : List ℕ) → Bytes bs → length bs ≡ k → number bs < 256 ^ k
unfolding number
number_small zero [] h e = omega arith
number_small zero (b ∷ bs) h e = absurd (omega arith)
number_small (suc k) [] h e = absurd (omega arith)
number_small (suc k) (b ∷ bs) h e = byte_more k (number bs) b (omega arith) (number_small k bs (bytes_tail h) (omega arith)) (h.each 0 (omega arith))

pub field_small : (bs : List ℕ) (at k : ℕ) → Bytes bs → at + k ≤ length bs → field bs at k < 256 ^ k
unfolding field
field_small bs at k h fits = number_small k (part at k bs) (bytes_part at k h fits) (length_part at k bs fits)

-- ---- parts one after the other
pub parts_joined : (at k j m n : ℕ) (bs : List ℕ) → j ≡ at + k → n ≡ k + m → part at k bs ++ part j m bs ≡ part at n bs
unfolding part
parts_joined at k j m n bs e f =
    ap (λ (x : ℕ). take k (drop at bs) ++ take m (drop x bs)) e
    ∙ ap (λ (l : List ℕ). take k (drop at bs) ++ take m l) (sym (drop-drop k at bs))
    ∙ sym (take-add k m (drop at bs))
    ∙ ap (λ (x : ℕ). take x (drop at bs)) (sym f)

-- ---- zero bytes
-- k bytes that are all zero are the k bytes of the number 0
pub zero_part : (bs : List ℕ) (at k : ℕ) → at + k ≤ length bs → ((i : ℕ) → at ≤ i → i < at + k → get_or bs i 0 ≡ 0) → le k 0 ≡ part at k bs
unfolding le part
zero_part bs at zero fits z = refl
zero_part bs at (suc k) fits z =
    ap₂ (λ (x : ℕ) (l : List ℕ). x ∷ l) (sym (z at (omega arith) (omega arith))) (zero_part bs (at + 1) k (omega arith) (λ i low high. z i (omega arith) (omega arith)))
    ∙ sym (part_step at k bs (sym (add-one k)) (omega arith))

-- ---- bytes of a list, with the field or the zeros that stand after them
module _ {bs : List ℕ} (b : Bytes bs) where
  pub next_field : (from size at k n : ℕ) → at ≡ from + size → n ≡ size + k → at + k ≤ length bs → part from size bs ++ le k (field bs at k) ≡ part from n bs
  next_field from size at k n d e fits = ap (λ (l : List ℕ). part from size bs ++ l) (le_field bs at k b fits) ∙ parts_joined from size at k n bs d e

  -- the same from the first byte on
  pub front_field : (at k n : ℕ) → n ≡ at + k → n ≤ length bs → part 0 at bs ++ le k (field bs at k) ≡ part 0 n bs
  front_field at k n e fits = next_field 0 at at k n (omega arith) e (omega arith)

pub front_zero : (bs : List ℕ) (at k n : ℕ) → n ≡ at + k → n ≤ length bs → ((i : ℕ) → at ≤ i → i < n → get_or bs i 0 ≡ 0) → part 0 at bs ++ le k 0 ≡ part 0 n bs
front_zero bs at k n e fits z =
    ap (λ (l : List ℕ). part 0 at bs ++ l) (zero_part bs at k (omega arith) (λ i low high. z i low (omega arith))) ∙ parts_joined 0 at at k n bs (omega arith) e

-- the first bytes
pub front : (n : ℕ) (bs : List ℕ) → part 0 n bs ≡ take n bs
unfolding part
front n bs = refl

-- ---- reserved bits of a list that stands from a place on
-- the first byte with a reserved bit set is no byte before the place where the list stands
pub reserved_from : (k : Kind) (place : ℕ) (bs : List ℕ) → place ≤ first_reserved k place bs
unfolding first_reserved
reserved_from k place [] = omega arith
reserved_from k place (b ∷ bs) = go (eqb (reserved k place b) 0) (reserved_from k (place + 1) bs)
  where
    go : (t : Bool) → place + 1 ≤ first_reserved k (place + 1) bs → place ≤ cond t (first_reserved k (place + 1) bs) place
    go true h = omega arith
    go false h = omega arith

-- There is no byte with a reserved bit set exactly where the reserved bits of each byte are zero:
pub none_reserved : (k : Kind) (place : ℕ) (bs : List ℕ) → Unreserved k place bs → first_reserved k place bs ≡ place + length bs
unfolding first_reserved
none_reserved k place [] z = omega arith
none_reserved k place (b ∷ bs) z =
    let here : reserved k place b ≡ 0 = ap (λ (x : ℕ). reserved k x b) (omega arith) ∙ z 0 (omega arith) in
    let next : Unreserved k (place + 1) bs = λ i l. ap (λ (x : ℕ). reserved k x (get_or bs i 0)) (omega arith) ∙ z (suc i) (omega arith) in
    rw (eq-eqb (reserved k place b) 0 here) (none_reserved k (place + 1) bs next ∙ omega arith)

-- and the other way.
pub reserved_none : (k : Kind) (place : ℕ) (bs : List ℕ) → first_reserved k place bs ≡ place + length bs → Unreserved k place bs
unfolding first_reserved
reserved_none k place [] e = λ i l. absurd (omega arith)
reserved_none k place (b ∷ bs) e = go (eqb (reserved k place b) 0) refl e (reserved_none k (place + 1) bs)
  where
    go : (t : Bool) → eqb (reserved k place b) 0 ≡ t → cond t (first_reserved k (place + 1) bs) place ≡ place + length (b ∷ bs)
        → (first_reserved k (place + 1) bs ≡ place + 1 + length bs → Unreserved k (place + 1) bs) → Unreserved k place (b ∷ bs)
    go true q f r zero l = ap (λ (x : ℕ). reserved k x b) (omega arith) ∙ eqb-true (reserved k place b) 0 q
    go true q f r (suc i) l = ap (λ (x : ℕ). reserved k x (get_or bs i 0)) (omega arith) ∙ r (omega arith) i (omega arith)
    go false q f r i l = absurd (omega arith)

-- one list after another
pub reserved_append : (k : Kind) (place : ℕ) (a b : List ℕ) → first_reserved k place a ≡ place + length a
    → first_reserved k place (a ++ b) ≡ first_reserved k (place + length a) b
unfolding first_reserved
reserved_append k place [] b e = ap (λ (x : ℕ). first_reserved k x b) (omega arith)
reserved_append k place (x ∷ a) b e = go (eqb (reserved k place x) 0) e (reserved_append k (place + 1) a b)
  where
    go : (t : Bool) → cond t (first_reserved k (place + 1) a) place ≡ place + length (x ∷ a)
        → (first_reserved k (place + 1) a ≡ place + 1 + length a → first_reserved k (place + 1) (a ++ b) ≡ first_reserved k (place + 1 + length a) b)
        → cond t (first_reserved k (place + 1) (a ++ b)) place ≡ first_reserved k (place + length (x ∷ a)) b
    go true f r = r (omega arith) ∙ ap (λ (y : ℕ). first_reserved k y b) (omega arith)
    go false f r = absurd (omega arith)
