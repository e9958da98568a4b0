-- Reading after a splice, over any width and offset: what was written is read back, and what lies elsewhere is as before. And in one list appended to another: each
-- is read as it is by itself. Assumes nothing.
use mathlib.Core.Path.{◌≡◌, refl, sym, ap, ◌∙◌}
use mathlib.Core.List.{List, [], ◌∷◌, ◌++◌, append_assoc, append-nil}
use Prim.Native.Nat.{ℕ, zero, suc, ◌+◌, ◌-◌, ◌*◌, ◌/◌, ◌%◌, ◌^◌, ◌≤◌, ◌<◌}
use native.Mathlib.Nat.{add-zero, div-add-mod', div-lt_iff_lt-mul, pow-suc, zero-lt-suc}
use native.Mathlib.Omega.{arith}
use lib.ListN.{length, take, drop, length-take, length-drop, length-append, take-append-drop}
use lib.Seq.{take-append-le, drop-append-le, drop-append-add, drop-drop, take_at, take_all, drop_at}
use Rattle.wire.specs.Wire.{le, number, part, field, splice}
use Rattle.wire.proofs.Laws.{length_le}

-- the number that the k bytes of n stand for is n, where n has k bytes
pub number_le : (k n : ℕ) → n < 256 ^ k → number (le k n) ≡ n
unfolding number le
number_le zero n h = sym (omega arith)
number_le (suc k) n h =
    let few : n < 256 ^ k * 256 = rw pow-suc at h in
    ap (λ (x : ℕ). x * 256 + n % 256) (number_le k (n / 256) ((div-lt_iff_lt-mul {k = 256} (zero-lt-suc 255)).1 few)) ∙ div-add-mod' n 256

-- a number at the front of a list
pub field_le : (k n : ℕ) (b : List ℕ) → n < 256 ^ k → field (le k n ++ b) 0 k ≡ n
unfolding field part
field_le k n b h = ap number (take_at (le k n) b k (length_le k n)) ∙ number_le k n h

-- and by itself
pub number_read : (k n : ℕ) → n < 256 ^ k → field (le k n) 0 k ≡ n
unfolding field part
number_read k n h = ap number (take_all k (le k n) (rw length_le (omega arith))) ∙ number_le k n h

-- a part read where a splice wrote it
pub part_written : (at : ℕ) (bs xs : List ℕ) → at + length bs ≤ length xs → part at (length bs) (splice at bs xs) ≡ bs
unfolding part splice
part_written at bs xs h =
    let long : length (take at xs) ≡ at = simp length-take (omega arith) in
    rw append_assoc
    (ap (take (length bs)) (drop_at (take at xs) (bs ++ drop (at + length bs) xs) at long) ∙ take_at bs (drop (at + length bs) xs) (length bs) refl)

-- no elements in place of none: the list as it was
pub nothing_written : (at : ℕ) (bs xs : List ℕ) → length bs ≡ 0 → splice at bs xs ≡ xs
unfolding splice
nothing_written at [] xs e = rw (append-nil, add-zero) (take-append-drop at xs)
nothing_written at (b ∷ bs) xs e = absurd (omega arith)

-- a part of the first elements of a list does not see what follows them
pub part_front : (i k : ℕ) (a b : List ℕ) → i + k ≤ length a → part i k (a ++ b) ≡ part i k a
unfolding part
part_front i k a b h = ap (take k) (drop-append-le i a b (omega arith)) ∙ take-append-le k (drop i a) b (rw length-drop (omega arith))

-- a part that begins past them does not see them
pub part_past : (i k j : ℕ) (a b : List ℕ) → j ≡ length a + i → part j k (a ++ b) ≡ part i k b
unfolding part
part_past i k j a b e = ap (take k) (ap (λ (x : ℕ). drop x (a ++ b)) e ∙ drop-append-add a b i)

-- the same of a field
pub field_front : (i k : ℕ) (a b : List ℕ) → i + k ≤ length a → field (a ++ b) i k ≡ field a i k
unfolding field
field_front i k a b h = ap number (part_front i k a b h)

pub field_past : (i k j : ℕ) (a b : List ℕ) → j ≡ length a + i → field (a ++ b) j k ≡ field b i k
unfolding field
field_past i k j a b e = ap number (part_past i k j a b e)

part_of_front : (i k at : ℕ) (xs t : List ℕ) → i + k ≤ at → at ≤ length xs → part i k (take at xs ++ t) ≡ part i k (take at xs)
part_of_front i k at xs t h fits = part_front i k (take at xs) t (rw length-take (omega arith))

-- a part that ends where a splice begins, or before
pub part_before : (i k at : ℕ) (bs xs : List ℕ) → i + k ≤ at → at + length bs ≤ length xs → part i k (splice at bs xs) ≡ part i k xs
unfolding splice
part_before i k at bs xs h fits =
    ap (part i k) (append_assoc (take at xs) bs (drop (at + length bs) xs))
    ∙ part_of_front i k at xs (bs ++ drop (at + length bs) xs) h (omega arith)
    ∙ sym (part_of_front i k at xs (drop at xs) h (omega arith))
    ∙ ap (part i k) (take-append-drop at xs)

-- a part that begins where a splice ends, or after
pub part_after : (i k at : ℕ) (bs xs : List ℕ) → at + length bs ≤ i → at + length bs ≤ length xs → part i k (splice at bs xs) ≡ part i k xs
unfolding part splice
part_after i k at bs xs h fits =
    let front : length (take at xs ++ bs) ≡ at + length bs = simp (length-append, length-take) (omega arith) in
    let past : i ≡ length (take at xs ++ bs) + (i - (at + length bs)) = omega arith in
    let whole : at + length bs + (i - (at + length bs)) ≡ i = omega arith in
    ap (take k)
    (ap (λ (j : ℕ). drop j (take at xs ++ bs ++ drop (at + length bs) xs)) past
    ∙ drop-append-add (take at xs ++ bs) (drop (at + length bs) xs) (i - (at + length bs))
    ∙ drop-drop (i - (at + length bs)) (at + length bs) xs
    ∙ ap (λ (j : ℕ). drop j xs) whole)

-- a number written is the number read back
pub field_written : (at k n : ℕ) (xs : List ℕ) → n < 256 ^ k → at + k ≤ length xs → field (splice at (le k n) xs) at k ≡ n
unfolding field
field_written at k n xs small fits =
    let long : length (le k n) ≡ k = length_le k n in
    ap number (ap (λ (j : ℕ). part at j (splice at (le k n) xs)) (sym long) ∙ part_written at (le k n) xs (rw long fits)) ∙ number_le k n small

-- a field that ends where a splice begins, or before, and one that begins where it ends, or after
pub field_before : (i k at : ℕ) (bs xs : List ℕ) → i + k ≤ at → at + length bs ≤ length xs → field (splice at bs xs) i k ≡ field xs i k
unfolding field
field_before i k at bs xs h fits = ap number (part_before i k at bs xs h fits)

pub field_after : (i k at : ℕ) (bs xs : List ℕ) → at + length bs ≤ i → at + length bs ≤ length xs → field (splice at bs xs) i k ≡ field xs i k
unfolding field
field_after i k at bs xs h fits = ap number (part_after i k at bs xs h fits)
