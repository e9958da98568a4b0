-- Laws of the definitions of `specs/`, those of `Wire.antt` each over the width; and two on tests that every layer uses. With `Splice` it is what a crate above may
-- cite of proofs/ (`tests/layers`). Assumes nothing.
use mathlib.Core.Path.{◌≡◌, refl, sym, ap, ap₂, ◌∙◌, subst}
use mathlib.Core.List.{List, [], ◌∷◌, ◌++◌, append-nil, append_assoc}
use Prim.Native.Nat.{ℕ, zero, suc, ◌+◌, ◌-◌, ◌*◌, ◌/◌, ◌%◌, ◌^◌, ◌≤◌, ◌<◌}
use native.Mathlib.Nat.{add-zero, add-suc, suc-add, pow-le-pow_right, zero-lt-suc}
use native.Mathlib.Numerals.{add-one}
use native.Mathlib.Omega.{arith}
use native.Mathlib.Decide.{ℕ_discrete}
use lib.ListN.{length, take, drop, get_or, set, length-take, length-drop}
use lib.Seq.{sets, sets-eq, length-sets, drop-cons, drop-drop, take_all, take-suc}
use Rattle.std.proofs.lemmas.List.{get_or-drop}
use borrow.Rule.Slice.PartMut.{put_mid}
use lib.Pow.{pow-add}
use Rattle.wire.specs.Returns.{need}
use Rattle.wire.specs.Wire.{le, number, part, field, splice, same}
use mathlib.Core.Bool.{Bool, true, false, ◌&&◌, cond, false≢true}
use Rattle.std.specs.Cmp.Lexicographic.{pointwise}
use Rattle.std.specs.List.{list_all, zip}
use Rattle.std.proofs.lemmas.Grind.{take-set_at}
use lib.Dec.{eqb}
use lib.ListN.{length-append, drop_of_length-le}
-- What a call that writes to a lent room gives, by its two cases; and what was written lies in the room (`DoneLaws`).
pub use Rattle.wire.proofs.DoneLaws.{refused_writes, written_writes, written_fits}

pub length_le : (k n : ℕ) → length (le k n) ≡ k
unfolding le
length_le zero n = refl
length_le (suc k) n = ap suc (length_le k (n / 256))

pub length_part : (at k : ℕ) (xs : List ℕ) → at + k ≤ length xs → length (part at k xs) ≡ k
unfolding part
length_part at k xs h = simp (length-take, length-drop) (omega arith)

-- as many elements as there are: all of them
pub part_whole : (k : ℕ) (xs : List ℕ) → length xs ≡ k → part 0 k xs ≡ xs
unfolding part
part_whole k xs e = take_all k xs (omega arith)

pub length_splice : (at : ℕ) (bs xs : List ℕ) → at + length bs ≤ length xs → length (splice at bs xs) ≡ length xs
unfolding splice
length_splice at bs xs h = ap length (sym (sets-eq bs xs at h)) ∙ length-sets xs at bs

-- a run of stores is a splice
pub stores : (at : ℕ) (bs xs : List ℕ) → at + length bs ≤ length xs → sets xs at bs ≡ splice at bs xs
unfolding splice
stores at bs xs h = sets-eq bs xs at h

-- what `&xs[at..at + k]` is
pub part_lent : (at k : ℕ) (xs : List ℕ) → take (at + k - at) (drop at xs) ≡ part at k xs
unfolding part
part_lent at k xs = ap (λ (j : ℕ). take j (drop at xs)) (omega arith)

-- a write through `&mut xs[at..at + k]`, which leaves zs there, is a splice
pub part_stored : (at k : ℕ) (zs bs xs : List ℕ) → zs ≡ bs → k ≡ length bs → put_mid at k xs zs ≡ splice at bs xs
unfolding splice
part_stored at k zs bs xs e long =
    ap₂ (λ (l : List ℕ) (j : ℕ). take at xs ++ (l ++ drop j (drop at xs))) e long
    ∙ ap (λ (l : List ℕ). take at xs ++ (bs ++ l)) (drop-drop (length bs) at xs)
    ∙ sym (append_assoc (take at xs) bs (drop (at + length bs) xs))

-- one byte more of a number, at the front
pub le_step : (k n : ℕ) {j : ℕ} → j ≡ k + 1 → le j n ≡ n % 256 ∷ le k (n / 256)
unfolding le
le_step k n e = ap (λ (x : ℕ). le x n) (e ∙ add-one k)

-- a turn of the loop that writes the n lowest bytes of a number over the elements of xs: i of them are written, and m is what is left of the number
pub written_turn : (xs : List ℕ) (i n m : ℕ) → i < n → length xs ≡ n → take (i + 1) (set xs i (m % 256)) ++ le (n - (i + 1)) (m / 256) ≡ take i xs ++ le (n - i) m
written_turn xs i n m less long =
    ap (λ (l : List ℕ). l ++ le (n - (i + 1)) (m / 256)) (take-set_at xs i (i + 1) (m % 256) refl (omega arith))
    ∙ append_assoc (take i xs) (m % 256 ∷ []) (le (n - (i + 1)) (m / 256))
    ∙ ap (λ (l : List ℕ). take i xs ++ l) (sym (le_step (n - (i + 1)) m (omega arith)))

-- its end: all of them are written
pub written_whole : (xs : List ℕ) (i n m : ℕ) → n ≤ i → length xs ≡ n → xs ≡ take i xs ++ le (n - i) m
unfolding le
written_whole xs i n m past long =
    let none : 0 ≡ n - i = omega arith in
    sym (append-nil xs) ∙ ap₂ (λ (l : List ℕ) (k : ℕ). l ++ le k m) (sym (take_all i xs (omega arith))) none

-- one element more of a part, at the front
pub part_step : (at k : ℕ) (xs : List ℕ) {j : ℕ} → j ≡ k + 1 → at < length xs → part at j xs ≡ get_or xs at 0 ∷ part (at + 1) k xs
unfolding part
part_step at k xs e h =
    ap (λ (x : ℕ). take x (drop at xs)) (e ∙ add-one k) ∙ ap (take (suc k)) (drop-cons xs at 0 h)
    ∙ ap (λ (x : ℕ). get_or xs at 0 ∷ take k (drop x xs)) (sym (add-one at))

pub field_step : (xs : List ℕ) (at k : ℕ) {j : ℕ} → j ≡ k + 1 → at < length xs → field xs at j ≡ field xs (at + 1) k * 256 + get_or xs at 0
unfolding field number
field_step xs at k e h = ap number (part_step at k xs e h)

pub field_none : (xs : List ℕ) (at : ℕ) → field xs at 0 ≡ 0
unfolding field number part
field_none xs at = refl

-- a number is 0 exactly where each of its bytes is: from a 0 to the bytes,
at_or_past : (xs : List ℕ) {i at : ℕ} → Dec (i ≡ at) → get_or xs at 0 ≡ 0 → ((i ≡ at → ⊥) → get_or xs i 0 ≡ 0) → get_or xs i 0 ≡ 0
at_or_past xs (yes e) first rest = ap (λ (x : ℕ). get_or xs x 0) e ∙ first
at_or_past xs (no f) first rest = rest f

pub bytes_zero : (xs : List ℕ) (k at : ℕ) → at + k ≤ length xs → field xs at k ≡ 0 → (i : ℕ) → at ≤ i → i < at + k → get_or xs i 0 ≡ 0
bytes_zero xs zero at long e i from to = absurd (omega arith)
bytes_zero xs (suc k) at long e i from to =
    let sum : field xs (at + 1) k * 256 + get_or xs at 0 ≡ 0 = sym (field_step xs at k (sym (add-one k)) (omega arith)) ∙ e in
    at_or_past xs (ℕ_discrete i at) (omega (arith, sum)) (λ f. bytes_zero xs k (at + 1) (omega arith) (omega (arith, sum)) i (omega (arith, f)) (omega arith))

-- and from the bytes to a 0
pub zero_bytes : (xs : List ℕ) (k at : ℕ) → at + k ≤ length xs → ((i : ℕ) → at ≤ i → i < at + k → get_or xs i 0 ≡ 0) → field xs at k ≡ 0
zero_bytes xs zero at long each = field_none xs at
zero_bytes xs (suc k) at long each =
    let high = zero_bytes xs k (at + 1) (omega arith) (λ i from to. each i (omega arith) (omega arith)) in
    let low = each at (omega arith) (omega arith) in
    field_step xs at k (sym (add-one k)) (omega arith) ∙ omega (arith, high, low)

-- a byte more than a number of k bytes
pub byte_more : (k r b : ℕ) {j : ℕ} → j ≡ k + 1 → r < 256 ^ k → b < 256 → r * 256 + b < 256 ^ j
byte_more k r b {j} e hr hb =
    let p : 256 ^ j ≡ 256 ^ k * 256 = ap (λ (x : ℕ). 256 ^ x) e ∙ pow-add 256 k 1 in
    subst (λ (x : ℕ). r * 256 + b < x) (sym p) (omega arith)

-- k bytes make a number below 256 ^ k
pub field_small : (xs : List ℕ) (k at : ℕ) → at + k ≤ length xs → ((i : ℕ) → get_or xs i 0 < 256) → field xs at k < 256 ^ k
field_small xs zero at long each = omega (arith, field_none xs at)
field_small xs (suc k) at long each =
    rw (field_step xs at k (sym (add-one k)) (omega arith))
    (byte_more k _ _ (sym (add-one k)) (field_small xs k (at + 1) (omega arith) each) (each at))

pub part_none : (at k : ℕ) (xs : List ℕ) → k ≡ 0 → part at k xs ≡ []
unfolding part
part_none at k xs e = ap (λ (x : ℕ). take x (drop at xs)) e

-- a turn of the loop that copies the n elements of s from index from over those of xs: i of them are copied
pub copied_turn : (xs s : List ℕ) (from i n : ℕ) → i < n → length xs ≡ n → from + n ≤ length s → take i xs ≡ part from i s
    → take (i + 1) (set xs i (get_or s (from + i) 0)) ≡ part from (i + 1) s
unfolding part
copied_turn xs s from i n less long fits h =
    take-set_at xs i (i + 1) (get_or s (from + i) 0) refl (omega arith)
    ∙ ap₂ (λ (l : List ℕ) (b : ℕ). l ++ (b ∷ [])) h (sym (get_or-drop from s i 0))
    ∙ sym (take-suc (drop from s) i 0 (omega (arith, length-drop from s)))
    ∙ ap (λ (k : ℕ). take k (drop from s)) (sym (add-one i))

sets_append : (a b xs : List ℕ) (at j : ℕ) → j ≡ at + length a → sets (sets xs at a) j b ≡ sets xs at (a ++ b)
sets_append [] b xs at j e = ap (λ (x : ℕ). sets xs x b) (e ∙ add-zero at)
sets_append (x ∷ a) b xs at j e = sets_append a b (set xs at x) (suc at) j (e ∙ add-suc at (length a) ∙ sym (suc-add at (length a)))

-- two splices, the second where the first ends, are one
pub joined : (at j : ℕ) (a b xs : List ℕ) → j ≡ at + length a → j + length b ≤ length xs → splice j b (splice at a xs) ≡ splice at (a ++ b) xs
joined at j a b xs e h =
    ap (splice j b) (sym (stores at a xs (omega arith)))
    ∙ sym (stores j b (sets xs at a) (rw length-sets h))
    ∙ sets_append a b xs at j e
    ∙ stores at (a ++ b) xs (rw length-append (omega arith))

-- bytes copied over an array of as many
pub copied : (n : ℕ) (xs ys : List ℕ) → length xs ≡ n → length ys ≡ n → splice 0 xs ys ≡ xs
unfolding splice
copied n xs ys e f = ap (λ (l : List ℕ). xs ++ l) (drop_of_length-le ys {i = 0 + length xs} (omega arith)) ∙ append-nil xs

-- equal as std compares two slices
pub same_pointwise : (xs ys : List ℕ) → pointwise eqb xs ys ≡ same xs ys
unfolding same
same_pointwise [] [] = refl
same_pointwise [] (y ∷ ys) = refl
same_pointwise (x ∷ xs) [] = refl
same_pointwise (x ∷ xs) (y ∷ ys) = ap (λ (b : Bool). eqb x y && b) (same_pointwise xs ys)

-- and so as a test of each pair
pub same_pairs : (xs ys : List ℕ) → length xs ≡ length ys → list_all (λ (p : ℕ × ℕ). eqb p.0 p.1) (zip xs ys) ≡ same xs ys
unfolding same
same_pairs [] [] e = refl
same_pairs [] (y ∷ ys) e = absurd (omega arith)
same_pairs (x ∷ xs) [] e = absurd (omega arith)
same_pairs (x ∷ xs) (y ∷ ys) e = ap (λ (b : Bool). eqb x y && b) (same_pairs xs ys (omega arith))

-- a check that fails gives its number, one that holds gives the rest
pub need_fails : {t : Bool} (n m : ℕ) → t ≡ false → n ≡ need t n m
need_fails n m e = sym (ap (λ (b : Bool). need b n m) e)

pub need_holds : {t : Bool} (n m : ℕ) → t ≡ true → m ≡ need t n m
need_holds n m e = sym (ap (λ (b : Bool). need b n m) e)

-- a chain of checks that gives 0: the first holds, and the rest gives 0
pub need_zero : (t : Bool) (n m : ℕ) → 0 < n → need t n m ≡ 0 → (t ≡ true) × (m ≡ 0)
need_zero true n m pos e = (refl, e)
need_zero false n m pos e = absurd (omega arith)

-- two tests that hold together
pub and_parts : (a b : Bool) → (a && b) ≡ true → (a ≡ true) × (b ≡ true)
and_parts true b e = (refl, e)
and_parts false b e = absurd (false≢true e)

-- what holds of both of two values holds of whichever a test takes
pub either : {A : Type 0} (P : A → Type 0) (t : Bool) {a b : A} → P a → P b → P (cond t a b)
either P true k l = k
either P false k l = l

-- a number of at most 8 bytes fits 64 bits
pub below_word : (k r : ℕ) → k ≤ 8 → r < 256 ^ k → r < 2 ^ 64
below_word k r hk hr = omega (arith, pow-le-pow_right {n = 256} (zero-lt-suc 255) hk)
