-- A Set LSA and a Get LSA, over any two payloads (document 02, W-206): where the ranges are the same the Get gives the data back, and where no byte is in both it gives what it
-- gave before the Set. And the reserved bytes, each by itself. Assumes nothing.
use mathlib.Core.Path.{◌≡◌, refl, sym, ap, ap₂, ◌∙◌}
use mathlib.Core.Bool.{Bool, false}
use mathlib.Core.List.{List, []}
use mathlib.Core.Logic.{◌⊎◌, inl, inr}
use Prim.Native.Nat.{ℕ, ◌+◌, ◌≤◌, ◌<◌}
use native.Mathlib.Omega.{arith}
use native.Mathlib.Decide.{dec_le, ℕ_discrete}
use lib.Dec.{eqb, leb}
use lib.ListN.{length, get_or}
use borrow.Author.Tests.{le-leb, lt-leb, eq-eqb, ne_eqb}
use Rattle.wire.specs.Wire.{part, splice}
use Rattle.wire.specs.Returns.{success, invalid_input, need}
use Rattle.wire.specs.Done.{Written, written, refused}
use Rattle.wire.proofs.Laws.{part_none, length_splice, bytes_zero, either}
use Rattle.wire.proofs.Splice.{nothing_written, part_written, part_before, part_after}
use Rattle.labels.specs.Labels.{label_size, label_offset, labels_asked, labels_reserved, label_data, get_labels, set_code, set_labels, SameRange, Apart}
use Rattle.labels.proofs.Cases.{get_long, get_past, get_read, set_accepted}

-- a Get LSA of at most `most` bytes that ends in the area gives the bytes of its range; every other is 0002h
module _ (most : ℕ) (p area : List ℕ) where
  pub get_inside : labels_asked p ≤ most → label_offset p + labels_asked p ≤ label_size → get_labels most p area ≡ written (part (label_offset p) (labels_asked p) area)
  get_inside short h = get_read most p area short (le-leb _ _ h)

  pub get_outside : (most < labels_asked p) ⊎ (label_size < label_offset p + labels_asked p) → get_labels most p area ≡ refused invalid_input
  get_outside (inl l) = get_long most p area l
  get_outside (inr l) = go (dec_le (labels_asked p) most)
    where
      go : Dec (labels_asked p ≤ most) → get_labels most p area ≡ refused invalid_input
      go (yes short) = get_past most p area short (lt-leb (label_offset p + labels_asked p) label_size l)
      go (no f) = get_long most p area (omega (arith, f))

-- so one that is answered Success gives those bytes
pub get_accepted : (most : ℕ) (p area : List ℕ) → (get_labels most p area).code ≡ success → get_labels most p area ≡ written (part (label_offset p) (labels_asked p) area)
get_accepted most p area z = fits (dec_le (labels_asked p) most)
  where
    refusal : get_labels most p area ≡ refused invalid_input → get_labels most p area ≡ written (part (label_offset p) (labels_asked p) area)
    refusal e = let two : invalid_input ≡ success = sym (ap (λ (w : Written). w.code) e) ∙ z in absurd (omega (arith, two))

    ends : labels_asked p ≤ most → Dec (label_offset p + labels_asked p ≤ label_size) → get_labels most p area ≡ written (part (label_offset p) (labels_asked p) area)
    ends short (yes h) = get_inside most p area short h
    ends short (no f) = refusal (get_outside most p area (inr (omega (arith, f))))

    fits : Dec (labels_asked p ≤ most) → get_labels most p area ≡ written (part (label_offset p) (labels_asked p) area)
    fits (yes short) = ends short (dec_le (label_offset p + labels_asked p) label_size)
    fits (no f) = refusal (get_outside most p area (inl (omega (arith, f))))

-- and one that is refused gives none
record Silent (w : Written) : Type 0 where
  silent : (w.code ≡ success → ⊥) → w.bytes ≡ []

pub get_refused : (most : ℕ) (p area : List ℕ) → ((get_labels most p area).code ≡ success → ⊥) → (get_labels most p area).bytes ≡ []
unfolding get_labels
get_refused most p area =
    (either Silent (leb (labels_asked p) most)
    (either Silent (leb (label_offset p + labels_asked p) label_size) (record { silent = λ f. absurd (f refl) }) (record { silent = λ f. refl }))
    (record { silent = λ f. refl })).silent

-- a part of a list in which a splice touched no element of it
untouched : (i k at : ℕ) (bs xs : List ℕ) → at + length bs ≤ length xs → ((j : ℕ) → at ≤ j → j < at + length bs → i ≤ j → j < i + k → ⊥) → part i k (splice at bs xs) ≡ part i k xs
untouched i k at bs xs fits apart = before (dec_le (i + k) at)
  where
    -- an element of both: where the later of the two begins
    shared : at < i + k → i < at + length bs → 0 < k → 0 < length bs → Dec (i ≤ at) → ⊥
    shared ends begins some most (yes h) = apart at (omega arith) (omega arith) h ends
    shared ends begins some most (no f) = apart i (omega (arith, f)) begins (omega arith) (omega arith)

    filled : at < i + k → i < at + length bs → 0 < k → Dec (length bs ≡ 0) → part i k (splice at bs xs) ≡ part i k xs
    filled ends begins some (yes z) = ap (part i k) (nothing_written at bs xs z)
    filled ends begins some (no f) = absurd (shared ends begins some (omega (arith, f)) (dec_le i at))

    neither : at < i + k → i < at + length bs → Dec (k ≡ 0) → part i k (splice at bs xs) ≡ part i k xs
    neither ends begins (yes z) = part_none i k (splice at bs xs) z ∙ sym (part_none i k xs z)
    neither ends begins (no f) = filled ends begins (omega (arith, f)) (ℕ_discrete (length bs) 0)

    after : at < i + k → Dec (at + length bs ≤ i) → part i k (splice at bs xs) ≡ part i k xs
    after ends (yes h) = part_after i k at bs xs h fits
    after ends (no f) = neither ends (omega (arith, f)) (ℕ_discrete k 0)

    before : Dec (i + k ≤ at) → part i k (splice at bs xs) ≡ part i k xs
    before (yes h) = part_before i k at bs xs h fits
    before (no f) = after (omega (arith, f)) (dec_le (at + length bs) i)

module _ (most : ℕ) (p q area : List ℕ) (long : length area ≡ label_size) (set : set_code p ≡ success) where
  fits : label_offset p + length (label_data p) ≤ length area
  fits = let ends = (set_accepted p set).0 in omega (arith, ends, long)

  -- "a Get of the same range gives the data back"
  pub read_back : SameRange p q → (get_labels most q (set_labels p area)).code ≡ success → get_labels most q (set_labels p area) ≡ written (label_data p)
  unfolding set_labels
  read_back same z =
      get_accepted most q (set_labels p area) z
      ∙ ap written
      (ap₂ (λ (at k : ℕ). part at k (splice (label_offset p) (label_data p) area)) same.offset same.size
      ∙ part_written (label_offset p) (label_data p) area fits)

  -- "a Get of a range apart from it gives what it gave just before the Set"
  pub apart_kept : Apart p q → get_labels most q (set_labels p area) ≡ get_labels most q area
  unfolding get_labels set_labels
  apart_kept apart =
      ap (λ (l : List ℕ). need (leb (labels_asked q) most) (refused invalid_input) (need (leb (label_offset q + labels_asked q) label_size) (refused invalid_input) (written l)))
      (untouched (label_offset q) (labels_asked q) (label_offset p) (label_data p) area fits apart)

  -- the area keeps its length
  pub set_length : length (set_labels p area) ≡ label_size
  unfolding set_labels
  set_length = length_splice (label_offset p) (label_data p) area fits ∙ long

-- the four reserved bytes: a Set that is accepted has none that is not zero, and one with a byte that is not zero is 0002h
module _ (p : List ℕ) (least : 8 ≤ length p) where
  pub reserved_accepted : set_code p ≡ success → (i : ℕ) → 4 ≤ i → i < 8 → get_or p i 0 ≡ 0
  reserved_accepted z i from to = bytes_zero p 4 4 (omega arith) (set_accepted p z).1 i from (omega arith)

  pub reserved_refused : (i : ℕ) → 4 ≤ i → i < 8 → (get_or p i 0 ≡ 0 → ⊥) → set_code p ≡ invalid_input
  unfolding set_code
  reserved_refused i from to f =
      let some : eqb (labels_reserved p) 0 ≡ false = ne_eqb (labels_reserved p) 0 (λ z. f (bytes_zero p 4 4 (omega arith) z i from (omega arith))) in
      either (λ (n : ℕ). n ≡ invalid_input) (leb (label_offset p + length (label_data p)) label_size) (ap (λ (t : Bool). need t invalid_input success) some) refl

-- an end past the area is 0002h, and one at its end, with nothing reserved set, is not: also where there is no data
pub past_refused : (p : List ℕ) → label_size < label_offset p + length (label_data p) → set_code p ≡ invalid_input
unfolding set_code
past_refused p h = simp (lt-leb _ _ h)

pub inside_accepted : (p : List ℕ) → label_offset p + length (label_data p) ≤ label_size → labels_reserved p ≡ 0 → set_code p ≡ success
unfolding set_code
inside_accepted p h z = simp (le-leb _ _ h, eq-eqb _ _ z)
