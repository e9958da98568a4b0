-- The bytes of records: how many they are, how an address and a type are packed, and what the stores of a record, and of one record
-- after the other, leave in a buffer. Assumes nothing.
use mathlib.Core.Path.{◌≡◌, refl, sym, ap, ap₂, ◌∙◌}
use mathlib.Core.List.{List, [], ◌∷◌, ◌++◌, map}
use Prim.Native.Nat.{ℕ, suc, ◌+◌, ◌-◌, ◌*◌, ◌/◌, ◌%◌, ◌^◌, ◌≤◌, ◌<◌, min, max}
use native.Mathlib.Nat.{mod-eq_of_lt}
use native.Mathlib.Omega.{arith}
use lib.Bits.{bit_or, or_shifted}
use lib.ListN.{length, drop, get_or, length-append, length-map, length-drop, drop_of_length-le}
use lib.Seq.{drop-cons}
use Rattle.wire.specs.Wire.{le, splice}
use Rattle.wire.proofs.Laws.{length_le, joined, stores}
use Rattle.poison.specs.Runs.{run}
use Rattle.poison.specs.State.{Entry, entry, entries_in}
use Rattle.poison.specs.Range.{cut_to, record_bytes, records_bytes, Writable}
use Rattle.poison.proofs.Moves.{nought}
use Rattle.poison.proofs.Views.{length_entries_in, entry_in}

-- a record has 16 bytes
pub length_record : (e : Entry) → length (record_bytes e) ≡ 16
unfolding record_bytes
length_record e = simp (length-append, length_le)

-- records have 16 bytes each
pub length_records : (es : List Entry) → length (records_bytes es) ≡ 16 * length es
unfolding records_bytes
length_records [] = refl
length_records (e ∷ es) = let i = length_records es in let o = length_record e in simp length-append (omega arith)

-- a type of three bits lies below the address of a line
pub packed : (start kind : ℕ) → start < 2 ^ 32 → kind < 8 → bit_or (start * 64 % 2 ^ 64) kind ≡ start * 64 + kind
packed start kind h g =
    let small : start * 64 < 2 ^ 64 = omega arith in
    rw (mod-eq_of_lt small) (or_shifted start 6 kind (omega arith))

-- what a reader of the address finds: the type in bits 0 to 2, zero in bits 3 to 5, and the line above them
pub unpacked : (start kind : ℕ) → kind < 8 → ((start * 64 + kind) % 8 ≡ kind) × ((start * 64 + kind) / 8 % 8 ≡ 0) × ((start * 64 + kind) / 64 ≡ start)
unpacked start kind h = (omega arith, omega arith, omega arith)

-- the three stores of a record, one after the other
pub record_stored : (at start lines kind address : ℕ) (xs x₁ x₂ x₃ : List ℕ) → address ≡ start * 64 + kind → at + 16 ≤ length xs
    → x₁ ≡ splice at (le 8 address) xs → x₂ ≡ splice (at + 8) (le 4 lines) x₁ → x₃ ≡ splice (at + 12) (le 4 0) x₂
    → x₃ ≡ splice at (record_bytes (entry kind (run start lines))) xs
unfolding record_bytes
record_stored at start lines kind address xs x₁ x₂ x₃ e h p q r =
    let a = length_le 8 address in
    let b = length_le 4 lines in
    let c = length_le 4 0 in
    r
    ∙ ap (splice (at + 12) (le 4 0)) (q ∙ ap (splice (at + 8) (le 4 lines)) p ∙ joined at (at + 8) (le 8 address) (le 4 lines) xs (omega arith) (omega arith))
    ∙ joined at (at + 12) (le 8 address ++ le 4 lines) (le 4 0) xs (simp length-append (omega arith)) (omega arith)
    ∙ ap (λ (x : ℕ). splice at (le 8 x ++ le 4 lines ++ le 4 0) xs) e

-- the record of an entry cut to the n lines from a on, by the bounds that the code finds
pub cut_stored : (at a n start lines kind s e : ℕ) (xs ys : List ℕ) → s ≡ max a start → e ≡ min (a + n) (start + lines)
    → ys ≡ splice at (record_bytes (entry kind (run s (e - s)))) xs
    → ys ≡ splice at (record_bytes (cut_to a n (entry kind (run start lines)))) xs
cut_stored at a n start lines kind s e xs ys p q r = r ∙ ap₂ (λ (s e : ℕ). splice at (record_bytes (entry kind (run s (e - s)))) xs) p q

-- a record, and those after it
pub records_turn : (at j : ℕ) (e : Entry) (es : List Entry) (xs : List ℕ) → j ≡ at + 16 → j + 16 * length es ≤ length xs
    → splice j (records_bytes es) (splice at (record_bytes e) xs) ≡ splice at (records_bytes (e ∷ es)) xs
unfolding records_bytes
records_turn at j e es xs p h =
    joined at j (record_bytes e) (records_bytes es) xs (omega (arith, length_record e)) (omega (arith, length_records es))

-- no record more
pub records_end : (at : ℕ) (xs : List ℕ) → at ≤ length xs → splice at (records_bytes []) xs ≡ xs
unfolding records_bytes
records_end at xs h = sym (stores at [] xs (omega arith))

-- ---- the loop that writes the records of m neighbours in arrays, from place `first` on, each cut to the n lines from a on
module _ (a n first m : ℕ) (starts lengths kinds : List ℕ) (w : Writable a n first m starts lengths kinds) where
  abbrev E : List Entry
  E = entries_in (first + m) starts lengths kinds

  same_lengths : length starts ≡ length lengths
  same_lengths = w.starts_slots ∙ sym w.lengths_slots

  same_kinds : length starts ≡ length kinds
  same_kinds = w.starts_slots ∙ sym w.kinds_slots

  -- the entries up to the last neighbour
  length_held : length E ≡ first + m
  length_held = length_entries_in (first + m) starts lengths same_lengths kinds same_kinds (omega arith)

  -- what is left to write at place first + i: that entry's record, and what is left at the next
  left_cut : (i : ℕ) → i < m → map (cut_to a n) (drop (first + i) E) ≡ cut_to a n (entry (get_or kinds (first + i) 0) (run (get_or starts (first + i) 0) (get_or lengths (first + i) 0))) ∷ map (cut_to a n) (drop (first + (i + 1)) E)
  left_cut i h =
      let e : suc (first + i) ≡ first + (i + 1) = omega arith in
      let g = entry_in (first + m) starts lengths same_lengths kinds same_kinds (first + i) (omega arith) in
      ap (map (cut_to a n)) (drop-cons E (first + i) nought (omega (arith, length_held)) ∙ ap₂ (λ (x : Entry) (k : ℕ). x ∷ drop k E) g e)

  -- a turn: one record written, what is left to write gives the same bytes
  pub neighbours_turn : (at i : ℕ) (xs ys d₀ : List ℕ) → i < m → at + 16 * m ≤ length xs
      → ys ≡ splice (at + 16 * i) (record_bytes (cut_to a n (entry (get_or kinds (first + i) 0) (run (get_or starts (first + i) 0) (get_or lengths (first + i) 0))))) xs
      → splice (at + 16 * i) (records_bytes (map (cut_to a n) (drop (first + i) E))) xs ≡ d₀
      → splice (at + 16 * (i + 1)) (records_bytes (map (cut_to a n) (drop (first + (i + 1)) E))) ys ≡ d₀
  neighbours_turn at i xs ys d₀ h room p q =
      let len : length (map (cut_to a n) (drop (first + (i + 1)) E)) ≡ m - (i + 1) = simp (length-map, length-drop) (omega (arith, length_held)) in
      rw p
      (records_turn (at + 16 * i) (at + 16 * (i + 1)) _ (map (cut_to a n) (drop (first + (i + 1)) E)) xs (omega arith) (omega arith)
      ∙ ap (λ (l : List Entry). splice (at + 16 * i) (records_bytes l) xs) (sym (left_cut i h))
      ∙ q)

  -- the end: nothing is left to write
  pub neighbours_end : (at : ℕ) (xs d₀ : List ℕ) → at + 16 * m ≤ length xs → splice (at + 16 * m) (records_bytes (map (cut_to a n) (drop (first + m) E))) xs ≡ d₀ → xs ≡ d₀
  neighbours_end at xs d₀ room q =
      sym (records_end (at + 16 * m) xs room)
      ∙ ap (λ (l : List Entry). splice (at + 16 * m) (records_bytes (map (cut_to a n) l)) xs) (sym (drop_of_length-le E {i = first + m} (omega (arith, length_held))))
      ∙ q
