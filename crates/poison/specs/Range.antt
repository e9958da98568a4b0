-- What Get Poison List carries (document 01, "Poison list"): the entries that share a line with a range, each cut to the range, in order,
-- as "records of 16: address with the type in bits 0 to 2, length 4, zero 4".
use Rattle.std.specs.Prelude.{◌≡◌, Bool, cond, List, [], ◌∷◌, ◌++◌, ℕ, ◌+◌, ◌-◌, ◌*◌, ◌≤◌, ◌<◌, min, max, ltb, length, take, get_or}
use Rattle.wire.specs.Wire.{le, splice}
use Rattle.poison.specs.Runs.{Run, end, slots}
use Rattle.poison.specs.Shift.{first_at}
use Rattle.poison.specs.State.{Entry, shape, capacity}

-- where the lines shared by an entry and the n lines from a on begin and end
abbrev pub shared_start : ℕ → Entry → ℕ
shared_start a e = max a e.start

abbrev pub shared_end : ℕ → ℕ → Entry → ℕ
shared_end a n e = min (a + n) (end (shape e))

-- whether an entry shares a line with the range
abbrev pub shares : ℕ → ℕ → Entry → Bool
shares a n e = ltb (shared_start a e) (shared_end a n e)

-- an entry cut to the range
abbrev pub cut_to : ℕ → ℕ → Entry → Entry
cut_to a n e = record { start = shared_start a e; lines = shared_end a n e - shared_start a e; kind = e.kind }

-- an entry before others, if it is kept
unfoldable pub kept : Bool → Entry → List Entry → List Entry
kept b e es = cond b (e ∷ es) es

-- the entries that share a line with the n lines from a on, each cut to them, in order
unfoldable pub sharing : ℕ → ℕ → List Entry → List Entry
unfolding kept
sharing a n [] = []
sharing a n (e ∷ es) = kept (shares a n e) (cut_to a n e) (sharing a n es)

-- a record of the reply: the address (64 bytes a line) with the type in bits 0 to 2, the length in lines, zero
unfoldable pub record_bytes : Entry → List ℕ
record_bytes e = le 8 (e.start * 64 + e.kind) ++ le 4 e.lines ++ le 4 0

unfoldable pub records_bytes : List Entry → List ℕ
records_bytes [] = []
records_bytes (e ∷ es) = record_bytes e ++ records_bytes es

-- what the code ensures that writes at most `limit` records of these entries to a lent buffer from index `at` on: it answers how many of them share
-- a line with the range, and fixes every byte of the buffer
pub record Wrote (es : List Entry) (a n limit at r : ℕ) (before after : List ℕ) : Type 0 where
  pub number : r ≡ length (sharing a n es)
  pub bytes : after ≡ splice at (records_bytes (take limit (sharing a n es))) before

-- ---- what the parts of that code ask and ensure
-- the place of the first run that ends past line k, or the number of runs
abbrev pub first_past : List Run → ℕ → ℕ
first_past rs k = first_at (λ r. ltb k (end r)) rs

-- an entry of which a record for the n lines from a on can be written: it has a line of them, lies on the largest device, and its type
-- has three bits
pub record Cuttable (a n start lines kind : ℕ) : Type 0 where
  pub shared : max a start < min (a + n) (start + lines)
  pub bounded : start + lines ≤ capacity
  pub typed : kind < 8

-- m neighbours in arrays, from place `first` on, of which records for the n lines from a on can be written
pub record Writable (a n first m : ℕ) (starts lengths kinds : List ℕ) : Type 0 where
  pub starts_slots : length starts ≡ slots
  pub lengths_slots : length lengths ≡ slots
  pub kinds_slots : length kinds ≡ slots
  pub inside : first + m ≤ slots
  pub range : a + n ≤ capacity
  pub each : (i : ℕ) → i < m → Cuttable a n (get_or starts (first + i) 0) (get_or lengths (first + i) 0) (get_or kinds (first + i) 0)
