-- The two buffers' places, the bytes of the input that are not used yet, and how one place of the input follows another. Assumes nothing.
use Rattle.std.specs.Prelude.{ℕ, ◌+◌, ◌-◌, ◌≤◌, ◌<◌, ◌≡◌, true, false, cond, ◌⊎◌, List, leb, ltb, length, take}
use Rattle.wire.specs.Wire.{part}
use Rattle.protocol.specs.declared.stream.Stream.{Stream}
use Rattle.protocol.specs.declared.stream.Filled.{Filled}

-- the bytes not used are in the buffer; so are the bytes not written
pub record Fits (s : Stream) : Type 0 where
  pub order : s.at ≤ s.end
  pub input : s.end ≤ 65536
  pub output : s.used ≤ 65536

-- the stream before anything was read: no byte of either buffer counts
abbrev pub unread : Stream
unread = record { at = 0; end = 0; offset = 0; used = 0; ended = false }

-- how many bytes of the input buffer are not used yet, and which
abbrev pub count_left : Stream → ℕ
count_left s = s.end - s.at

abbrev pub left : Stream → List ℕ → List ℕ
left s input = part s.at (count_left s) input

-- bytes read into the buffer from index `end` on, up to index r: what lies before them stays
pub record Reads (end : ℕ) (before after : List ℕ) (r : ℕ) : Type 0 where
  pub more : end ≤ r
  pub fits : r ≤ length before
  pub kept : take end after ≡ take end before

-- n bytes wanted in the buffer: the input has ended where fewer are there
pub record Fills (n end : ℕ) (before after : List ℕ) (r : Filled) : Type 0 where
  pub reads : Reads end before after r.end
  pub ended : r.ended ≡ ltb r.end n

-- the same place of the input, where perhaps more was read: the bytes that were left are the first of those that are left, and the output buffer
-- was written whole or not at all
pub record Continues (s r : Stream) (before after : List ℕ) : Type 0 where
  pub fits : Fits r
  pub place : r.offset ≡ s.offset
  pub more : count_left s ≤ count_left r
  pub kept : take (count_left s) (left r after) ≡ left s before
  pub output : (r.used ≡ s.used) ⊎ (r.used ≡ 0)

-- n bytes wanted: where they are there, nothing is read; fewer are left only where the input has ended
pub record Wants (n : ℕ) (s r : Stream) (before after : List ℕ) : Type 0 where
  pub same : Continues s r before after
  pub short : count_left r < n → r.ended ≡ true
  pub idle : n ≤ count_left s → (r ≡ s) × (after ≡ before)

-- the place past a record of so many bytes
pub record Past (s : Stream) (size : ℕ) (r : Stream) : Type 0 where
  pub at : r.at ≡ s.at + size
  pub end : r.end ≡ s.end
  pub offset : r.offset ≡ s.offset + size
  pub used : r.used ≡ s.used
  pub ended : r.ended ≡ s.ended

-- the bytes of the output buffer not written, where room was made for so many more
abbrev pub with_room : ℕ → ℕ → ℕ
with_room room used = cond (leb (used + room) 65536) used 0
