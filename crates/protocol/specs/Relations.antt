-- What the functions of this crate ensure: records of equations between their answers, the buffers that they are lent and the definitions. Assumes nothing.
use Rattle.std.specs.Prelude.{ℕ, ◌+◌, ◌≤◌, ◌≡◌, true, ◌⊎◌, Option, List, ◌++◌, length}
use Rattle.wire.specs.Wire.{splice}
use Rattle.mailbox.specs.State.{DeviceState, ValidDevice, state_of}
use Rattle.protocol.specs.declared.calls.Served.{Served}
use Rattle.protocol.specs.declared.stream.Stream.{Stream}
use Rattle.protocol.specs.declared.records.Found.{Found}
use Rattle.protocol.specs.Stream.{count_left, left, Continues}
use Rattle.protocol.specs.Records.{some_size, whole}
use Rattle.protocol.specs.Runs.{Printed}

-- text put into the output buffer from index at on: every byte of the buffer, and the place after the text
pub record Puts (at : ℕ) (text before after : List ℕ) (r : ℕ) : Type 0 where
  pub bytes : after ≡ splice at text before
  pub end : r ≡ at + length text

-- a whole line put: besides, it lies in the buffer
pub record PutsLine (at : ℕ) (text before after : List ℕ) (r : ℕ) : Type 0 where
  pub puts : Puts at text before after r
  pub room : r ≤ length before

-- a size told: of n bytes, none where n is 0; so many fit the input buffer
pub record Sizes (n : ℕ) (r : Option ℕ) : Type 0 where
  pub told : r ≡ some_size n
  pub most : n ≤ 65536

-- what is found at a stream's place: how many bytes a reading of those left there gives, and would give with any more bytes after them unless the input has
-- ended; so many are in the input buffer
pub record Finds (reading : List ℕ → ℕ) (s : Stream) (r : Found) (before after : List ℕ) : Type 0 where
  pub size : r.size ≡ reading (left r.stream after)
  pub sure : (r.stream.ended ≡ true) ⊎ ((more : List ℕ) → reading (left r.stream after ++ more) ≡ r.size)
  pub same : Continues s r.stream before after
  pub inside : r.size ≤ count_left r.stream

-- n bytes found: where they were there, nothing was read
pub record FindsBytes (n : ℕ) (s : Stream) (r : Found) (before after : List ℕ) : Type 0 where
  pub found : Finds (whole n) s r before after
  pub idle : n ≤ count_left s → (r.stream ≡ s) × (after ≡ before)

-- a record served: its line put into the output buffer, and the device that follows
pub record Serves (o : Printed DeviceState) (used : ℕ) (r : Served) (before after : List ℕ) : Type 0 where
  pub line : PutsLine used o.line before after r.used
  pub next : state_of r.device ≡ o.next
  pub valid : ValidDevice r.device
