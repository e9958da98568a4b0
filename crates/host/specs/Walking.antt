-- The walk of a device's poison list as a call (document 02, W-202): what it answers, and what the functions that make it ask and ensure. Assumes nothing.
use Rattle.std.specs.Prelude.{◌≡◌, List, ◌++◌, ℕ, ◌+◌, ◌-◌, ◌*◌, ◌/◌, ◌≤◌, ◌<◌, eqb, leb, length}
use Rattle.labels.specs.Labels.{zero_area}
use Rattle.wire.specs.Returns.{success, small_buffer, need}
use Rattle.wire.specs.Wire.{part, splice}
use Rattle.poison.specs.State as P
use Rattle.poison.specs.Range.{records_bytes}
use Rattle.mailbox.specs.declared.device.Device.{Device}
use Rattle.commands.specs.Numbers.{poison_records}
use Rattle.mailbox.specs.State.{DeviceState, ValidDevice, lines_of, state_of}
use Rattle.mailbox.specs.Mailbox.{outcome}
use Rattle.list_commands.specs.PoisonCommands.{line_of, range_code, list_reply}
use Rattle.wire.specs.Done.{Written, written, refused}
use Rattle.host_requests.specs.Requests.{get_poison_list, opcode, payload}
use Rattle.host.specs.Walk.{walk}
use Rattle.host.specs.declared.walk.Asked.{Asked}
use Rattle.host.specs.declared.walk.Asked.TheVariants.{Whole, Halved}

-- the entries that a device holds
abbrev pub held : Device → List P.Entry
held d = P.entries_of d.poison

-- the walk over the n lines from a on
abbrev pub walk_of : Device → ℕ → ℕ → List P.Entry
walk_of d a n = walk poison_records (held d) a n

-- ---- the request for a range, Get Poison List, taken by the device: its number and its reply, for a reply buffer of `room` bytes. The device wants a label area with every command (document 02,
-- W-206), and this one does not see it: the walk lends one of zeros
abbrev pub range_answer : Device → ℕ → ℕ → ℕ → Written
range_answer d address n room =
    let o = outcome (state_of d) (opcode (get_poison_list address n)) (payload (get_poison_list address n)) 0 zero_area room in
    record { code = o.code; bytes = o.reply }

-- ---- the walk over the n lines from an address on, for a room of `room` bytes: the device's number where it refuses the range; 0100h exactly where the records need
-- more than the room; else the records
unfoldable pub walk_on : DeviceState → ℕ → ℕ → ℕ → Written
walk_on s address n room =
    let records = walk poison_records s.poison.entries (line_of address) n in
    need (eqb (range_code (lines_of s) address n) success) (refused (range_code (lines_of s) address n))
    (need (leb (16 * length records) room) (refused small_buffer)
    (written (records_bytes records)))

-- the same of a device
abbrev pub walk_answer : Device → ℕ → ℕ → ℕ → Written
walk_answer d = walk_on (state_of d)

-- ---- what the parts of the code ask and ensure
-- a device, and a range of its lines
pub record Askable (d : Device) (a n : ℕ) : Type 0 where
  pub valid : ValidDevice d
  pub inside : a + n ≤ lines_of (state_of d)

-- what asking for such a range gives: the length of the reply, and every byte of the lent buffer
pub record RangeAsked (d : Device) (a n r : ℕ) (before after : List ℕ) : Type 0 where
  pub size : r ≡ length (list_reply (P.state_of d.poison) a n)
  pub bytes : after ≡ splice 0 (list_reply (P.state_of d.poison) a n) before

-- a range that is halved, with h lines in its first half
pub record IsHalved (d : Device) (a n h : ℕ) : Type 0 where
  pub lines : 1 < n
  pub half : h ≡ n / 2
  pub first : Askable d a h
  pub second : Askable d (a + h) (n - h)
  pub is : walk_of d a n ≡ walk_of d a h ++ walk_of d (a + h) (n - h)
  pub sizes : length (walk_of d a n) ≡ length (walk_of d a h) + length (walk_of d (a + h) (n - h))
  pub few : length (walk_of d a n) ≤ n

-- one that is not: its reply, of r bytes at the start of s
pub record IsWhole (d : Device) (a n r : ℕ) (s : List ℕ) : Type 0 where
  pub size : r ≡ 32 + 16 * length (walk_of d a n)
  pub few : length (walk_of d a n) ≤ 126
  pub bytes : part 32 (r - 32) s ≡ records_bytes (walk_of d a n)

-- what the reply for such a range says, which stands at the start of the lent buffer
abbrev pub RangeTold : Device → ℕ → ℕ → Asked → List ℕ → Type 0
RangeTold d a n (Whole size) s = IsWhole d a n size s
RangeTold d a n (Halved half) s = IsHalved d a n half

-- what copying the records of a reply of `size` bytes, from its byte 32 on, to index `at` ensures: the index past them, and every byte of the lent buffer
pub record Copied (reply : List ℕ) (size at r : ℕ) (before after : List ℕ) : Type 0 where
  pub next : r ≡ at + (size - 32)
  pub bytes : after ≡ splice at (part 32 (size - 32) reply) before

-- what writing entries as records from index `at` on ensures: the index past them, and every byte of the lent buffer
pub record Wrote (es : List P.Entry) (at r : ℕ) (before after : List ℕ) : Type 0 where
  pub next : r ≡ at + 16 * length es
  pub bytes : after ≡ splice at (records_bytes es) before
