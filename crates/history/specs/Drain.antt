-- A host drains a log by two commands (document 02, W-201): Get Event Records of log k and, with no call between, the Clear Event Records whose payload is made from
-- that reply alone. The caller's times, the label areas lent and the sizes of the two reply buffers are any. Assumes nothing.
use Rattle.std.specs.Prelude.{ℕ, List, [], ◌∷◌}
use Rattle.events.specs.Drain.{clear_read}
use Rattle.mailbox.specs.State.{DeviceState}
use Rattle.mailbox.specs.Outcome.{Outcome}
use Rattle.mailbox.specs.Mailbox.{outcome}
use Rattle.mailbox.specs.DeviceCalls.{make}
use Rattle.history.specs.Calls.{Call, after}

-- a device reached by calls on a new one
abbrev pub reached : (volatile persistent : ℕ) → List Call → DeviceState
reached volatile persistent calls = after (make volatile persistent).next calls

-- the read: Get Event Records of log k
abbrev pub read : DeviceState → (k time : ℕ) → (area : List ℕ) → (room : ℕ) → Outcome
read d k time area room = outcome d 0x0100 (k ∷ []) time area room

-- the clear of what a reply of log k gave: Clear Event Records
abbrev pub clear : DeviceState → (k : ℕ) → (reply : List ℕ) → (time : ℕ) → (area : List ℕ) → (room : ℕ) → Outcome
clear d k reply time area room = outcome d 0x0101 (clear_read k reply) time area room

-- one after the other: the clear gets the device that the read left, and the reply that it gave
abbrev pub then_clear : DeviceState → (k read_time : ℕ) → (read_area : List ℕ) → (read_room time : ℕ) → (area : List ℕ) → (room : ℕ) → Outcome
then_clear d k read_time read_area read_room time area room = clear (read d k read_time read_area read_room).next k (read d k read_time read_area read_room).reply time area room
