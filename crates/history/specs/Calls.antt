-- Every call on a device save make, the second mailbox's among them (document 02, W-208), with all its arguments, and what it does by the very definitions that the contracts of crate `mailbox` cite.
-- Assumes nothing: the arguments are any numbers and any lists.
use Rattle.std.specs.Prelude.{ℕ, List, [], ◌∷◌}
use Rattle.mailbox.specs.State.{DeviceState}
use Rattle.mailbox.specs.Mailbox.{outcome}
use Rattle.mailbox.specs.Pool.{pool_answer}
use Rattle.mailbox.specs.DeviceCalls as Device

-- `area` is the label area that the caller lends, of any length and content (document 02, W-206), `room` the size of the reply buffer; times are the caller's
pub data Call : Type 0 where
  command : (opcode : ℕ) (payload : List ℕ) (time : ℕ) (area : List ℕ) (room : ℕ) → Call
  event_report : (time log : ℕ) (bytes : List ℕ) → Call
  media_report : (time address lines kind : ℕ) → Call
  line_test : (address : ℕ) → Call
  event_status : Call
  damage_total : Call
  pool_command : (opcode : ℕ) (payload : List ℕ) (time room : ℕ) → Call

-- the return number of a call, and the device that follows
pub record Stepped : Type 0 where
  pub code : ℕ
  pub next : DeviceState

-- "Each call gets the device that the last one left"
unfoldable pub step : DeviceState → Call → Stepped
step d (command opcode payload time area room) = record { code = (outcome d opcode payload time area room).code; next = (outcome d opcode payload time area room).next }
step d (event_report time log bytes) = record { code = (Device.event_report d time log bytes).code; next = (Device.event_report d time log bytes).next }
step d (media_report time address lines kind) =
    record { code = (Device.media_report d time address lines kind).code; next = (Device.media_report d time address lines kind).next }
step d (line_test address) = record { code = (Device.line_test d address).code; next = d }
step d event_status = record { code = 0; next = d }
step d damage_total = record { code = 0; next = d }
step d (pool_command opcode payload time room) = record { code = (pool_answer d opcode payload time room).code; next = d }

-- the device after a list of calls
abbrev pub after : DeviceState → List Call → DeviceState
after d [] = d
after d (c ∷ cs) = after (step d c).next cs
