-- What a command gives: a number with a reply (the device stays) or with the device that follows (no reply), and the vector to raise, which Inject Poison alone carries.
-- Assumes nothing.
use Rattle.std.specs.Prelude.{ℕ, List, []}
use Rattle.settings.specs.Reply.{Reply}
use Rattle.mailbox.specs.State.{DeviceState}
use Rattle.settings.specs.Vector.{no_vector}

-- what any command gives: its number, its reply, the vector to raise (document 02, W-204) and the device that follows
pub record Outcome : Type 0 where
  pub code : ℕ
  pub reply : List ℕ
  pub vector : ℕ
  pub next : DeviceState

-- a command that reads leaves the device. "The command's answer carries the vector too, none for the others": the three below carry none.
abbrev pub reads : DeviceState → Reply → Outcome
reads d r = record { code = r.code; reply = r.bytes; vector = no_vector; next = d }

-- "Commands for which no reply is named reply length 0"
abbrev pub changes : ℕ → DeviceState → Outcome
changes code d = record { code = code; reply = []; vector = no_vector; next = d }

-- a refusal: its number, no reply, the device as it was
abbrev pub refused : ℕ → DeviceState → Outcome
refused code d = record { code = code; reply = []; vector = no_vector; next = d }
