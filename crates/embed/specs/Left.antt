-- Which answer of the mailbox a call through a pointer stands for: what the call returns, and the device that it leaves behind the pointer. Assumes nothing.
use Rattle.std.specs.Prelude.{ℕ, ◌≡◌, Bool, List, [], length, get_or}
use Rattle.labels.specs.Labels.{label_size}
use Rattle.poison.specs.State.{PoisonState}
use Rattle.events.specs.Log.{blank}
use Rattle.events.specs.Emptied.{Empties}
use Rattle.events.specs.declared.log.Log.{Log}
use Rattle.mailbox.specs.declared.device.Device.{Device}
use Rattle.mailbox.specs.declared.device.Made.{Made}
use Rattle.mailbox.specs.declared.device.Answer.{Answer}
use Rattle.mailbox.specs.declared.device_calls.EventAnswer.{EventAnswer}
use Rattle.mailbox.specs.declared.device_calls.MediaAnswer.{MediaAnswer}
use Rattle.mailbox.specs.State.{DeviceState, state_of}
use Rattle.mailbox.specs.Mailbox.{answer, area_after}
use Rattle.mailbox.specs.Relations.{Answered}
use Rattle.settings.specs.Vector.{numbered}
use Rattle.mailbox.specs.ByParts.{with_log}
use Rattle.settings.specs.Clock.{unset}
use Rattle.mailbox.specs.DeviceCalls.{LineOutcome}
use Rattle.wire.specs.declared.done.Done as Wire
use Rattle.embed.specs.declared.Done.{Done}
use Rattle.embed.specs.declared.PoolDone.{PoolDone}
use Rattle.embed.specs.declared.Event.{Event}
use Rattle.embed.specs.declared.Media.{Media}
use Rattle.embed.specs.declared.Line.{Line}
pub use Rattle.mailbox.specs.Ending.{WorkEnded}

-- the bytes of a device; that its layout has so many is `device_size_is` of proofs/Header
abbrev pub device_size : ℕ
device_size = 7672

abbrev pub made : ℕ → Device → Made
made code d = record { code = code; device = d }

-- the number of a vector stands for its case
abbrev pub answered : Done → Device → Answer
answered r d = record { code = r.code; length = r.length; vector = numbered r.vector; device = d }

-- a command of the second mailbox (document 02, W-208): the device behind the pointer stays
abbrev pub pool_told : PoolDone → Wire.Done
pool_told r = record { code = r.code; length = r.length }

-- ---- the end of a Sanitize (document 02, W-207), log by log; `WorkEnded`: all five are emptied, media is enabled, and nothing else changes
-- log k of the device d behind the pointer is emptied, and nothing else of it changes
pub record LogEmptied (d : Device) (k : ℕ) (e : Device) : Type 0 where
  pub log : Log
  pub empties : Empties (get_or d.logs k blank) log
  pub left : e ≡ with_log d k log

-- what a command on the device d behind the pointer leaves, where no Sanitize is left to end: the answer r, the device e, the label area `left` that was `area`, and the reply buffer `after` that was `before`
abbrev pub Commanded : (d : Device) (opcode : ℕ) (payload : List ℕ) (time : ℕ) (area before : List ℕ) (r : Done) (e : Device) (left after : List ℕ) → Type 0
Commanded d opcode payload time area before r e left after =
    Answered (answer (state_of d) opcode payload time area (length before)) d (answered r e) before after × (left ≡ area_after opcode payload r.code area)

-- the same of a command that does not see the label area: its answer whatever area of 4,096 bytes is lent
abbrev pub WithoutArea : (d : Device) (opcode : ℕ) (payload : List ℕ) (time : ℕ) (before : List ℕ) (r : Done) (e : Device) (after : List ℕ) → Type 0
WithoutArea d opcode payload time before r e after =
    (area : List ℕ) → length area ≡ label_size → Answered (answer (state_of d) opcode payload time area (length before)) d (answered r e) before after

abbrev pub event_told : Event → Device → EventAnswer
event_told r d = record { code = r.code; stored = r.stored; vector = numbered r.vector; device = d }

abbrev pub media_told : Media → Device → MediaAnswer
media_told r d = record { code = r.code; stored = r.stored; dropped = r.dropped; device = d }

-- a line test: document 01's number of each case, and the type beside it
pub record LineTold (o : LineOutcome) (r : Line) : Type 0 where
  pub code : r.code ≡ o.code
  pub answer : r.answer ≡ o.number
  pub kind : r.kind ≡ o.kind

-- a device of which a line test sees all: its units, whether media is disabled, and its poison list
abbrev pub seen : ℕ → ℕ → Bool → PoisonState → DeviceState
seen volatile persistent disabled list =
    record { volatile = volatile; persistent = persistent; clock = unset; policy = []; logs = []; poison = list; media = record { disabled = disabled; since = 0; lasts = 0 } }
