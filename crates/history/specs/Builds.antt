-- The four useless builds of document 01, "Promises and how they are tried", as faults of ANY build: functions from the code's own devices and arguments to
-- the code's own answers. `Meets` is the contracts of the public functions of crate `mailbox` (src/device.rt, src/device_calls.rt, src/pool.rt), equation by equation, and
-- asks no more than they give, so that the functions of `mailbox` meet it by their contracts. proofs/Builds.antt: no build with such a fault meets it;
-- proofs/SomeBuild.antt: some build meets it.
use Rattle.std.specs.Prelude.{ℕ, ◌^◌, ◌<◌, ◌≡◌, Bool, true, false, ◌&&◌, ◌||◌, List, [], ◌∷◌, ltb, eqb, length, take}
use Rattle.wire.specs.Returns.{Refused}
use Rattle.events.specs.Log.{log_at}
use Rattle.events.specs.declared.status.Status.{Status}
use Rattle.mailbox.specs.State.{ValidDevice, state_of}
use Rattle.mailbox.specs.declared.device.Device.{Device}
use Rattle.mailbox.specs.declared.device.Answer.{Answer}
use Rattle.mailbox.specs.declared.device.Made.{Made}
use Rattle.mailbox.specs.declared.device_calls.EventAnswer.{EventAnswer}
use Rattle.mailbox.specs.declared.device_calls.MediaAnswer.{MediaAnswer}
use Rattle.mailbox.specs.declared.device_calls.LineAnswer.{LineAnswer}
use Rattle.commands.specs.Commands.{commands, rows_of, known}
use Rattle.commands.specs.declared.mailboxes.Mailbox.TheVariants.{Pool}
use Rattle.wire.specs.declared.done.Done.{Done}
use Rattle.settings.specs.Relations.{Replied}
use Rattle.mailbox.specs.Pool.{pool_answer}
use Rattle.mailbox.specs.Mailbox.{outcome, area_after}
use Rattle.mailbox.specs.Ending.{AfterEnding}
use Rattle.mailbox.specs.LineStatus.{status_number}
use Rattle.mailbox.specs.DeviceCalls as Device
use Rattle.mailbox.specs.Relations.{Answered, Makes, EventDone, MediaDone, LineDone, StatusGiven}
use Rattle.history.specs.Ran.{reply_in}

-- ---- arguments. A contract speaks of every value that its function's types have: numbers of so many bits, slices of bytes in memory
-- whether every number of a list is a byte
abbrev pub all_bytes : List ℕ → Bool
all_bytes [] = true
all_bytes (x ∷ xs) = ltb x 256 && all_bytes xs

-- a slice of bytes: each below 256, and fewer than 2^63 of them
pub record Slice (xs : List ℕ) : Type 0 where
  pub bytes : all_bytes xs ≡ true
  pub room : length xs < 2 ^ 63

-- make(volatile: u16, persistent: u16)
pub record MakeAsked : Type 0 where
  pub volatile : ℕ
  pub persistent : ℕ
  pub volatile_u16 : volatile < 2 ^ 16
  pub persistent_u16 : persistent < 2 ^ 16

-- command(opcode: u16, payload: &[u8], time: u64, area: &mut [u8], reply: &mut [u8]); `before` is what the reply buffer holds
pub record CommandAsked : Type 0 where
  pub opcode : ℕ
  pub payload : List ℕ
  pub time : ℕ
  pub area : List ℕ
  pub before : List ℕ
  pub opcode_u16 : opcode < 2 ^ 16
  pub payload_slice : Slice payload
  pub time_u64 : time < 2 ^ 64
  pub area_slice : Slice area
  pub before_slice : Slice before

-- pool_command(opcode: u16, payload: &[u8], time: u64, reply: &mut [u8]), the second mailbox's (document 02, W-208)
pub record PoolAsked : Type 0 where
  pub opcode : ℕ
  pub payload : List ℕ
  pub time : ℕ
  pub before : List ℕ
  pub opcode_u16 : opcode < 2 ^ 16
  pub payload_slice : Slice payload
  pub time_u64 : time < 2 ^ 64
  pub before_slice : Slice before

-- event_report(time: u64, log: u8, event: &[u8])
pub record EventAsked : Type 0 where
  pub time : ℕ
  pub log : ℕ
  pub event : List ℕ
  pub time_u64 : time < 2 ^ 64
  pub log_u8 : log < 2 ^ 8
  pub event_slice : Slice event

-- media_report(time: u64, address: u64, lines: u32, kind: u8)
pub record MediaAsked : Type 0 where
  pub time : ℕ
  pub address : ℕ
  pub lines : ℕ
  pub kind : ℕ
  pub time_u64 : time < 2 ^ 64
  pub address_u64 : address < 2 ^ 64
  pub lines_u32 : lines < 2 ^ 32
  pub kind_u8 : kind < 2 ^ 8

-- line_test(address: u64)
pub record LineAsked : Type 0 where
  pub address : ℕ
  pub address_u64 : address < 2 ^ 64

-- ---- builds
-- what a command gives: the answer, and what the lent reply buffer and the lent label area hold after it
pub record CommandGiven : Type 0 where
  pub answer : Answer
  pub after : List ℕ
  pub left : List ℕ

-- what a command of the second mailbox gives: no device
pub record PoolGiven : Type 0 where
  pub answer : Done
  pub after : List ℕ

-- a build: any functions in place of those of crate `mailbox`, over the same types
pub record Build : Type 0 where
  pub make : MakeAsked → Made
  pub command : Device → CommandAsked → CommandGiven
  pub event_report : Device → EventAsked → EventAnswer
  pub media_report : Device → MediaAsked → MediaAnswer
  pub line_test : Device → LineAsked → LineAnswer
  pub event_status : Device → Status
  pub damage_total : Device → ℕ
  pub pool_command : Device → PoolAsked → PoolGiven

-- a device that the build itself handed out, at making or after a call: "A device made here and changed only by these calls is the one premise allowed".
-- (The fields of such a device have the sizes that their types name, which `ValidDevice` does not say again.)
pub data Handed (b : Build) : Device → Type 0 where
  by_make : (a : MakeAsked) → Handed b (b.make a).device
  by_command : (d : Device) → Handed b d → (a : CommandAsked) → Handed b (b.command d a).answer.device
  by_event_report : (d : Device) → Handed b d → (a : EventAsked) → Handed b (b.event_report d a).device
  by_media_report : (d : Device) → Handed b d → (a : MediaAsked) → Handed b (b.media_report d a).device

-- the build's answers meet the contracts: `requires` is ValidDevice, `ensures` the record of specs/Relations.antt, for every device handed out and every
-- argument
pub record Meets (b : Build) : Type 0 where
  pub make : (a : MakeAsked) → Makes (Device.make a.volatile a.persistent) (b.make a)
  pub command : (d : Device) → Handed b d → ValidDevice d → (a : CommandAsked)
      → AfterEnding d a.time (λ (e : Device). Answered (outcome (state_of d) a.opcode a.payload a.time a.area (length a.before)) e (b.command d a).answer a.before (b.command d a).after)
  pub labels : (d : Device) → Handed b d → ValidDevice d → (a : CommandAsked) → (b.command d a).left ≡ area_after a.opcode a.payload (b.command d a).answer.code a.area
  pub event_report : (d : Device) → Handed b d → ValidDevice d → (a : EventAsked)
      → AfterEnding d a.time (λ (e : Device). EventDone (Device.event_report (state_of d) a.time a.log a.event) e (b.event_report d a))
  pub media_report : (d : Device) → Handed b d → ValidDevice d → (a : MediaAsked)
      → AfterEnding d a.time (λ (e : Device). MediaDone (Device.media_report (state_of d) a.time a.address a.lines a.kind) e (b.media_report d a))
  pub line_test : (d : Device) → Handed b d → ValidDevice d → (a : LineAsked) → LineDone (Device.line_test (state_of d) a.address) (b.line_test d a)
  pub event_status : (d : Device) → Handed b d → ValidDevice d → StatusGiven (Device.event_status (state_of d)) (b.event_status d)
  pub damage_total : (d : Device) → Handed b d → ValidDevice d → b.damage_total d ≡ Device.damage_total (state_of d)
  pub pool_command : (d : Device) → Handed b d → ValidDevice d → (a : PoolAsked)
      → Replied (pool_answer (state_of d) a.opcode a.payload a.time (length a.before)) (b.pool_command d a).answer a.before (b.pool_command d a).after

-- ---- the faults
-- "one that refuses all": every call is answered with a refusal, a number other than 0000h and 0001h
pub record RefusesAll (b : Build) : Type 0 where
  pub make : (a : MakeAsked) → Refused (b.make a).code
  pub command : (d : Device) → Handed b d → (a : CommandAsked) → Refused (b.command d a).answer.code
  pub event_report : (d : Device) → Handed b d → (a : EventAsked) → Refused (b.event_report d a).code
  pub media_report : (d : Device) → Handed b d → (a : MediaAsked) → Refused (b.media_report d a).code
  pub line_test : (d : Device) → Handed b d → (a : LineAsked) → Refused (b.line_test d a).code
  pub pool_command : (d : Device) → Handed b d → (a : PoolAsked) → Refused (b.pool_command d a).answer.code

-- less of a fault: it refuses every call of one kind, be it only every command of one known opcode
pub data RefusesOne (b : Build) : Type 0 where
  every_make : ((a : MakeAsked) → Refused (b.make a).code) → RefusesOne b
  every_command : (opcode : ℕ) → known commands opcode ≡ true
      → ((d : Device) → Handed b d → (a : CommandAsked) → a.opcode ≡ opcode → Refused (b.command d a).answer.code) → RefusesOne b
  every_event_report : ((d : Device) → Handed b d → (a : EventAsked) → Refused (b.event_report d a).code) → RefusesOne b
  every_media_report : ((d : Device) → Handed b d → (a : MediaAsked) → Refused (b.media_report d a).code) → RefusesOne b
  every_line_test : ((d : Device) → Handed b d → (a : LineAsked) → Refused (b.line_test d a).code) → RefusesOne b
  every_pool_command : (opcode : ℕ) → known (rows_of Pool) opcode ≡ true
      → ((d : Device) → Handed b d → (a : PoolAsked) → a.opcode ≡ opcode → Refused (b.pool_command d a).answer.code) → RefusesOne b

-- the reply of a command: as many bytes of the buffer after it as the answer's length says
abbrev pub reply_of : CommandGiven → List ℕ
reply_of g = reply_in g.after g.answer

-- so of the second mailbox
abbrev pub pool_reply_of : PoolGiven → List ℕ
pool_reply_of g = take g.answer.length g.after

-- "one with a fixed reply": whatever is asked, of whatever device, a command that is answered 0000h replies the same bytes
pub record FixedReply (b : Build) : Type 0 where
  pub bytes : List ℕ
  pub fixed : (d : Device) → Handed b d → (a : CommandAsked) → (b.command d a).answer.code ≡ 0 → reply_of (b.command d a) ≡ bytes

-- whether a number is in a list
abbrev pub among : List ℕ → ℕ → Bool
among [] n = false
among (x ∷ xs) n = eqb n x || among xs n

-- the commands whose reply, of either mailbox, tells of the device: Get Event Records, Get Event Interrupt Policy, Get Timestamp, Identify, Get Poison List
abbrev pub telling : List ℕ
telling = 0x0100 ∷ 0x0102 ∷ 0x0300 ∷ 0x4000 ∷ 0x4300 ∷ []

-- less of a fault: one kind of call, be it only the commands of one of these opcodes, answers the same question in the same way whatever device is asked. (Of a
-- report and of a line test the fault is in one number of the answer alone.)
pub data TellsNothing (b : Build) : Type 0 where
  of_command : (opcode : ℕ) → among telling opcode ≡ true
      → ((d e : Device) → Handed b d → Handed b e → (a : CommandAsked) → a.opcode ≡ opcode → (b.command d a).answer.code ≡ 0 → (b.command e a).answer.code ≡ 0
      → reply_of (b.command d a) ≡ reply_of (b.command e a)) → TellsNothing b
  -- Get LSA (document 02, W-206), whatever label area is lent
  of_labels : ((d : Device) → Handed b d → (a c : CommandAsked) → a.opcode ≡ 0x4102 → c.opcode ≡ 0x4102 → a.payload ≡ c.payload → (b.command d a).answer.code ≡ 0 → (b.command d c).answer.code ≡ 0
      → reply_of (b.command d a) ≡ reply_of (b.command d c)) → TellsNothing b
  of_event_report : ((d e : Device) → Handed b d → Handed b e → (a : EventAsked) → (b.event_report d a).stored ≡ (b.event_report e a).stored) → TellsNothing b
  of_media_report : ((d e : Device) → Handed b d → Handed b e → (a : MediaAsked) → (b.media_report d a).stored ≡ (b.media_report e a).stored) → TellsNothing b
  of_line_test : ((d e : Device) → Handed b d → Handed b e → (a : LineAsked) → status_number (b.line_test d a).answer ≡ status_number (b.line_test e a).answer) → TellsNothing b
  of_event_status : ((d e : Device) → Handed b d → Handed b e → (b.event_status d).bits ≡ (b.event_status e).bits) → TellsNothing b
  of_damage_total : ((d e : Device) → Handed b d → Handed b e → b.damage_total d ≡ b.damage_total e) → TellsNothing b
  of_pool_command : (opcode : ℕ) → among telling opcode ≡ true
      → ((d e : Device) → Handed b d → Handed b e → (a : PoolAsked) → a.opcode ≡ opcode → (b.pool_command d a).answer.code ≡ 0 → (b.pool_command e a).answer.code ≡ 0
      → pool_reply_of (b.pool_command d a) ≡ pool_reply_of (b.pool_command e a)) → TellsNothing b

-- "one that changes nothing": every device handed back is the one given
pub record ChangesNothing (b : Build) : Type 0 where
  pub command : (d : Device) → Handed b d → (a : CommandAsked) → (b.command d a).answer.device ≡ d
  pub event_report : (d : Device) → Handed b d → (a : EventAsked) → (b.event_report d a).device ≡ d
  pub media_report : (d : Device) → Handed b d → (a : MediaAsked) → (b.media_report d a).device ≡ d

-- the commands that change a device: Clear Event Records, Set Event Interrupt Policy, Set Timestamp, Inject Poison, Clear Poison, Sanitize (document 02, W-207)
abbrev pub changing : List ℕ
changing = 0x0101 ∷ 0x0103 ∷ 0x0301 ∷ 0x4301 ∷ 0x4302 ∷ 0x4400 ∷ []

-- less of a fault: one kind of call, be it only the commands of one of these opcodes, changes nothing that can be seen of a device
pub data LeavesOne (b : Build) : Type 0 where
  every_command : (opcode : ℕ) → among changing opcode ≡ true
      → ((d : Device) → Handed b d → (a : CommandAsked) → a.opcode ≡ opcode → state_of (b.command d a).answer.device ≡ state_of d) → LeavesOne b
  -- Set LSA (document 02, W-206): the label area that is lent
  every_label_set : ((d : Device) → Handed b d → (a : CommandAsked) → a.opcode ≡ 0x4103 → (b.command d a).left ≡ a.area) → LeavesOne b
  every_event_report : ((d : Device) → Handed b d → (a : EventAsked) → state_of (b.event_report d a).device ≡ state_of d) → LeavesOne b
  every_media_report : ((d : Device) → Handed b d → (a : MediaAsked) → state_of (b.media_report d a).device ≡ state_of d) → LeavesOne b

-- "one that keeps the first report and pretends later", of media or of events: where the poison list has an entry, a media report leaves the list as it was,
-- or where a log holds a record, an event report to it leaves the log as it was; whatever the build answers, be it 0000h with all lines stored
pub data KeepsFirst (b : Build) : Type 0 where
  of_media : ((d : Device) → Handed b d → ((state_of d).poison.entries ≡ [] → ⊥) → (a : MediaAsked)
      → (state_of (b.media_report d a).device).poison ≡ (state_of d).poison) → KeepsFirst b
  of_events : ((d : Device) → Handed b d → (a : EventAsked) → ((log_at (state_of d).logs a.log).held ≡ [] → ⊥)
      → log_at (state_of (b.event_report d a).device).logs a.log ≡ log_at (state_of d).logs a.log) → KeepsFirst b
