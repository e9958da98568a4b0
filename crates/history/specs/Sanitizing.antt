-- Sanitize over any call (document 02, W-207): which calls may take a record from a log, and which come before a work is due to end. And examples by number: one table of what the definitions give and what the document says. Assumes nothing.
use Rattle.std.specs.Prelude.{ℕ, ◌+◌, ◌-◌, ◌*◌, ◌^◌, ◌≤◌, ◌<◌, ◌≡◌, true, false, cond, List, [], ◌∷◌, ◌++◌, map, length, set, replicate}
use Rattle.wire.specs.Wire.{le}
use Rattle.wire.specs.Returns.{started}
use Rattle.poison.specs.Runs.{run}
use Rattle.poison.specs.State.{entry}
use Rattle.events.specs.Log.{log_at}
use Rattle.events.specs.Report.{stamped}
use Rattle.events.specs.Emptied.{emptied}
use Rattle.labels.specs.Labels.{zero_area}
use Rattle.commands.specs.EffectsLog.{effects_log_id}
use Rattle.settings.specs.Media.{enabled}
use Rattle.mailbox.specs.State.{DeviceState, with_logs, with_poison, with_media}
use Rattle.mailbox.specs.Mailbox.{outcome}
use Rattle.mailbox.specs.DeviceCalls as Device
use Rattle.mailbox.specs.declared.device.Device.{Device}
use Rattle.history.specs.Calls.{Call, command, event_report, media_report, line_test, event_status, damage_total, pool_command, step, after}
use Rattle.history.specs.Cases.{new_unit, handles_of, told, Case, case}
use Rattle.history.specs.Interrupts.{enabled_unit}
use Rattle.history.specs.Refusals.{found_by}
use Rattle.history.specs.Ran.{Steps}

-- a call is no Clear Event Records
abbrev pub NoClear : Call → Type 0
NoClear (command opcode payload time area room) = opcode ≡ 0x0101 → ⊥
NoClear (event_report time log bytes) = Unit {0}
NoClear (media_report time address lines kind) = Unit {0}
NoClear (line_test address) = Unit {0}
NoClear event_status = Unit {0}
NoClear damage_total = Unit {0}
NoClear (pool_command opcode payload time room) = Unit {0}

-- a call comes before a time: its own is earlier, or it carries none, or it is the second mailbox's, which ends nothing whatever its time (document 02, W-208)
abbrev pub Before : ℕ → Call → Type 0
Before end (command opcode payload time area room) = time < end
Before end (event_report time log bytes) = time < end
Before end (media_report time address lines kind) = time < end
Before end (line_test address) = Unit {0}
Before end event_status = Unit {0}
Before end damage_total = Unit {0}
Before end (pool_command opcode payload time room) = Unit {0}

-- each call of a list
abbrev pub AllBefore : ℕ → List Call → Type 0
AllBefore end [] = Unit {0}
AllBefore end (c ∷ cs) = Before end c × AllBefore end cs

-- a call that ends a due Sanitize carries a time, and that is so late or later
abbrev pub From : ℕ → Call → Type 0
From end (command opcode payload time area room) = end ≤ time
From end (event_report time log bytes) = end ≤ time
From end (media_report time address lines kind) = end ≤ time
From end (line_test address) = ⊥
From end event_status = ⊥
From end damage_total = ⊥
From end (pool_command opcode payload time room) = ⊥

-- no call of a list is answered 0001h: none starts a Sanitize
abbrev pub NoneStarts : DeviceState → List Call → Type 0
NoneStarts d [] = Unit {0}
NoneStarts d (c ∷ cs) = ((step d c).code ≡ started → ⊥) × NoneStarts (step d c).next cs

-- a call finds the work ended: media enabled, and every log emptied, its next handle kept
pub record FindsEnded (d : DeviceState) (c : Call) : Type 0 where
  pub media : (found_by d c).media ≡ enabled
  pub logs : (k : ℕ) → log_at (found_by d c).logs k ≡ emptied (log_at d.logs k)

-- calls of the code lead from device d to device e, and each comes before a time
pub data Led (end : ℕ) (d : Device) : Device → Type 0 where
  none : (e : Device) → e ≡ d → Led end d e
  more : (e f : Device) → Led end d e → (c : Call) (code : ℕ) → Steps e f c code → Before end c → Led end d f

-- ---- the examples
-- a second in nanoseconds
abbrev pub second : ℕ
second = 1000000000

-- a command at a time
abbrev pub sends : ℕ → List ℕ → ℕ → Call
sends opcode payload time = command opcode payload time zero_area 2048

abbrev pub sanitize : ℕ → Call
sanitize time = sends 0x4400 [] time

-- an event to log 0 at a time
abbrev pub event_at : ℕ → Call
event_at time = event_report time 0 (replicate 128 0)

-- the return numbers of calls, one after the other
abbrev pub numbers : DeviceState → List Call → List ℕ
numbers d [] = []
numbers d (c ∷ cs) = (step d c).code ∷ numbers (step d c).next cs

-- whether media is disabled
abbrev pub disabled : DeviceState → ℕ
disabled d = cond d.media.disabled 1 0

-- whether media is still disabled after a Sanitize at time 0 of so many units and a Get Timestamp one nanosecond before the seconds are over, at them and after
abbrev pub around : ℕ → ℕ → List ℕ
around units seconds =
    disabled (after (Device.new_device units 0) (sanitize 0 ∷ sends 0x0300 [] (seconds * second - 1) ∷ []))
    ∷ disabled (after (Device.new_device units 0) (sanitize 0 ∷ sends 0x0300 [] (seconds * second) ∷ []))
    ∷ disabled (after (Device.new_device units 0) (sanitize 0 ∷ sends 0x0300 [] (seconds * second + 1) ∷ []))
    ∷ []

-- an enabled device with an event, damage at line 1 and a Sanitize from time 5 on, of 4 seconds (`running_reached` of proofs/Sanitizing.antt: calls lead there)
unfoldable pub running : DeviceState
running =
    with_media (with_poison (with_logs enabled_unit (set enabled_unit.logs 0 (record { held = stamped (replicate 128 0) 1 0 ∷ []; next = 2; overflow_count = 0; first_overflow = 0; last_overflow = 0 })))
    (record { entries = entry 2 (run 1 1) ∷ []; overflow = false; overflow_time = 0 }))
    (record { disabled = true; since = 5; lasts = 4 * second })

-- the calls that lead there
abbrev pub running_calls : List Call
running_calls = event_at 0 ∷ media_report 0 64 1 2 ∷ sanitize 5 ∷ []

abbrev pub over : ℕ
over = 5 + 4 * second

unfoldable pub sanitize_cases : List Case
sanitize_cases =
    -- "answers 0001h, started, with no reply"; "Sanitize while one runs, 0006h"; one that comes when one is due ends the old and starts anew
    case (numbers new_unit (sanitize 5 ∷ sanitize 6 ∷ sanitize (over - 1) ∷ sanitize over ∷ sanitize (over + 1) ∷ [])) (1 ∷ 6 ∷ 6 ∷ 1 ∷ 6 ∷ [])
    ∷ case (length (outcome new_unit 0x4400 [] 5 zero_area 2048).reply ∷ (outcome new_unit 0x4400 [] 5 zero_area 2048).vector ∷ []) (0 ∷ 0 ∷ [])
    -- "(no payload, effect 64h)": a byte of payload, 0016h; its four bytes in the effects log
    ∷ case (numbers new_unit (sends 0x4400 (0 ∷ []) 5 ∷ [])) (0x16 ∷ [])
    ∷ case (outcome new_unit 0x0401 (effects_log_id ++ le 4 56 ++ le 4 4) 0 zero_area 2048).reply (0 ∷ 0x44 ∷ 0x64 ∷ 0 ∷ [])
    -- while disabled: Inject, Clear Poison, Get LSA and Set LSA 0007h, after the length check and before unaligned addresses, reserved bytes and ranges
    ∷ case (numbers running (sends 0x4301 (le 8 1) 6 ∷ sends 0x4302 (replicate 72 1) 6 ∷ sends 0x4102 (replicate 8 255) 6 ∷ sends 0x4103 (replicate 8 255) 6 ∷ [])) (7 ∷ 7 ∷ 7 ∷ 7 ∷ [])
    ∷ case (numbers running (sends 0x4301 [] 6 ∷ sends 0x4302 [] 6 ∷ sends 0x4102 [] 6 ∷ sends 0x4103 [] 6 ∷ [])) (replicate 4 0x16)
    -- all else works, media reports included
    ∷ case (numbers running (sends 0x0100 (0 ∷ []) 6 ∷ sends 0x0102 [] 6 ∷ sends 0x0301 (le 8 0) 6 ∷ sends 0x4000 [] 6 ∷ sends 0x4300 (le 8 0 ++ le 8 1) 6 ∷ event_at 6 ∷ media_report 6 128 1 2 ∷ [])) (replicate 7 0)
    -- "the line test answers Disabled, 3, after its address checks": of a damaged line, of another, unaligned, outside
    ∷ case (told running 1 ++ told running 2) (0 ∷ 3 ∷ 0 ∷ 0 ∷ 3 ∷ 0 ∷ [])
    ∷ case ((Device.line_test running 1).code ∷ (Device.line_test running 1).number ∷ (Device.line_test running (2 ^ 28)).code ∷ (Device.line_test running (2 ^ 28)).number ∷ []) (2 ∷ 2 ∷ 0xf ∷ 2 ∷ [])
    -- the end empties the logs and enables media; the next handle goes on; the list stays
    ∷ case (handles_of running ++ (0 ∷ handles_of (after running (sends 0x0300 [] over ∷ [])) ++ (0 ∷ handles_of (after running (sends 0x0300 [] over ∷ event_at over ∷ []))))) (1 ∷ 0 ∷ 0 ∷ 2 ∷ [])
    ∷ case (told (after running (sends 0x0300 [] over ∷ [])) 1) (0 ∷ 1 ∷ 2 ∷ [])
    -- "The ending is kept even if the call is then refused": 0100h for the area, a payload over 2,048 bytes, an opcode that there is not, a wrong length, a report to log 5, a media report of no line
    ∷ case
    (map (λ c. disabled (step running c).next)
    (command 0x0300 [] over [] 2048 ∷ sends 0x0300 (replicate 2049 0) over ∷ sends 0x7777 [] over ∷ sends 0x0300 (0 ∷ []) over ∷ event_report over 5 (replicate 128 0) ∷ media_report over 0 0 1 ∷ []))
    (replicate 6 0)
    -- line test, event status and damage total carry no time and end nothing
    ∷ case (map (λ c. disabled (step running c).next) (line_test 0 ∷ event_status ∷ damage_total ∷ [])) (replicate 3 1)
    -- an injection at a due time: its event is then the only record of log 0, handle 2, and the vector is carried; so of an event report
    ∷ case ((outcome running 0x4301 (le 8 128) over zero_area 2048).code ∷ (outcome running 0x4301 (le 8 128) over zero_area 2048).vector ∷ handles_of (outcome running 0x4301 (le 8 128) over zero_area 2048).next) (0 ∷ 2 ∷ 2 ∷ [])
    ∷ case ((Device.event_report running over 0 (replicate 128 0)).vector ∷ (Device.event_report running (over - 1) 0 (replicate 128 0)).vector ∷ []) (2 ∷ 0 ∷ [])
    -- a clock that goes back during the work: a time before the beginning is not past it; Set Timestamp moves nothing
    ∷ case (disabled (after running (sends 0x0300 [] 0 ∷ [])) ∷ disabled (after running (sends 0x0301 (replicate 8 255) 6 ∷ sends 0x0300 [] 7 ∷ [])) ∷ []) (1 ∷ 1 ∷ [])
    -- a beginning near 2^64: the due time is past 2^64-1 and never reached
    ∷ case (disabled (after new_unit (sanitize (2 ^ 64 - 1) ∷ sends 0x0300 [] (2 ^ 64 - 1) ∷ [])) ∷ disabled (after new_unit (sanitize (2 ^ 64 - 1 - 4 * second) ∷ sends 0x0300 [] (2 ^ 64 - 1) ∷ [])) ∷ []) (1 ∷ 0 ∷ [])
    ∷ []

-- every row of the table of seconds, at the most units of it: one nanosecond before, at and after
unfoldable pub row_cases : List Case
row_cases =
    case (around 2 4 ++ around 4 8 ++ around 8 15 ++ around 16 30 ++ around 32 60) (1 ∷ 0 ∷ 0 ∷ 1 ∷ 0 ∷ 0 ∷ 1 ∷ 0 ∷ 0 ∷ 1 ∷ 0 ∷ 0 ∷ 1 ∷ 0 ∷ 0 ∷ [])
    ∷ case (around 64 120 ++ around 128 240 ++ around 256 480 ++ around 512 900 ++ around 1023 1800) (1 ∷ 0 ∷ 0 ∷ 1 ∷ 0 ∷ 0 ∷ 1 ∷ 0 ∷ 0 ∷ 1 ∷ 0 ∷ 0 ∷ 1 ∷ 0 ∷ 0 ∷ [])
    ∷ []
