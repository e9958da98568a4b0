-- Silence (document 02, W-208): "any number of them, put between the first mailbox's calls, alter no answer of those". The whole answer of each call, of a list of calls, and of those calls of a list that are not the second
-- mailbox's. And examples by number: one table of what the definitions give and what the document says. Assumes nothing.
use Rattle.std.specs.Prelude.{ℕ, ◌+◌, ◌-◌, Bool, true, false, cond, List, [], ◌∷◌, ◌++◌, map, replicate}
use Rattle.wire.specs.Wire.{le}
use Rattle.events.specs.Drain.{record_count}
use Rattle.labels.specs.Labels.{zero_area}
use Rattle.commands.specs.EffectsLog.{effects_log_id}
use Rattle.events.specs.Status.{StatusOutcome}
use Rattle.settings.specs.Reply.{Reply}
use Rattle.mailbox.specs.State.{DeviceState}
use Rattle.mailbox.specs.Outcome.{Outcome}
use Rattle.mailbox.specs.Mailbox.{outcome, area_after}
use Rattle.mailbox.specs.Pool.{pool_answer}
use Rattle.mailbox.specs.DeviceCalls.{EventOutcome, MediaOutcome, LineOutcome}
use Rattle.mailbox.specs.DeviceCalls as Device
use Rattle.history.specs.Calls.{Call, command, event_report, media_report, line_test, event_status, damage_total, pool_command, step, after}
use Rattle.history.specs.Cases.{new_unit, Case, case}
use Rattle.history.specs.Sanitizing.{sends, sanitize, numbers, disabled, running, over}

-- what a call hands its caller: of a command number, reply and vector, and the label area that is left; of the others what their definitions give
pub data Given : Type 0 where
  of_command : Outcome → (left : List ℕ) → Given
  of_event_report : EventOutcome → Given
  of_media_report : MediaOutcome → Given
  of_line_test : LineOutcome → Given
  of_event_status : StatusOutcome → Given
  of_damage_total : ℕ → Given
  of_pool_command : Reply → Given

abbrev pub given : DeviceState → Call → Given
given d (command opcode payload time area room) = of_command (outcome d opcode payload time area room) (area_after opcode payload (outcome d opcode payload time area room).code area)
given d (event_report time log bytes) = of_event_report (Device.event_report d time log bytes)
given d (media_report time address lines kind) = of_media_report (Device.media_report d time address lines kind)
given d (line_test address) = of_line_test (Device.line_test d address)
given d event_status = of_event_status (Device.event_status d)
given d damage_total = of_damage_total (Device.damage_total d)
given d (pool_command opcode payload time room) = of_pool_command (pool_answer d opcode payload time room)

-- the whole answer: that, and the device that follows
pub record Whole : Type 0 where
  pub handed : Given
  pub next : DeviceState

abbrev pub whole : DeviceState → Call → Whole
whole d c = record { handed = given d c; next = (step d c).next }

-- the answers of a list of calls, "each call gets the device that the last one left"
abbrev pub answers : DeviceState → List Call → List Whole
answers d [] = []
answers d (c ∷ cs) = whole d c ∷ answers (step d c).next cs

-- whether a call is the second mailbox's
abbrev pub of_pool : Call → Bool
of_pool (command opcode payload time area room) = false
of_pool (event_report time log bytes) = false
of_pool (media_report time address lines kind) = false
of_pool (line_test address) = false
of_pool event_status = false
of_pool damage_total = false
of_pool (pool_command opcode payload time room) = true

-- the calls of a list that are not
abbrev pub without_pool : List Call → List Call
without_pool [] = []
without_pool (c ∷ cs) = cond (of_pool c) (without_pool cs) (c ∷ without_pool cs)

-- the answers of those, in the list as it is: each call, the second mailbox's too, gets the device that the last one left
abbrev pub others : DeviceState → List Call → List Whole
others d [] = []
others d (c ∷ cs) = cond (of_pool c) (others (step d c).next cs) (whole d c ∷ others (step d c).next cs)

-- ---- examples by number (`running`: an event in log 0, damage at line 1, and a Sanitize from time 5 on that is over at `over`)
-- an opcode with a payload
pub record Asked : Type 0 where
  pub opcode : ℕ
  pub payload : List ℕ

abbrev pub asked : ℕ → List ℕ → Asked
asked opcode payload = record { opcode = opcode; payload = payload }

-- the numbers of the second mailbox's commands on a device at a time
abbrev pub pool_numbers : DeviceState → ℕ → List Asked → List ℕ
pool_numbers d time [] = []
pool_numbers d time (a ∷ rest) = (pool_answer d a.opcode a.payload time 2048).code ∷ pool_numbers d time rest

-- Get Log of the effects log from an offset on
abbrev pub effects_from : ℕ → ℕ → Asked
effects_from offset size = asked 0x0401 (effects_log_id ++ le 4 offset ++ le 4 size)

unfoldable pub pool_cases : List Case
pool_cases =
    -- "It may use 0100h, 0102h, 0300h, 0400h, 0401h, 4000h and 4300h"
    case
    (pool_numbers new_unit 0
    (asked 0x0100 (0 ∷ []) ∷ asked 0x0102 [] ∷ asked 0x0300 [] ∷ asked 0x0400 [] ∷ effects_from 0 28 ∷ asked 0x4000 [] ∷ asked 0x4300 (le 8 0 ++ le 8 1) ∷ []))
    (replicate 7 0)
    -- "an opcode the device has and this mailbox hasn't, 0015h", whatever its payload
    ∷ case
    (pool_numbers new_unit 0
    (asked 0x0101 (replicate 6 0) ∷ asked 0x0103 (replicate 4 0) ∷ asked 0x0301 (replicate 8 0) ∷ asked 0x4102 (replicate 8 0) ∷ asked 0x4103 (replicate 8 0) ∷ asked 0x4301 (replicate 8 0) ∷ asked 0x4302 (replicate 72 0) ∷ asked 0x4400 []
    ∷ asked 0x0101 [] ∷ asked 0x4400 (0 ∷ []) ∷ []))
    (replicate 10 0x15)
    -- "directly after 0003h": the buffer, 0100h; a payload over 2,048 bytes, 0016h; an opcode that the device has not, 0003h; 0015h; a wrong length, 0016h; then the command's own
    ∷ case ((pool_answer new_unit 0x7777 (replicate 2049 0) 0 2047).code ∷ pool_numbers new_unit 0 (asked 0x7777 (replicate 2049 0) ∷ asked 0x0101 (replicate 2049 0) ∷ asked 0x7777 [] ∷ asked 0x0015 [] ∷ asked 0x0100 [] ∷ asked 0x0100 (5 ∷ []) ∷ []))
    (0x100 ∷ 0x16 ∷ 0x16 ∷ 3 ∷ 3 ∷ 0x16 ∷ 2 ∷ [])
    -- "its effects log and that log's size list those seven": the size in Get Supported Logs, the log, the end of it
    ∷ case (pool_answer new_unit 0x0400 [] 0 2048).bytes (1 ∷ replicate 7 0 ++ effects_log_id ++ (28 ∷ 0 ∷ 0 ∷ 0 ∷ []))
    ∷ case (pool_answer new_unit 0x0401 (effects_log_id ++ le 4 0 ++ le 4 28) 0 2048).bytes
    (0 ∷ 1 ∷ 0 ∷ 0 ∷ 2 ∷ 1 ∷ 0 ∷ 0 ∷ 0 ∷ 3 ∷ 0 ∷ 0 ∷ 0 ∷ 4 ∷ 0 ∷ 0 ∷ 1 ∷ 4 ∷ 0 ∷ 0 ∷ 0 ∷ 0x40 ∷ 0 ∷ 0 ∷ 0 ∷ 0x43 ∷ 0 ∷ 0 ∷ [])
    ∷ case (pool_numbers new_unit 0 (effects_from 0 29 ∷ effects_from 28 0 ∷ effects_from 28 1 ∷ effects_from 29 0 ∷ effects_from 0 60 ∷ [])) (2 ∷ 0 ∷ 2 ∷ 2 ∷ 2 ∷ [])
    -- "on the device as it stands, a due Sanitize not ended first": before the end, at it and after it the log's one record is told of, where the first mailbox finds the log empty at the end
    ∷ case
    (map (λ (t : ℕ). record_count (pool_answer running 0x0100 (0 ∷ []) t 2048).bytes) ((over - 1) ∷ over ∷ (over + 1) ∷ [])
    ++ map (λ (t : ℕ). record_count (outcome running 0x0100 (0 ∷ []) t zero_area 2048).reply) ((over - 1) ∷ over ∷ (over + 1) ∷ []))
    (1 ∷ 1 ∷ 1 ∷ 1 ∷ 0 ∷ 0 ∷ [])
    -- "never end a Sanitize": media stays disabled after it, and the first mailbox's command after it ends the work
    ∷ case (disabled (after running (pool_command 0x0300 [] over 2048 ∷ [])) ∷ disabled (after running (pool_command 0x0300 [] over 2048 ∷ sends 0x0300 [] over ∷ [])) ∷ []) (1 ∷ 0 ∷ [])
    -- "Its commands change nothing": the numbers of calls with its commands between them
    ∷ case (numbers new_unit (sanitize 5 ∷ pool_command 0x4400 [] 6 2048 ∷ pool_command 0x0100 (0 ∷ []) over 0 ∷ sanitize 6 ∷ pool_command 0x4300 (le 8 0 ++ le 8 1) over 2048 ∷ sanitize over ∷ [])) (1 ∷ 0x15 ∷ 0x100 ∷ 6 ∷ 0 ∷ 1 ∷ [])
    ∷ []
