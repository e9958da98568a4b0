-- P1 to P10 of document 01, "Cases by number": one table of what the definitions give and what the document says, as numbers; the cases of document 02's W-201
-- likewise; and the worked example. Assumes nothing.
use Rattle.std.specs.Prelude.{ℕ, zero, suc, ◌+◌, ◌*◌, Bool, false, cond, List, [], ◌∷◌, ◌++◌, map, length, set, replicate}
use Rattle.wire.specs.Wire.{le, field}
use Rattle.poison.specs.Runs.{run}
use Rattle.poison.specs.State.{Entry, entry}
use Rattle.events.specs.Log.{log_at, handle_of}
use Rattle.events.specs.Report.{stamped}
use Rattle.events.specs.Get.{reply_bytes}
use Rattle.events.specs.Clear.{clear_payload}
use Rattle.events.specs.Drain.{more_bit, record_count}
use Rattle.labels.specs.Labels.{zero_area}
use Rattle.mailbox.specs.State.{DeviceState, lines_of, with_logs, with_poison}
use Rattle.mailbox.specs.Outcome.{Outcome}
use Rattle.mailbox.specs.Mailbox.{outcome}
use Rattle.mailbox.specs.DeviceCalls as Device
use Rattle.history.specs.Calls.{Call, command, event_report, media_report, step, after}
use Rattle.history.specs.Drain.{read, then_clear}

-- a device of one unit; a label area of zeros, and a reply buffer of 2,048 bytes
abbrev pub new_unit : DeviceState
new_unit = (Device.make 1 0).next

abbrev pub send : ℕ → List ℕ → Call
send opcode payload = command opcode payload 0 zero_area 2048

abbrev pub number_of : Bool → ℕ
number_of b = cond b 1 0

-- ---- calls
-- n events of zero bytes to log 0
abbrev pub event : Call
event = event_report 0 0 (replicate 128 0)

abbrev pub events : ℕ → List Call
events n = replicate n event

-- Clear Event Records of log 0 with flags and handles
abbrev pub clear_events : ℕ → List ℕ → Call
clear_events flags handles = send 0x0101 (clear_payload 0 flags handles)

-- Inject Poison and Clear Poison of a line
abbrev pub inject : ℕ → Call
inject line = send 0x4301 (le 8 (line * 64))

abbrev pub clear : ℕ → Call
clear line = send 0x4302 (le 8 (line * 64) ++ replicate 64 0)

-- n one-line entries of type 1, at every other line from a on
abbrev pub singles : ℕ → ℕ → List Entry
singles a zero = []
singles a (suc n) = entry 1 (run a 1) ∷ singles (a + 2) n

-- 256 entries: 255 of one line, and one of the three lines 1,000 to 1,002 (`full_reached` of proofs/Cases.antt: calls lead there)
unfoldable pub full : DeviceState
full = with_poison new_unit (record { entries = singles 0 255 ++ (entry 2 (run 1000 3) ∷ []); overflow = false; overflow_time = 0 })

-- n reports of one line each, of type 1, at every other line below 2n, from the highest down. (Injections would bring events in log 0 too: document 02, W-204.)
abbrev pub single_reports : ℕ → List Call
single_reports zero = []
single_reports (suc n) = media_report 0 (n * 2 * 64) 1 1 ∷ single_reports n

-- the handles that log 0 holds
abbrev pub handles_of : DeviceState → List ℕ
handles_of d = map handle_of (log_at d.logs 0).held

-- a new device but for log 0, which gives handle h next
abbrev pub giving : ℕ → DeviceState
giving h = with_logs new_unit (set new_unit.logs 0 (record { held = []; next = h; overflow_count = 0; first_overflow = 0; last_overflow = 0 }))

-- a device whose log 0 gives handle 65,535 next (`last_handle_reached` of proofs/Cases.antt: calls lead there)
abbrev pub last_handle : DeviceState
last_handle = giving 65535

-- n handles used up, from h on: an event, then the Clear Event Records of its handle
unfoldable pub use_handles : ℕ → ℕ → List Call
use_handles h zero = []
use_handles h (suc n) = event ∷ clear_events 0 (h ∷ []) ∷ use_handles (h + 1) n

-- what the line test answers of a line: its number, the answer's number and the type beside it
abbrev pub told : DeviceState → ℕ → List ℕ
told d line = (Device.line_test d (line * 64)).code ∷ (Device.line_test d (line * 64)).number ∷ (Device.line_test d (line * 64)).kind ∷ []

-- ---- the table
pub record Case : Type 0 where
  pub given : List ℕ
  pub stated : List ℕ

abbrev pub case : List ℕ → List ℕ → Case
case given stated = record { given = given; stated = stated }

unfoldable pub cases : List Case
unfolding full
cases =
    -- P1 make 1,023 accepted, 1,024 and 0 refused
    case ((Device.make 1023 0).code ∷ (Device.make 1024 0).code ∷ (Device.make 0 0).code ∷ []) (0 ∷ 2 ∷ 2 ∷ [])
    -- P2 eighth event stored, ninth counted
    ∷ case
    (number_of (Device.event_report (after new_unit (events 7)) 0 0 (replicate 128 0)).stored
    ∷ number_of (Device.event_report (after new_unit (events 8)) 0 0 (replicate 128 0)).stored
    ∷ length (handles_of (after new_unit (events 9)))
    ∷ (log_at (after new_unit (events 9)).logs 0).overflow_count
    ∷ [])
    (1 ∷ 0 ∷ 8 ∷ 1 ∷ [])
    -- P3 handle 65,535 then 1
    ∷ case (handles_of (after last_handle (events 2))) (65535 ∷ 1 ∷ [])
    -- P4 handles 2, 1 with 1, 2 held: 000Eh
    ∷ case ((step (after new_unit (events 2)) (clear_events 0 (2 ∷ 1 ∷ []))).code ∷ handles_of (after new_unit (events 2))) (0xe ∷ 1 ∷ 2 ∷ [])
    -- P5 Clear All without overflow: 0002h
    ∷ case ((step (after new_unit (events 2)) (clear_events 1 [])).code ∷ []) (2 ∷ [])
    -- P6 three handles with two held: 000Eh
    ∷ case ((step (after new_unit (events 2)) (clear_events 0 (1 ∷ 2 ∷ 3 ∷ []))).code ∷ []) (0xe ∷ [])
    -- P7 256 entries, inject an uncovered line: 0010h; a covered one: Success
    ∷ case (length full.poison.entries ∷ (step full (inject 5001)).code ∷ (step full (inject 1001)).code ∷ []) (256 ∷ 0x10 ∷ 0 ∷ [])
    -- P8 256 entries, one of three lines, clear its middle: third line dropped, flag set
    ∷ case
    ((step full (clear 1001)).code
    ∷ Device.damage_total full
    ∷ Device.damage_total (step full (clear 1001)).next
    ∷ number_of (step full (clear 1001)).next.poison.overflow
    ∷ [])
    (0 ∷ 258 ∷ 256 ∷ 1 ∷ [])
    -- P8, its lines: the first still damaged, of type 2; the middle and the third Unknown, for the flag is set
    ∷ case
    (told (step full (clear 1001)).next 1000 ++ (told (step full (clear 1001)).next 1001 ++ told (step full (clear 1001)).next 1002))
    ((0 ∷ 1 ∷ 2 ∷ []) ++ ((0 ∷ 2 ∷ 0 ∷ []) ++ (0 ∷ 2 ∷ 0 ∷ [])))
    -- P9 clear its first line: nothing dropped
    ∷ case
    ((step full (clear 1000)).code ∷ Device.damage_total (step full (clear 1000)).next ∷ number_of (step full (clear 1000)).next.poison.overflow ∷ [])
    (0 ∷ 257 ∷ 0 ∷ [])
    -- P9, its lines: the first Clean; the others still damaged, of type 2
    ∷ case
    (told (step full (clear 1000)).next 1000 ++ (told (step full (clear 1000)).next 1001 ++ told (step full (clear 1000)).next 1002))
    ((0 ∷ 0 ∷ 0 ∷ []) ++ ((0 ∷ 1 ∷ 2 ∷ []) ++ (0 ∷ 1 ∷ 2 ∷ [])))
    -- P10 range of 0 lines at the device's end: no records (number, length of the reply, its record count)
    ∷ case
    ((outcome full 0x4300 (le 8 (lines_of full * 64) ++ le 8 0) 0 zero_area 2048).code
    ∷ length (outcome full 0x4300 (le 8 (lines_of full * 64) ++ le 8 0) 0 zero_area 2048).reply
    ∷ field (outcome full 0x4300 (le 8 (lines_of full * 64) ++ le 8 0) 0 zero_area 2048).reply 10 2
    ∷ [])
    (0 ∷ 32 ∷ 0 ∷ [])
    ∷ []

-- ---- W-201 (document 02)
-- log 0 of a new device, read, after n events to it
abbrev pub read_after : ℕ → Outcome
read_after n = read (after new_unit (events n)) 0 0 zero_area 2048

-- what nine events leave: log 0 holds records 1 to 8, and one was counted (`nine_reached` of proofs/Cases.antt: calls lead there)
abbrev pub nine : DeviceState
nine =
    with_logs new_unit (set new_unit.logs 0 (record { held = map (λ h. stamped (replicate 128 0) h 0) (1 ∷ 2 ∷ 3 ∷ 4 ∷ 5 ∷ 6 ∷ 7 ∷ 8 ∷ []); next = 9; overflow_count = 1; first_overflow = 0; last_overflow = 0 }))

-- read, and cleared of what that gave
abbrev pub drained : DeviceState → Outcome
drained d = then_clear d 0 0 zero_area 2048 0 zero_area 2048

-- what a host sees of a read: the number, the flags, the overflow count, the record count and the length of the reply
abbrev pub seen : Outcome → List ℕ
seen o = o.code ∷ field o.reply 0 1 ∷ field o.reply 2 2 ∷ record_count o.reply ∷ length o.reply ∷ []

-- More where a reply carries so many of the eight records that are held
abbrev pub more_at : ℕ → ℕ
more_at carried = more_bit (reply_bytes carried (log_at (after new_unit (events 8)).logs 0))

unfoldable pub drain_cases : List Case
drain_cases =
    -- 0, 1 and 8 held; 8 held and one more counted: only bit 0 is ever set
    case (seen (read_after 0)) (0 ∷ 0 ∷ 0 ∷ 0 ∷ 32 ∷ [])
    ∷ case (seen (read_after 1)) (0 ∷ 0 ∷ 0 ∷ 1 ∷ 160 ∷ [])
    ∷ case (seen (read_after 8)) (0 ∷ 0 ∷ 0 ∷ 8 ∷ 1056 ∷ [])
    ∷ case (seen (read_after 9)) (0 ∷ 1 ∷ 1 ∷ 8 ∷ 1056 ∷ [])
    -- the rule over the number carried: with eight held More is set below eight carried, and clear from there on
    ∷ case (more_at 1 ∷ more_at 3 ∷ more_at 7 ∷ more_at 8 ∷ more_at 15 ∷ []) (1 ∷ 1 ∷ 1 ∷ 0 ∷ 0 ∷ [])
    ∷ []

-- read, clear what was read, read again: nothing is held, the overflow is forgotten; the next event has the next handle
unfoldable pub drained_cases : List Case
drained_cases =
    case ((drained nine).code ∷ seen (read (drained nine).next 0 0 zero_area 2048)) (0 ∷ 0 ∷ 0 ∷ 0 ∷ 0 ∷ 32 ∷ [])
    ∷ case (handles_of (after (drained nine).next (events 1))) (9 ∷ [])
    ∷ []

abbrev pub given_of : Case → List ℕ
given_of c = c.given

abbrev pub stated_of : Case → List ℕ
stated_of c = c.stated

-- ---- the worked example of document 01, "Bench program"
-- three lines from 128 on reported damaged with type 2; then line 192 cleared
abbrev pub reported : DeviceState
reported = after new_unit (media_report 0 128 3 2 ∷ [])

abbrev pub cleared : DeviceState
cleared = after reported (clear 3 ∷ [])

-- what each line of the output says after its mark: the numbers, then the reply's bytes
unfoldable pub example : List (List ℕ)
example =
    ((Device.make 1 0).code ∷ [])
    ∷ ((Device.media_report new_unit 0 128 3 2).code ∷ (Device.media_report new_unit 0 128 3 2).stored ∷ (Device.media_report new_unit 0 128 3 2).dropped ∷ [])
    ∷ ((outcome reported 0x4302 (le 8 192 ++ replicate 64 0) 0 zero_area 2048).code ∷ length (outcome reported 0x4302 (le 8 192 ++ replicate 64 0) 0 zero_area 2048).reply ∷ [])
    ∷ ((Device.line_test cleared 192).code ∷ (Device.line_test cleared 192).number ∷ (Device.line_test cleared 192).kind ∷ [])
    ∷ ((Device.line_test cleared 128).code ∷ (Device.line_test cleared 128).number ∷ (Device.line_test cleared 128).kind ∷ [])
    ∷ ((outcome cleared 0x4300 (le 8 0 ++ le 8 16) 0 zero_area 2048).code
    ∷ length (outcome cleared 0x4300 (le 8 0 ++ le 8 16) 0 zero_area 2048).reply
    ∷ (outcome cleared 0x4300 (le 8 0 ++ le 8 16) 0 zero_area 2048).reply)
    ∷ []

-- what the document prints: "ten zero bytes, 02 00, twenty zero bytes, two records"
unfoldable pub example_output : List (List ℕ)
example_output =
    (0 ∷ [])
    ∷ (0 ∷ 3 ∷ 0 ∷ [])
    ∷ (0 ∷ 0 ∷ [])
    ∷ (0 ∷ 0 ∷ 0 ∷ [])
    ∷ (0 ∷ 1 ∷ 2 ∷ [])
    ∷ (0 ∷ 64 ∷ replicate 10 0 ++ ((2 ∷ 0 ∷ []) ++ (replicate 20 0 ++ ((0x82 ∷ 0 ∷ 0 ∷ 0 ∷ 0 ∷ 0 ∷ 0 ∷ 0 ∷ 1 ∷ 0 ∷ 0 ∷ 0 ∷ 0 ∷ 0 ∷ 0 ∷ 0 ∷ []) ++ (2 ∷ 1 ∷ 0 ∷ 0 ∷ 0 ∷ 0 ∷ 0 ∷ 0 ∷ 1 ∷ 0 ∷ 0 ∷ 0 ∷ 0 ∷ 0 ∷ 0 ∷ 0 ∷ [])))))
    ∷ []
