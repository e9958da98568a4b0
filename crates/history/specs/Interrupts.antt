-- Examples of W-204 (document 02) by number: one table of what the definitions give and what the document says, on a device of one unit. Assumes nothing.
use Rattle.std.specs.Prelude.{ℕ, ◌*◌, List, [], ◌∷◌, ◌++◌, map, length, get_or, replicate}
use Rattle.wire.specs.Wire.{le}
use Rattle.events.specs.Log.{log_at}
use Rattle.labels.specs.Labels.{zero_area}
use Rattle.mailbox.specs.State.{DeviceState, with_policy}
use Rattle.mailbox.specs.Mailbox.{outcome}
use Rattle.mailbox.specs.DeviceCalls as Device
use Rattle.history.specs.Calls.{command, event_report, after}
use Rattle.history.specs.Cases.{new_unit, full, send, events, clear_events, inject, handles_of, told, Case, case}

-- ---- devices
-- Set Event Interrupt Policy with these bytes
abbrev pub policy_set : DeviceState → List ℕ → DeviceState
policy_set d bytes = after d (send 0x0103 bytes ∷ [])

-- a new device whose five logs are enabled (`enabled_reached` of proofs/Interrupts.antt: Set Event Interrupt Policy leads there)
abbrev pub enabled_unit : DeviceState
enabled_unit = with_policy new_unit (0x21 ∷ 0x31 ∷ 0x41 ∷ 0x51 ∷ 1 ∷ [])

-- the five logs
abbrev pub five_logs : List ℕ
five_logs = 0 ∷ 1 ∷ 2 ∷ 3 ∷ 4 ∷ []

-- ---- what is asked
-- the vector of an event of zero bytes to log k, after n others to it
abbrev pub event_vector : DeviceState → (n k : ℕ) → ℕ
event_vector d n k = (Device.event_report (after d (replicate n (event_report 0 k (replicate 128 0)))) 0 k (replicate 128 0)).vector

-- number and vector of an injection at a line; how many records log 0 then holds, its overflow count, and what the line test says of the line
abbrev pub injection : DeviceState → (line : ℕ) → List ℕ
injection d line =
    (outcome d 0x4301 (le 8 (line * 64)) 0 zero_area 2048).code
    ∷ (outcome d 0x4301 (le 8 (line * 64)) 0 zero_area 2048).vector
    ∷ length (handles_of (after d (inject line ∷ [])))
    ∷ (log_at (after d (inject line ∷ [])).logs 0).overflow_count
    ∷ told (after d (inject line ∷ [])) line

-- the bytes of the oldest record that log 0 holds
abbrev pub oldest : DeviceState → List ℕ
oldest d = get_or (log_at d.logs 0).held 0 []

-- ---- the tables
-- event reports
unfoldable pub interrupt_cases : List Case
interrupt_cases =
    -- "the log's vector if its interrupts are enabled and the log went from empty to one record": 2, 3, 4, 5, and "log 4 uses vector 2"
    case (map (event_vector enabled_unit 0) five_logs) (2 ∷ 3 ∷ 4 ∷ 5 ∷ 2 ∷ [])
    -- "otherwise none": the second record; the ninth, which is not stored; disabled
    ∷ case (map (event_vector enabled_unit 1) five_logs) (replicate 5 0)
    ∷ case (map (event_vector enabled_unit 8) five_logs) (replicate 5 0)
    ∷ case (map (event_vector new_unit 0) five_logs) (replicate 5 0)
    ∷ case (map (event_vector (policy_set enabled_unit (replicate 5 0)) 0) five_logs) (replicate 5 0)
    -- enabled by the low two bits of each byte; four bytes leave log 4 as it was
    ∷ case (map (event_vector (policy_set enabled_unit (0 ∷ 1 ∷ 4 ∷ 0xfc ∷ 5 ∷ [])) 0) five_logs) (0 ∷ 3 ∷ 0 ∷ 0 ∷ 2 ∷ [])
    ∷ case (map (event_vector (policy_set new_unit (replicate 4 1)) 0) five_logs) (2 ∷ 3 ∷ 4 ∷ 5 ∷ 0 ∷ [])
    -- a refused report (log 5; 127 bytes): its number, and none
    ∷ case ((Device.event_report enabled_unit 0 5 (replicate 128 0)).code ∷ (Device.event_report enabled_unit 0 5 (replicate 128 0)).vector ∷ []) (2 ∷ 0 ∷ [])
    ∷ case ((Device.event_report enabled_unit 0 0 (replicate 127 0)).code ∷ (Device.event_report enabled_unit 0 0 (replicate 127 0)).vector ∷ []) (0x16 ∷ 0 ∷ [])
    ∷ []

-- injections, and what they leave in log 0
unfoldable pub injection_cases : List Case
injection_cases =
    -- an injection at address 64: Success, vector 2, one record, no overflow; the line is Damaged, of type 3
    case (injection enabled_unit 1) (0 ∷ 2 ∷ 1 ∷ 0 ∷ 0 ∷ 1 ∷ 3 ∷ [])
    -- "a record of 128 zero bytes with length 128 at byte 16, the address at bytes 48 to 55, then handle and time as always": handle 1 at byte 20, time 0
    ∷ case (oldest (after enabled_unit (inject 1 ∷ []))) (replicate 16 0 ++ (128 ∷ replicate 3 0) ++ (1 ∷ replicate 27 0) ++ (64 ∷ replicate 79 0))
    -- the same at address 0abcde40h, as the second event, 5 after the clock was set to 7: handle 2, time 12
    ∷ case
    (get_or (log_at (after enabled_unit (events 1 ++ (send 0x0301 (le 8 7) ∷ command 0x4301 (le 8 0xabcde40) 5 zero_area 2048 ∷ []))).logs 0).held 1 [])
    (replicate 16 0 ++ (128 ∷ replicate 3 0) ++ (2 ∷ replicate 3 0) ++ (12 ∷ replicate 23 0) ++ (0x40 ∷ 0xde ∷ 0xbc ∷ 0x0a ∷ replicate 76 0))
    -- the same line again: Success, none, still one record
    ∷ case (injection (after enabled_unit (inject 1 ∷ [])) 1) (0 ∷ 0 ∷ 1 ∷ 0 ∷ 0 ∷ 1 ∷ 3 ∷ [])
    -- another line: the log was not empty, so none; two records
    ∷ case (injection (after enabled_unit (inject 1 ∷ [])) 2) (0 ∷ 0 ∷ 2 ∷ 0 ∷ 0 ∷ 1 ∷ 3 ∷ [])
    ∷ []

-- the same once log 0 was cleared, disabled or full, and refused
unfoldable pub other_injection_cases : List Case
unfolding full
other_injection_cases =
    -- its record cleared (handle 1), another line: vector 2 again
    case (injection (after enabled_unit (inject 1 ∷ clear_events 0 (1 ∷ []) ∷ [])) 2) (0 ∷ 2 ∷ 1 ∷ 0 ∷ 0 ∷ 1 ∷ 3 ∷ [])
    -- disabled: none, and the record is stored
    ∷ case (injection new_unit 1) (0 ∷ 0 ∷ 1 ∷ 0 ∷ 0 ∷ 1 ∷ 3 ∷ [])
    -- "If log 0 is full the event is counted as overflow and the injection stands": with eight held
    ∷ case (injection (after enabled_unit (events 8)) 1) (0 ∷ 0 ∷ 8 ∷ 1 ∷ 0 ∷ 1 ∷ 3 ∷ [])
    -- refused: 256 entries and an uncovered line, 0010h; unaligned, 0002h. No event, none
    ∷ case (injection (with_policy full enabled_unit.policy) 5001) (0x10 ∷ 0 ∷ 0 ∷ 0 ∷ 0 ∷ 0 ∷ 0 ∷ [])
    ∷ case ((outcome enabled_unit 0x4301 (le 8 65) 0 zero_area 2048).code ∷ (outcome enabled_unit 0x4301 (le 8 65) 0 zero_area 2048).vector ∷ handles_of (after enabled_unit (send 0x4301 (le 8 65) ∷ []))) (2 ∷ 0 ∷ [])
    ∷ []
