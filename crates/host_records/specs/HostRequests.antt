-- The record `RQ`, which builds a request (document 10, "Records that a request brings", W-202), by the host library's own definitions. A field stands after the
-- record's fixed part: opcode 2, room 2, fill 1. Assumes nothing.
use Rattle.std.specs.Prelude.{ℕ, cond, List, [], eqb, get_or, drop}
use Rattle.wire.specs.Wire.{field, part}
use Rattle.events.specs.Clear.{handles_at}
use Rattle.mailbox.specs.State.{DeviceState}
use Rattle.wire.specs.Done.{Written, written}
use Rattle.host_requests.specs.Requests.{Request, get_event_records, clear_event_records, get_event_interrupt_policy, set_event_interrupt_policy, get_timestamp, set_timestamp, get_supported_logs, get_log, identify, get_poison_list, inject_poison, clear_poison, build}
use Rattle.protocol.specs.Records.{RQ}
use Rattle.protocol.specs.HostFormats.{opcode_of, knows}
use Rattle.protocol.specs.Runs.{Printed}
use Rattle.host_records.specs.Lines.{written_line}

-- "0100h log 1. 0101h log 1, flags 1, n 2, n handles of 2 .. 0102h, 0300h, 0400h, 4000h none. 0103h n 1 (4 or 5, else `BAD`), n bytes. 0301h value 8. 0401h identifier
-- 16, offset 4, length 4. 4300h address 8, lines 8. 4301h address 8. 4302h address 8, data 64." The last stands for any other opcode, of which there is no record
unfoldable pub request_of : ℕ → List ℕ → Request
request_of op r =
    cond (eqb op 0x0100) (get_event_records (get_or r 7 0))
    (cond (eqb op 0x0101) (clear_event_records (get_or r 7 0) (get_or r 8 0) (handles_at (field r 9 2) 11 r))
    (cond (eqb op 0x0102) get_event_interrupt_policy
    (cond (eqb op 0x0103) (set_event_interrupt_policy (drop 8 r))
    (cond (eqb op 0x0300) get_timestamp
    (cond (eqb op 0x0301) (set_timestamp (field r 7 8))
    (cond (eqb op 0x0400) get_supported_logs
    (cond (eqb op 0x0401) (get_log (part 7 16 r) (field r 23 4) (field r 27 4))
    (cond (eqb op 0x4000) identify
    (cond (eqb op 0x4300) (get_poison_list (field r 7 8) (field r 15 8))
    (cond (eqb op 0x4301) (inject_poison (field r 7 8)) (clear_poison (field r 7 8) (part 15 64 r))))))))))))

-- the request built into a room of so many bytes; of an opcode that the record does not know, which is no record, nothing
unfoldable pub request_built : List ℕ → ℕ → Written
request_built r room = cond (knows (opcode_of r)) (build (request_of (opcode_of r) r) room) (written [])

-- `RQ code length bytes kept`: "the payload built"
unfoldable pub serve_request : DeviceState → List ℕ → Printed DeviceState
serve_request d r = record { line = written_line RQ (get_or r 6 0) (field r 4 2) (request_built r (field r 4 2)); next = d }
