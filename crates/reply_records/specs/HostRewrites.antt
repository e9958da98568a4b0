-- The record `RW`, a reply read and written again (document 10, "Records that a request brings", W-202), by the host library's own definitions. The reply stands after
-- the record's fixed part: opcode 2, asked 4, room 2, fill 1, length 2. Assumes nothing.
use Rattle.std.specs.Prelude.{ℕ, cond, List, [], eqb, drop, get_or}
use Rattle.wire.specs.Wire.{field, le}
use Rattle.wire.specs.Returns.{success, need}
use Rattle.mailbox.specs.State.{DeviceState}
use Rattle.host_replies.specs.declared.counted.Kind.{Kind}
use Rattle.host_replies.specs.declared.counted.Kind.TheVariants.{EventRecords, SupportedLogs, PoisonList}
use Rattle.host_replies.specs.Replies.{EventsRead, PolicyRead, TimeRead, LogsRead, IdentityRead, ListRead}
use Rattle.wire.specs.Done.{Written, refused}
use Rattle.host_replies.specs.Counted.{writing_verdict, rewritten}
use Rattle.host_replies.specs.Replies.{read_event_records, event_header, read_policy, read_timestamp, read_supported_logs, logs_header, read_log, read_identity, write_identity, read_poison_list, list_header, read_nothing, write_bytes}
use Rattle.protocol.specs.Records.{RW}
use Rattle.protocol.specs.HostFormats.{opcode_of}
use Rattle.protocol.specs.Runs.{Printed}
use Rattle.host_records.specs.Lines.{written_line}

-- what was read, written into a room of so many bytes: "a reading that is refused prints its number and `0 - 1`"
unfoldable pub read_then : {A : Type 0} → (A → ℕ) → (A → ℕ → Written) → A → ℕ → Written
read_then code write x room = need (eqb (code x) success) (refused (code x)) (write x room)

-- a reply of a count and as many records, written from its header and its records
abbrev pub counted_again : Kind → ℕ → List ℕ → List ℕ → ℕ → Written
counted_again k count header records room =
    record { code = (writing_verdict k count records room).code; bytes = rewritten k count header records room }

-- each reply: the fields read, and the records as they are
abbrev pub write_events : List ℕ → EventsRead → ℕ → Written
write_events reply x = counted_again EventRecords x.fields.count (event_header x.fields) (drop 32 reply)

abbrev pub write_policy : PolicyRead → ℕ → Written
write_policy x = write_bytes x.settings

abbrev pub write_time : TimeRead → ℕ → Written
write_time x = write_bytes (le 8 x.time)

abbrev pub write_logs : List ℕ → LogsRead → ℕ → Written
write_logs reply x = counted_again SupportedLogs x.count (logs_header x.count) (drop 8 reply)

abbrev pub write_fields : IdentityRead → ℕ → Written
write_fields x = write_identity x.fields

abbrev pub write_list : List ℕ → ListRead → ℕ → Written
write_list reply x = counted_again PoisonList x.fields.count (list_header x.fields) (drop 32 reply)

-- by the opcode: "`asked` is the length asked; 0 for the other commands and not looked at"; of the five last ones no reply is named
unfoldable pub written_again : ℕ → ℕ → List ℕ → ℕ → Written
written_again op asked reply =
    cond (eqb op 0x0100) (read_then (λ x. x.code) (write_events reply) (read_event_records reply))
    (cond (eqb op 0x0102) (read_then (λ x. x.code) write_policy (read_policy reply))
    (cond (eqb op 0x0300) (read_then (λ x. x.code) write_time (read_timestamp reply))
    (cond (eqb op 0x0400) (read_then (λ x. x.code) (write_logs reply) (read_supported_logs reply))
    (cond (eqb op 0x0401) (read_then (λ x. x) (λ _. write_bytes reply) (read_log asked reply))
    (cond (eqb op 0x4000) (read_then (λ x. x.code) write_fields (read_identity reply))
    (cond (eqb op 0x4300) (read_then (λ x. x.code) (write_list reply) (read_poison_list reply))
    (read_then (λ x. x) (λ _. write_bytes []) (read_nothing reply))))))))

-- `RW` "opcode 2, asked 4, room 2, fill 1, length 2, reply": "the reply read and written again"
abbrev pub again_call : List ℕ → Written
again_call r = written_again (opcode_of r) (field r 4 4) (drop 13 r) (field r 8 2)

-- `RW code length bytes kept`
unfoldable pub serve_again : DeviceState → List ℕ → Printed DeviceState
serve_again d r = record { line = written_line RW (get_or r 10 0) (field r 8 2) (again_call r); next = d }
