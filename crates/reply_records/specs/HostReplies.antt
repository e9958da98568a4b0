-- The record `RP`, a reply read (document 10, "Records that a request brings", "Fields of a reply", W-202), by the host library's own definitions, and its line. The
-- reply stands after the record's fixed part: opcode 2, asked 4, length 2. Assumes nothing.
use Rattle.std.specs.Prelude.{ℕ, zero, suc, cond, List, [], ◌∷◌, ◌++◌, eqb, drop}
use Rattle.wire.specs.Wire.{field}
use Rattle.wire.specs.Returns.{success, invalid_input, need}
use Rattle.mailbox.specs.State.{DeviceState}
use Rattle.host_replies.specs.declared.counted.Kind.{Kind}
use Rattle.host_replies.specs.declared.counted.Kind.TheVariants.{EventRecords, SupportedLogs, PoisonList}
use Rattle.host_replies.specs.Replies.{EventsRead, PolicyRead, TimeRead, LogsRead, IdentityRead, ListRead}
use Rattle.host_replies.specs.declared.reply.IdentityFields.{IdentityFields}
use Rattle.host_replies.specs.Replies.{read_event_records, read_policy, read_timestamp, read_supported_logs, read_log, read_identity, read_poison_list, read_nothing, event_record, supported_log, poison_record}
use Rattle.protocol.specs.Text.{hex, column, columns, bytes_column, line_end, numbers_line}
use Rattle.protocol.specs.Records.{RP}
use Rattle.protocol.specs.HostFormats.{opcode_of}
use Rattle.protocol.specs.Runs.{Printed}
use Rattle.host_records.specs.Lines.{minus}

-- the texts of the first n of some things, one after another
unfoldable pub each_of : (ℕ → List ℕ) → ℕ → List ℕ
each_of f zero = []
each_of f (suc n) = each_of f n ++ f n

-- a record's columns: 0100h "each record's 128 bytes in hex"; 0400h "of each log identifier in hex and size"; 4300h "of each record address (a multiple of 64), type,
-- lines"
unfoldable pub record_columns : Kind → List ℕ → ℕ → List ℕ
record_columns EventRecords records i = 32 ∷ hex (event_record records i)
record_columns SupportedLogs records i = (32 ∷ hex (supported_log records i).identifier) ++ column (supported_log records i).size
record_columns PoisonList records i = columns ((poison_record records i).address ∷ (poison_record records i).kind ∷ (poison_record records i).lines ∷ [])

-- the room that they can take
unfoldable pub record_room : Kind → ℕ
record_room EventRecords = 257
record_room SupportedLogs = 54
record_room PoisonList = 63

-- "`RP 0` and the fields read": numbers, and then other columns
abbrev pub read_line : List ℕ → List ℕ → List ℕ
read_line numbers more = ((RP ++ columns numbers) ++ more) ++ line_end

-- "refused `RP code`, for 0002h `RP 2 place`"
unfoldable pub refusal_line : ℕ → ℕ → List ℕ
refusal_line code place = cond (eqb code invalid_input) (numbers_line RP (code ∷ place ∷ [])) (numbers_line RP (code ∷ []))

-- what was read: its line, or the refusal's
unfoldable pub line_of : {A : Type 0} → (A → ℕ) → (A → ℕ) → (A → List ℕ) → A → List ℕ
line_of code place line x = need (eqb (code x) success) (refusal_line (code x) (place x)) (line x)

-- 0100h: "flags, overflow count, first time, last time, record count; each record's 128 bytes in hex"
abbrev pub events_line : List ℕ → EventsRead → List ℕ
events_line reply x =
    read_line (x.code ∷ x.fields.flags ∷ x.fields.overflow_count ∷ x.fields.first_time ∷ x.fields.last_time ∷ x.fields.count ∷ [])
    (each_of (record_columns EventRecords (drop 32 reply)) x.fields.count)

-- 0102h: "five settings". 0300h: "the time"
abbrev pub policy_line : PolicyRead → List ℕ
policy_line x = numbers_line RP (x.code ∷ x.settings)

abbrev pub time_line : TimeRead → List ℕ
time_line x = numbers_line RP (x.code ∷ x.time ∷ [])

-- 0400h: "count; of each log identifier in hex and size"
abbrev pub logs_line : List ℕ → LogsRead → List ℕ
logs_line reply x = read_line (x.code ∷ x.count ∷ []) (each_of (record_columns SupportedLogs (drop 8 reply)) x.count)

-- 0401h: "the bytes in hex", "whose one column is always there"
abbrev pub log_line : List ℕ → ℕ → List ℕ
log_line reply code = read_line (code ∷ []) (bytes_column minus reply)

-- 4000h: "version in hex (16 bytes); total, volatile, persistent; alignment; four log sizes; label size; the 3-byte number; the 2-byte number after it; the number of
-- the two bytes after that; log 4 size"
abbrev pub identity_numbers : IdentityFields → List ℕ
identity_numbers x =
    x.total ∷ x.volatile ∷ x.persistent ∷ x.alignment
    ∷ x.info_log_size ∷ x.warning_log_size ∷ x.failure_log_size ∷ x.fatal_log_size
    ∷ x.label_size ∷ x.poison_list_size ∷ x.inject_limit ∷ x.capabilities ∷ x.dynamic_log_size ∷ []

abbrev pub identity_line : IdentityRead → List ℕ
identity_line x = read_line (x.code ∷ []) ((32 ∷ hex x.fields.version) ++ columns (identity_numbers x.fields))

-- 4300h: "flags, overflow time, count; of each record address (a multiple of 64), type, lines"
abbrev pub list_line : List ℕ → ListRead → List ℕ
list_line reply x =
    read_line (x.code ∷ x.fields.flags ∷ x.fields.overflow_time ∷ x.fields.count ∷ []) (each_of (record_columns PoisonList (drop 32 reply)) x.fields.count)

-- 0101h, 0103h, 0301h, 4301h, 4302h: "none"
abbrev pub nothing_line : ℕ → List ℕ
nothing_line code = numbers_line RP (code ∷ [])

-- by the opcode: "`asked` is the length asked; 0 for the other commands and not looked at"
unfoldable pub reply_line : ℕ → ℕ → List ℕ → List ℕ
reply_line op asked reply =
    cond (eqb op 0x0100) (line_of (λ x. x.code) (λ x. x.place) (events_line reply) (read_event_records reply))
    (cond (eqb op 0x0102) (line_of (λ x. x.code) (λ _. 0) policy_line (read_policy reply))
    (cond (eqb op 0x0300) (line_of (λ x. x.code) (λ _. 0) time_line (read_timestamp reply))
    (cond (eqb op 0x0400) (line_of (λ x. x.code) (λ x. x.place) (logs_line reply) (read_supported_logs reply))
    (cond (eqb op 0x0401) (line_of (λ x. x) (λ _. 0) (log_line reply) (read_log asked reply))
    (cond (eqb op 0x4000) (line_of (λ x. x.code) (λ _. 0) identity_line (read_identity reply))
    (cond (eqb op 0x4300) (line_of (λ x. x.code) (λ x. x.place) (list_line reply) (read_poison_list reply))
    (line_of (λ x. x) (λ _. 0) nothing_line (read_nothing reply))))))))

-- `RP` "opcode 2, asked 4, length 2, reply"
unfoldable pub serve_reply : DeviceState → List ℕ → Printed DeviceState
serve_reply d r = record { line = reply_line (opcode_of r) (field r 4 4) (drop 10 r); next = d }
