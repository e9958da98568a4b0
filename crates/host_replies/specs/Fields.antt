-- What the theorems on replies speak of (document 02, W-202: "a reply read gives each field 01 names in it, and written again the same bytes"): bytes, the widths of
-- the fields as the types of the code have them, and the same bytes and the same fields again. Assumes nothing.
use Rattle.std.specs.Prelude.{ℕ, ◌+◌, ◌*◌, ◌≤◌, ◌<◌, ◌^◌, ◌≡◌, List, ◌++◌, length, drop, get_or, replicate}
use Rattle.wire.specs.Wire.{le, field}
use Rattle.poison.specs.State.{Entry}
use Rattle.host_replies.specs.declared.counted.Kind.{Kind}
use Rattle.host_replies.specs.declared.reply.EventFields.{EventFields}
use Rattle.host_replies.specs.declared.reply.IdentityFields.{IdentityFields}
use Rattle.host_replies.specs.declared.reply.ListFields.{ListFields}
use Rattle.host_replies.specs.declared.reply.SupportedLog.{SupportedLog}
use Rattle.host_replies.specs.declared.reply.PoisonRecord.{PoisonRecord}
use Rattle.host_replies.specs.Counted.{header_size, count_place, record_size, reserved, first_reserved, verdict_of, writing_verdict, rewritten}

-- every element is a byte
pub record Bytes (bs : List ℕ) : Type 0 where
  pub each : (i : ℕ) → i < length bs → get_or bs i 0 < 256

-- no byte of a list that stands from a place on has a reserved bit set
abbrev pub Unreserved : Kind → (place : ℕ) → List ℕ → Type 0
Unreserved k place bs = (i : ℕ) → i < length bs → reserved k (place + i) (get_or bs i 0) ≡ 0

-- what an accepted reply with a count is: its header is there, it is as long as its count says, and no reserved bit is set
pub record Good (k : Kind) (bs : List ℕ) : Type 0 where
  pub header : header_size k ≤ length bs
  pub long : length bs ≡ header_size k + record_size k * field bs (count_place k) 2
  pub clear : first_reserved k 0 bs ≡ length bs

-- ---- fields within the widths that document 01 gives them
pub record EventWidths (f : EventFields) : Type 0 where
  pub flags : f.flags < 256
  pub overflow : f.overflow_count < 65536
  pub first : f.first_time < 256 ^ 8
  pub last : f.last_time < 256 ^ 8
  pub count : f.count < 65536

pub record ListWidths (f : ListFields) : Type 0 where
  pub flags : f.flags < 256
  pub time : f.overflow_time < 256 ^ 8
  pub count : f.count < 65536

pub record IdentityWidths (f : IdentityFields) : Type 0 where
  pub version : length f.version ≡ 16
  pub total : f.total < 256 ^ 8
  pub volatile : f.volatile < 256 ^ 8
  pub persistent : f.persistent < 256 ^ 8
  pub alignment : f.alignment < 256 ^ 8
  pub info : f.info_log_size < 65536
  pub warning : f.warning_log_size < 65536
  pub failure : f.failure_log_size < 65536
  pub fatal : f.fatal_log_size < 65536
  pub label : f.label_size < 256 ^ 4
  pub inject : f.inject_limit < 65536
  pub capabilities : f.capabilities < 65536
  pub dynamic : f.dynamic_log_size < 65536

-- ---- the same bytes again: a reply with a count that is written, from its count, its header and the bytes after the header, into a room that it fits is not
-- refused, and the bytes written are those of the reply
pub record SameBytes (k : Kind) (count : ℕ) (header bs : List ℕ) : Type 0 where
  pub written : (room : ℕ) → length bs ≤ room → writing_verdict k count (drop (header_size k) bs) room ≡ verdict_of 0 0
  pub bytes : (room : ℕ) → length bs ≤ room → rewritten k count header (drop (header_size k) bs) room ≡ bs

-- ---- the same fields again: a reply with a count that is written from fields and records is its header and then the records; it reads as the fields given, and
-- past its header stand the records
pub record SameFields {A : Type 0} (k : Kind) (count : ℕ) (header rs : List ℕ) (room : ℕ) (read : List ℕ → A) (given : A) : Type 0 where
  pub bytes : rewritten k count header rs room ≡ header ++ rs
  pub fields : read (header ++ rs) ≡ given
  pub records : drop (header_size k) (header ++ rs) ≡ rs

-- an entry that a record of 16 bytes can hold: "address with the type in bits 0 to 2, length 4"
pub record InRecord (e : Entry) : Type 0 where
  pub address : e.start * 64 + e.kind < 256 ^ 8
  pub kind : e.kind < 8
  pub lines : e.lines < 256 ^ 4

-- what stands for an entry past the last
abbrev pub no_entry : Entry
no_entry = record { start = 0; lines = 0; kind = 0 }

-- ---- the bytes of one record, from what is read of it: "identifier, size in 4"; "address with the type in bits 0 to 2, length 4, zero 4"
unfoldable pub log_bytes : SupportedLog → List ℕ
log_bytes l = l.identifier ++ le 4 l.size

unfoldable pub poison_bytes : PoisonRecord → List ℕ
poison_bytes r = le 8 (r.address + r.kind) ++ le 4 r.lines ++ le 4 0

-- a log's record of its width, and what stands for a record past the last
pub record LogWidths (l : SupportedLog) : Type 0 where
  pub identifier : length l.identifier ≡ 16
  pub size : l.size < 256 ^ 4

abbrev pub no_supported_log : SupportedLog
no_supported_log = record { identifier = replicate 16 0; size = 0 }
