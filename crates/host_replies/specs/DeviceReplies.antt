-- The device's own replies as the host reads them (document 02, W-202): the reading that belongs to each opcode, what its definitions say that each reply holds, and what
-- is asked of a device for its numbers to have their widths. Assumes nothing.
use Rattle.std.specs.Prelude.{ℕ, ◌+◌, ◌≤◌, ◌<◌, ◌^◌, ◌≡◌, cond, List, [], ◌∷◌, eqb, length, take, drop, get_or}
use Rattle.wire.specs.Wire.{part, field}
use Rattle.wire.specs.Returns.{success, unsupported}
use Rattle.poison.specs.Runs.{end}
use Rattle.poison.specs.State.{Entry, PoisonState, shape, capacity}
use Rattle.poison.specs.Range.{sharing, records_bytes}
use Rattle.events.specs.Log.{LogState, log_at}
use Rattle.events.specs.Get.{flags, replied, joined}
use Rattle.labels.specs.Labels.{label_size}
use Rattle.commands.specs.Numbers.{event_records, poison_records}
use Rattle.mailbox.specs.State.{DeviceState}
use Rattle.commands.specs.Identity.{version}
use Rattle.settings.specs.Clock.{device_time}
use Rattle.commands.specs.EffectsLog.{effects_log, effects_log_id, effects_size, log_offset, log_length}
use Rattle.commands.specs.declared.mailboxes.Mailbox.{Mailbox}
use Rattle.list_commands.specs.PoisonCommands.{line_of, list_flags}
use Rattle.host_replies.specs.declared.counted.Kind.{Kind}
use Rattle.host_replies.specs.declared.counted.Kind.TheVariants.{EventRecords, SupportedLogs, PoisonList}
use Rattle.host_replies.specs.declared.reply.EventFields.{EventFields}
use Rattle.host_replies.specs.declared.reply.IdentityFields.{IdentityFields}
use Rattle.host_replies.specs.declared.reply.ListFields.{ListFields}
use Rattle.host_replies.specs.Counted.{header_size}
use Rattle.host_replies.specs.Replies.{read_event_records, read_policy, read_timestamp, read_supported_logs, read_log, read_identity, read_poison_list, read_nothing}
use Rattle.host_replies.specs.Replies.{supported_log}

-- ---- the number that the reading of an opcode's reply gives; `asked` is the length that a Get Log asked for
-- of a command that both mailboxes have (document 02, W-208)
unfoldable pub reading_told : (op asked : ℕ) → List ℕ → ℕ
reading_told op asked bs =
    cond (eqb op 0x0100) (read_event_records bs).code
    (cond (eqb op 0x0102) (read_policy bs).code
    (cond (eqb op 0x0300) (read_timestamp bs).code
    (cond (eqb op 0x0400) (read_supported_logs bs).code
    (cond (eqb op 0x0401) (read_log asked bs)
    (cond (eqb op 0x4000) (read_identity bs).code
    (cond (eqb op 0x4300) (read_poison_list bs).code
    unsupported))))))

-- of any of document 01's twelve: the five that the first mailbox alone has reply nothing
unfoldable pub reading_code : (op asked : ℕ) → List ℕ → ℕ
reading_code op asked bs =
    cond (eqb op 0x0101) (read_nothing bs)
    (cond (eqb op 0x0103) (read_nothing bs)
    (cond (eqb op 0x0301) (read_nothing bs)
    (cond (eqb op 0x4301) (read_nothing bs)
    (cond (eqb op 0x4302) (read_nothing bs)
    (reading_told op asked bs)))))

-- ---- a device whose numbers have the widths of document 01's fields
-- a log: records of 128 bytes, and an overflow count and times of their widths
pub record PlainLog (s : LogState) : Type 0 where
  pub size : (i : ℕ) → i < length s.held → length (get_or s.held i []) ≡ 128
  pub overflow : s.overflow_count < 65536
  pub first : s.first_overflow < 256 ^ 8
  pub last : s.last_overflow < 256 ^ 8

-- entries on the largest device, each of a type of three bits
abbrev pub Recordable : List Entry → Type 0
Recordable [] = Unit {0}
Recordable (e ∷ es) = (end (shape e) ≤ capacity) × (e.kind < 8) × Recordable es

pub record PlainList (s : PoisonState) : Type 0 where
  pub time : s.overflow_time < 256 ^ 8
  pub entries : Recordable s.entries

pub record Plain (d : DeviceState) : Type 0 where
  pub units : d.volatile + d.persistent < 256 ^ 8
  pub policy : length d.policy ≡ 5
  pub logs : (k : ℕ) → k < 5 → PlainLog (log_at d.logs k)
  pub list : PlainList d.poison

-- ---- what the device's definitions say that a reply holds
-- Get Event Records of a log
abbrev pub log_told : LogState → EventFields
log_told s =
    record {
      flags = flags event_records s;
      overflow_count = s.overflow_count;
      first_time = s.first_overflow;
      last_time = s.last_overflow;
      count = length (replied event_records s);
    }

-- Identify: the units, and document 01's numbers
abbrev pub identity_told : (volatile persistent : ℕ) → IdentityFields
identity_told volatile persistent =
    record {
      version = version;
      total = volatile + persistent;
      volatile = volatile;
      persistent = persistent;
      alignment = 0;
      info_log_size = 8;
      warning_log_size = 8;
      failure_log_size = 8;
      fatal_log_size = 8;
      label_size = label_size;
      poison_list_size = 256;
      inject_limit = 0;
      capabilities = 0;
      dynamic_log_size = 8;
    }

-- Get Poison List of n lines from a on: the entries that share a line with them, as many as a reply carries, and its fields
abbrev pub carried : PoisonState → (a n : ℕ) → List Entry
carried s a n = take poison_records (sharing a n s.entries)

abbrev pub list_told : PoisonState → (a n : ℕ) → ListFields
list_told s a n =
    record {
      flags = list_flags s.overflow (length (sharing a n s.entries));
      overflow_time = cond s.overflow s.overflow_time 0;
      count = length (carried s a n);
    }

-- a reply with a count that reads as what is given, and past whose header stand the records given
pub record Holds {A : Type 0} (k : Kind) (read : List ℕ → A) (reply : List ℕ) (given : A) (rs : List ℕ) : Type 0 where
  pub fields : read reply ≡ given
  pub records : drop (header_size k) reply ≡ rs

-- ---- what a reply of each command that replies tells of the device, the payload and the time
-- Get Event Records: the log named, and its records, oldest first
abbrev pub EventsTold : DeviceState → (payload reply : List ℕ) → Type 0
EventsTold d p bs =
    Holds EventRecords read_event_records bs (record { code = success; place = 0; fields = log_told (log_at d.logs (get_or p 0 0)) })
    (joined (replied event_records (log_at d.logs (get_or p 0 0))))

-- Get Event Interrupt Policy: the settings
abbrev pub PolicyTold : DeviceState → (reply : List ℕ) → Type 0
PolicyTold d bs = read_policy bs ≡ record { code = success; settings = d.policy }

-- Get Timestamp: the device time
abbrev pub TimeTold : DeviceState → (time : ℕ) (reply : List ℕ) → Type 0
TimeTold d time bs = read_timestamp bs ≡ record { code = success; time = device_time d.clock time }

-- Get Supported Logs: one log, the Command Effects Log of the mailbox that asks with its size
pub record LogsTold (mailbox : Mailbox) (bs : List ℕ) : Type 0 where
  pub fields : read_supported_logs bs ≡ record { code = success; place = 0; count = 1 }
  pub log : supported_log (drop (header_size SupportedLogs) bs) 0 ≡ record { identifier = effects_log_id; size = effects_size mailbox }

-- Get Log: as many bytes of the log as were asked for, from the offset on
pub record LogTold (mailbox : Mailbox) (p bs : List ℕ) : Type 0 where
  pub size : read_log (log_length p) bs ≡ success
  pub bytes : bs ≡ part (log_offset p) (log_length p) (effects_log mailbox)

-- Identify: the units and document 01's numbers
abbrev pub IdentityTold : DeviceState → (reply : List ℕ) → Type 0
IdentityTold d bs = read_identity bs ≡ record { code = success; fields = identity_told d.volatile d.persistent }

-- Get Poison List: the entries that share a line with the range named, cut to it, as many as a reply carries
abbrev pub ListTold : DeviceState → (payload reply : List ℕ) → Type 0
ListTold d p bs =
    Holds PoisonList read_poison_list bs (record { code = success; place = 0; fields = list_told d.poison (line_of (field p 0 8)) (field p 8 8) })
    (records_bytes (carried d.poison (line_of (field p 0 8)) (field p 8 8)))
