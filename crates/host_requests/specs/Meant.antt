-- What each request means, by its fields and without a byte of its payload: the definitions of the layers below that document 01's sentences have, one beside
-- another (document 02, W-202: "a request built and then taken by the device is the one meant"). Assumes nothing.
use Rattle.std.specs.Prelude.{ℕ, ◌+◌, ◌≤◌, ◌<◌, ◌^◌, ◌≡◌, Bool, true, not, cond, List, eqb, ltb, leb, length, get_or}
use Rattle.wire.specs.Wire.{part, field, same}
use Rattle.wire.specs.Returns.{success, invalid_input, media_disabled, invalid_log, inject_limit, need}
use Rattle.poison.specs.Inject.{injects, adds, after_inject}
use Rattle.poison.specs.Clear.{after_clear}
use Rattle.events.specs.Log.{LogState, log_at}
use Rattle.events.specs.Get.{reply_bytes}
use Rattle.events.specs.Clear.{ClearedState, all_flag, other_flags, mismatch, mismatch_code, without, clear_taken}
use Rattle.events.specs.Clear.{log_field, count_field, handles_at}
use Rattle.labels.specs.Labels.{label_size}
use Rattle.commands.specs.Numbers.{mailbox_size, event_records}
use Rattle.mailbox.specs.State.{DeviceState, lines_of, with_clock, with_policy, with_logs, with_poison}
use Rattle.mailbox.specs.Ending.{ended}
use Rattle.settings.specs.Reply.{Reply, replied, no_reply}
use Rattle.mailbox.specs.Outcome.{Outcome, reads, changes, refused}
use Rattle.settings.specs.Clock.{device_time}
use Rattle.settings.specs.Clock as Clock
use Rattle.settings.specs.Policy.{get_policy, known_modes, set_policy}
use Rattle.commands.specs.EffectsLog.{effects_log, effects_log_id, effects_size, log_offset, log_length}
use Rattle.commands.specs.EffectsLog as Logs
use Rattle.commands.specs.Identity as Identity
use Rattle.commands.specs.declared.mailboxes.Mailbox.TheVariants.{First}
use Rattle.list_commands.specs.PoisonCommands.{line_of, line_code, range_code, list_reply, injection_record}
use Rattle.commands.specs.Commands.{admission}
use Rattle.mailbox.specs.DeviceCalls.{event_answer}
use Rattle.mailbox.specs.Mailbox.{reports, outcome}
use Rattle.host_requests.specs.Requests.{Request, get_event_records, clear_event_records, get_event_interrupt_policy, set_event_interrupt_policy, get_timestamp, set_timestamp, get_supported_logs, get_log, identify, get_poison_list, inject_poison, clear_poison, opcode, payload}

-- ---- the rules of document 01 by fields
-- Get Event Records of a log: "log above 4, 0002h"
abbrev pub records_of : DeviceState → ℕ → Reply
records_of d log = need (ltb log 5) (no_reply invalid_input) (replied (reply_bytes event_records (log_at d.logs log)))

-- Clear Event Records of one log by flags and handles: "Clear All set with n not 0 (house) or with overflow count 0, 0002h; otherwise handle i must be that of the
-- i-th oldest record, 000Eh"
abbrev pub clearing_code : LogState → Bool → List ℕ → ℕ
clearing_code s all handles =
    cond all
    (need (eqb (length handles) 0) invalid_input (need (ltb 0 s.overflow_count) invalid_input success))
    (mismatch_code (mismatch s.held handles 0))

-- "Clear All empties the log. Else the n oldest go."
abbrev pub clearing : LogState → Bool → List ℕ → ClearedState
clearing s all handles =
    need (eqb (clearing_code s all handles) success) (record { code = clearing_code s all handles; log = s })
    (record { code = success; log = without (cond all (length s.held) (length handles)) s })

-- the device with that log cleared, or the refusal
abbrev pub cleared : DeviceState → ℕ → ClearedState → Outcome
cleared d log c = changes c.code (with_logs d (clear_taken d.logs log c).logs)

-- Get Log, of the effects log of the first mailbox (document 02, W-208): "other identifier 0017h; length over 2,048 or offset plus length over the size, 0002h; reply those bytes"
abbrev pub part_of_log : List ℕ → ℕ → ℕ → Reply
part_of_log identifier offset size =
    need (same identifier effects_log_id) (no_reply invalid_log)
    (need (leb size mailbox_size) (no_reply invalid_input)
    (need (leb (offset + size) (effects_size First)) (no_reply invalid_input)
    (replied (part offset size (effects_log First)))))

-- Get Poison List of lines from an address on: "unaligned 0002h; end past the device 000Fh"
abbrev pub list_of : DeviceState → ℕ → ℕ → Reply
list_of d address n =
    need (eqb (range_code (lines_of d) address n) success) (no_reply (range_code (lines_of d) address n))
    (replied (list_reply d.poison (line_of address) n))

-- Inject Poison at an address: while media is disabled, 0007h, "after the length check" (document 02, W-207) and so before its own checks; "unaligned 0002h; outside 000Fh; covered, Success and nothing
-- changes; 256 held, 0010h"; "an Inject Poison that adds an entry also reports an event to log 0" (document 02, W-204)
abbrev pub injected : DeviceState → ℕ → ℕ → Outcome
injected d address time =
    need (not d.media.disabled) (refused media_disabled d)
    (need (eqb (line_code (lines_of d) address) success) (refused (line_code (lines_of d) address) d)
    (need (injects d.poison (line_of address)) (refused inject_limit d)
    (need (adds d.poison (line_of address)) (changes success d)
    (reports success (event_answer (with_poison d (after_inject d.poison (line_of address))) time 0 (injection_record address))))))

-- Clear Poison at an address: while media is disabled, 0007h (document 02, W-207), likewise; "unaligned 0002h; outside 000Fh"
abbrev pub poison_cleared : DeviceState → ℕ → ℕ → Outcome
poison_cleared d address time =
    need (not d.media.disabled) (refused media_disabled d)
    (need (eqb (line_code (lines_of d) address) success) (refused (line_code (lines_of d) address) d)
    (changes success (with_poison d (after_clear d.poison (line_of address) (device_time d.clock time)))))

-- ---- what a request means on the device that it finds, at the caller's time. Of Clear Event Records a flag bit 1 to 7 set is 0002h, and of Set Event Interrupt Policy a mode of 2 or 3 (document
-- 02, W-205); a request has no field for the reserved bytes.
unfoldable pub meant : Request → DeviceState → ℕ → Outcome
meant (get_event_records log) d time = reads d (records_of d log)
meant (clear_event_records log flags handles) d time =
    need (eqb (other_flags flags) 0) (refused invalid_input d)
    (need (ltb log 5) (refused invalid_input d) (cleared d log (clearing (log_at d.logs log) (all_flag flags) handles)))
meant get_event_interrupt_policy d time = reads d (get_policy d.policy)
meant (set_event_interrupt_policy settings) d time =
    need (known_modes settings) (refused invalid_input d) (changes success (with_policy d (set_policy d.policy settings)))
meant get_timestamp d time = reads d (Clock.get_timestamp d.clock time)
meant (set_timestamp value) d time = changes success (with_clock d (record { set = true; value = value; since = time }))
meant get_supported_logs d time = reads d (Logs.get_supported_logs First)
meant (get_log identifier offset size) d time = reads d (part_of_log identifier offset size)
meant identify d time = reads d (Identity.identify d.volatile d.persistent)
meant (get_poison_list address lines) d time = reads d (list_of d address lines)
meant (inject_poison address) d time = injected d address time
meant (clear_poison address bytes) d time = poison_cleared d address time

-- ---- what the device's own definitions read out of the payload
abbrev pub FieldsRead : Request → List ℕ → Type 0
FieldsRead (get_event_records log) p = get_or p 0 0 ≡ log
FieldsRead (clear_event_records log flags handles) p =
    (log_field p ≡ log) × (get_or p 1 0 ≡ flags) × (count_field p ≡ length handles) × (handles_at (length handles) 6 p ≡ handles)
FieldsRead get_event_interrupt_policy p = length p ≡ 0
FieldsRead (set_event_interrupt_policy settings) p = p ≡ settings
FieldsRead get_timestamp p = length p ≡ 0
FieldsRead (set_timestamp value) p = field p 0 8 ≡ value
FieldsRead get_supported_logs p = length p ≡ 0
FieldsRead (get_log identifier offset size) p = (part 0 16 p ≡ identifier) × (log_offset p ≡ offset) × (log_length p ≡ size)
FieldsRead identify p = length p ≡ 0
FieldsRead (get_poison_list address lines) p = (field p 0 8 ≡ address) × (field p 8 8 ≡ lines)
FieldsRead (inject_poison address) p = field p 0 8 ≡ address
FieldsRead (clear_poison address bytes) p = (field p 0 8 ≡ address) × (part 8 64 p ≡ bytes)

-- ---- numbers of the widths that document 01 gives them, as the types of the code's arguments have them
abbrev pub Widths : Request → Type 0
Widths (get_event_records log) = log < 256
Widths (clear_event_records log flags handles) = (log < 256) × (flags < 256) × ((i : ℕ) → i < length handles → get_or handles i 0 < 65536)
Widths get_event_interrupt_policy = Unit {0}
Widths (set_event_interrupt_policy settings) = Unit {0}
Widths get_timestamp = Unit {0}
Widths (set_timestamp value) = value < 256 ^ 8
Widths get_supported_logs = Unit {0}
Widths (get_log identifier offset size) = (offset < 256 ^ 4) × (size < 256 ^ 4)
Widths identify = Unit {0}
Widths (get_poison_list address lines) = (address < 256 ^ 8) × (lines < 256 ^ 8)
Widths (inject_poison address) = address < 256 ^ 8
Widths (clear_poison address bytes) = address < 256 ^ 8

-- ---- the theorem's statement: the payload passes the checks before a command's own that are the same on every device, its fields are those given, and the outcome on any device is the one meant on the device
-- that the call finds (a due Sanitize is ended first: document 02, W-207), whatever label area of 4,096 bytes is lent (none of the twelve sees it)
pub record Taken (q : Request) : Type 0 where
  pub admitted : (room : ℕ) → mailbox_size ≤ room → admission (opcode q) (length (payload q)) label_size room ≡ success
  pub fields : FieldsRead q (payload q)
  pub outcome : (d : DeviceState) (time : ℕ) (area : List ℕ) → length area ≡ label_size → (room : ℕ) → mailbox_size ≤ room → outcome d (opcode q) (payload q) time area room ≡ meant q (ended d time) time
