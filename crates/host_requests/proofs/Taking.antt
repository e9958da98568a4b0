-- A request built and then taken by the device is the one meant (document 02, W-202): its payload passes the checks before a command's own, the device's own
-- definitions read the fields given out of it, and the outcome on any device is that of the request by its fields, on the device that the call finds (document 02, W-207). Assumes nothing.
use mathlib.Core.Path.{◌≡◌, refl, sym, ap, ap₂, ◌∙◌}
use mathlib.Core.Bool.{Bool, true, false, not, ◌&&◌, ◌||◌, cond}
use mathlib.Core.List.{List, [], ◌++◌}
use Prim.Native.Nat.{ℕ, ◌+◌, ◌*◌, ◌%◌, ◌^◌, ◌≤◌, ◌<◌}
use native.Mathlib.Omega.{arith}
use native.Mathlib.Decide.{ℕ_discrete}
use lib.Dec.{eqb, leb, ltb}
use lib.ListN.{length, take, drop, get_or, length-append}
use lib.Seq.{take_at}
use borrow.Author.Tests.{le-leb, leb-true, eq-eqb, ne_eqb, eqb-true}
use Rattle.wire.specs.Wire.{le, splice}
use Rattle.wire.specs.Returns.{success, invalid_input, media_disabled, invalid_length, small_buffer, need}
use Rattle.wire.proofs.Laws.{length_le, part_whole}
use Rattle.wire.proofs.Splice.{field_front, field_past, number_read, part_front, part_past}
use Rattle.events.specs.Log.{LogState, log_at}
use Rattle.events.specs.Get as Get
use Rattle.events.specs.Clear as Clear
use Rattle.events.specs.Clear.{ClearedState, all_flag, other_flags, count_field, handles_at, clear_payload, clear_code, clear_log_code, clear_size, clear_log, clear_taken}
use Rattle.events.proofs.Laws.{payload_length, payload_log, payload_flags, payload_count, payload_reserved, payload_handles}
use Rattle.labels.specs.Labels.{label_size}
use Rattle.commands.specs.Numbers.{mailbox_size, event_records}
use Rattle.mailbox.specs.State.{DeviceState, lines_of, with_policy, with_logs, with_poison}
use Rattle.mailbox.specs.Ending.{ended}
use Rattle.settings.specs.Policy.{known_modes, set_policy, set_interrupt_policy}
use Rattle.settings.specs.Reply.{replied, no_reply}
use Rattle.mailbox.specs.Outcome.{Outcome, reads, changes, refused}
use Rattle.commands.specs.Commands.{commands, rows_of, checked, admission, while_disabled, blocked}
use Rattle.settings.specs.Clock as Clock
use Rattle.mailbox.specs.EventCommands as Events
use Rattle.commands.specs.EffectsLog as Logs
use Rattle.list_commands.specs.PoisonCommands as Poison
use Rattle.list_commands.specs.PoisonCommands.{ListChange}
use Rattle.settings.specs.Clock.{device_time}
use Rattle.poison.specs.Runs.{slots}
use Rattle.poison.specs.State.{PoisonState, covers}
use Rattle.poison.specs.Inject.{with_entry}
use Rattle.poison.specs.Clear.{after_clear}
use Rattle.mailbox.specs.DeviceCalls.{EventOutcome, event_answer}
use Rattle.mailbox.specs.Telling.{telling}
use Rattle.mailbox.specs.Mailbox.{changes_policy, changes_list, reports, inject, run_command, answer}
use Rattle.commands.proofs.Laws.{first_admitted}
use Rattle.mailbox.proofs.Laws.{allowed_runs, clear_events_admitted}
use Rattle.wire.specs.declared.done.Done.{Done}
use Rattle.wire.specs.Done.{Written, Writes, written}
use Rattle.wire.specs.Done as Room
use Rattle.host_requests.specs.Requests.{Request, opcode, payload, countable, build}
use Rattle.host_requests.specs.Requests as Q
use Rattle.host_requests.specs.Meant.{meant, FieldsRead, Widths, Taken, cleared, clearing, clearing_code}

-- a request whose payload passes the checks of document 01's order, and which the device that it finds answers as it is meant
answering : (q : Request) → ((room : ℕ) → mailbox_size ≤ room → admission (opcode q) (length (payload q)) label_size room ≡ 0) → FieldsRead q (payload q)
    → ((d : DeviceState) (time : ℕ) (area : List ℕ) (room : ℕ) → admission (opcode q) (length (payload q)) (length area) room ≡ 0
    → answer d (opcode q) (payload q) time area room ≡ meant q d time)
    → Taken q
answering q a f r =
    record {
      admitted = a;
      fields = f;
      outcome = λ d time area sized room h. r (ended d time) time area room (ap (λ (n : ℕ). admission (opcode q) (length (payload q)) n room) sized ∙ a room h);
    }

-- one that media disabled allows, and which the command takes as it is meant
taking : (q : Request) → while_disabled (opcode q) ≡ 0 → ((room : ℕ) → mailbox_size ≤ room → admission (opcode q) (length (payload q)) label_size room ≡ 0) → FieldsRead q (payload q)
    → ((d : DeviceState) (time : ℕ) (area : List ℕ) → run_command d (opcode q) (payload q) time area ≡ meant q d time) → Taken q
taking q free a f r = answering q a f (λ d time area room z. allowed_runs d (opcode q) (payload q) time area room free z ∙ r d time area)

-- 0007h while media is disabled (document 02, W-207), else the outcome
abbrev if_enabled : DeviceState → Outcome → Outcome
if_enabled d o = need (not d.media.disabled) (refused media_disabled d) o

-- one that gets 0007h so, and which else the command takes as it is meant
taking_enabled : (q : Request) → while_disabled (opcode q) ≡ media_disabled → ((room : ℕ) → mailbox_size ≤ room → admission (opcode q) (length (payload q)) label_size room ≡ 0)
    → FieldsRead q (payload q)
    → ((d : DeviceState) (time : ℕ) (area : List ℕ) → if_enabled d (run_command d (opcode q) (payload q) time area) ≡ meant q d time) → Taken q
unfolding answer
taking_enabled q bars a f r = answering q a f (λ d time area room z. rw (sym (first_admitted d.media.disabled (opcode q) (length (payload q)) (length area) room z)) (by_media d _ d.media.disabled) ∙ r d time area)
  where
    by_media : (d : DeviceState) (o : Outcome) (disabled : Bool)
        → need (eqb (blocked disabled (opcode q)) 0) (refused (blocked disabled (opcode q)) d) o ≡ need (not disabled) (refused media_disabled d) o
    by_media d o true = rw bars
    by_media d o false = refl

-- ---- Get Event Records
abbrev got : Bool → List ℕ → Get.GetOutcome
got b x = cond (eqb (cond b success invalid_input) success) (record { code = success; reply = x }) (record { code = cond b success invalid_input; reply = [] })

got_meant : (b : Bool) (x : List ℕ) (d : DeviceState) → reads d (record { code = (got b x).code; bytes = (got b x).reply }) ≡ reads d (need b (no_reply invalid_input) (replied x))
got_meant true x d = refl
got_meant false x d = refl

get_taken : (log : ℕ) → log < 256 → Taken (Q.get_event_records log)
unfolding opcode payload admission checked commands rows_of while_disabled run_command telling Events.get_event_records Get.get_event_records Get.get_code meant le
get_taken log small =
    let e : log % 256 ≡ log = omega arith in
    taking (Q.get_event_records log) refl (λ room h. rw (le-leb mailbox_size room h)) e (λ d time area. rw e (got_meant (ltb log 5) (Get.reply_bytes event_records (log_at d.logs log)) d))

-- ---- requests with no payload
plain_policy : Taken Q.get_event_interrupt_policy
unfolding opcode payload admission checked commands rows_of while_disabled run_command telling meant
plain_policy = taking Q.get_event_interrupt_policy refl (λ room h. rw (le-leb mailbox_size room h)) refl (λ d time area. refl)

plain_time : Taken Q.get_timestamp
unfolding opcode payload admission checked commands rows_of while_disabled run_command telling meant
plain_time = taking Q.get_timestamp refl (λ room h. rw (le-leb mailbox_size room h)) refl (λ d time area. refl)

plain_logs : Taken Q.get_supported_logs
unfolding opcode payload admission checked commands rows_of while_disabled run_command telling meant
plain_logs = taking Q.get_supported_logs refl (λ room h. rw (le-leb mailbox_size room h)) refl (λ d time area. refl)

plain_identify : Taken Q.identify
unfolding opcode payload admission checked commands rows_of while_disabled run_command telling meant
plain_identify = taking Q.identify refl (λ room h. rw (le-leb mailbox_size room h)) refl (λ d time area. refl)

-- ---- one number
set_time_taken : (value : ℕ) → value < 256 ^ 8 → Taken (Q.set_timestamp value)
unfolding opcode payload admission checked commands rows_of while_disabled run_command telling meant Clock.set_timestamp
set_time_taken value small =
    taking (Q.set_timestamp value) refl (λ room h. rw (length_le 8 value, le-leb mailbox_size room h)) (number_read 8 value small)
    (λ d time area. rw (number_read 8 value small))

-- ---- settings
set_meant : (b : Bool) (new : List ℕ) (d : DeviceState)
    → changes_policy d (need b (record { code = invalid_input; policy = d.policy }) (record { code = success; policy = new }))
    ≡ need b (refused invalid_input d) (changes success (with_policy d new))
set_meant true new d = refl
set_meant false new d = refl

settings_taken : (settings : List ℕ) → countable (Q.set_event_interrupt_policy settings) ≡ true → Taken (Q.set_event_interrupt_policy settings)
unfolding opcode payload admission checked commands rows_of while_disabled run_command telling set_interrupt_policy meant countable
settings_taken settings c =
    taking (Q.set_event_interrupt_policy settings) refl (λ room h. go room h (ℕ_discrete (length settings) 4)) refl
    (λ d time area. set_meant (known_modes settings) (set_policy d.policy settings) d)
  where
    go : (room : ℕ) → mailbox_size ≤ room → Dec (length settings ≡ 4) → admission 0x0103 (length settings) label_size room ≡ 0
    go room h (yes e) = rw (e, le-leb mailbox_size room h)
    go room h (no f) = let e : length settings ≡ 5 = eqb-true _ _ (rw (ne_eqb (length settings) 4 f) at c) in rw (e, le-leb mailbox_size room h)

-- ---- Get Log
log_fields : (id : List ℕ) (offset size : ℕ) → length id ≡ 16 → offset < 256 ^ 4 → size < 256 ^ 4 → FieldsRead (Q.get_log id offset size) (payload (Q.get_log id offset size))
unfolding payload
log_fields id offset size e ho hs = (
  part_front 0 16 (id ++ le 4 offset) (le 4 size) (simp (length-append, length_le) (omega arith)) ∙ part_front 0 16 id (le 4 offset) (omega arith) ∙ part_whole 16 id e,
  field_front 16 4 (id ++ le 4 offset) (le 4 size) (simp (length-append, length_le) (omega arith)) ∙ field_past 0 4 16 id (le 4 offset) (omega arith) ∙ number_read 4 offset ho,
  field_past 0 4 20 (id ++ le 4 offset) (le 4 size) (simp (length-append, length_le) (omega arith)) ∙ number_read 4 size hs,
)

log_taken : (id : List ℕ) (offset size : ℕ) → length id ≡ 16 → offset < 256 ^ 4 → size < 256 ^ 4 → Taken (Q.get_log id offset size)
unfolding opcode payload admission checked commands rows_of while_disabled run_command telling meant Logs.part_of_log
log_taken id offset size e ho hs =
    let f = log_fields id offset size e ho hs in
    let l : length (id ++ le 4 offset ++ le 4 size) ≡ 24 = simp (length-append, length_le) (omega arith) in
    taking (Q.get_log id offset size) refl (λ room h. rw (l, le-leb mailbox_size room h)) f (λ d time area. rw (f.0, f.1, f.2))

-- ---- the poison commands
list_fields : (address lines : ℕ) → address < 256 ^ 8 → lines < 256 ^ 8 → FieldsRead (Q.get_poison_list address lines) (payload (Q.get_poison_list address lines))
unfolding payload
list_fields address lines ha hl =
    (field_front 0 8 (le 8 address) (le 8 lines) (simp length_le (omega arith)) ∙ number_read 8 address ha, field_past 0 8 8 (le 8 address) (le 8 lines) (simp length_le) ∙ number_read 8 lines hl)

list_taken : (address lines : ℕ) → address < 256 ^ 8 → lines < 256 ^ 8 → Taken (Q.get_poison_list address lines)
unfolding opcode payload admission checked commands rows_of while_disabled run_command telling meant Poison.get_poison_list
list_taken address lines ha hl =
    let f = list_fields address lines ha hl in
    let l : length (le 8 address ++ le 8 lines) ≡ 16 = simp (length-append, length_le) in
    taking (Q.get_poison_list address lines) refl (λ room h. rw (l, le-leb mailbox_size room h)) f (λ d time area. rw (f.0, f.1))

-- the tests of the definition and of what is meant are the same: an injection, where x is the list with the line's entry added, v says that the line is covered, w that
-- there is room for an entry and z that the line's checks pass, and e reports the event
inject_meant : (d : DeviceState) (c : ℕ) (x : PoisonState) (e : DeviceState → EventOutcome) (v w z : Bool)
    → let l : ListChange = need z (record { code = c; list = d.poison }) (need (v || w) (record { code = 16; list = d.poison }) (record { code = 0; list = cond v d.poison x })) in
    cond (need z false (not v && w)) (reports 0 (e (with_poison d l.list))) (changes_list d l)
    ≡ need z (refused c d) (need (v || w) (refused 16 d) (need (not v && w) (changes 0 d) (reports 0 (e (with_poison d (cond v d.poison x))))))
inject_meant d c x e v w false = refl
inject_meant d c x e true w true = refl
inject_meant d c x e false true true = refl
inject_meant d c x e false false true = refl

inject_taken : (address : ℕ) → address < 256 ^ 8 → Taken (Q.inject_poison address)
unfolding opcode payload admission checked commands rows_of while_disabled run_command telling meant inject Poison.inject_poison Poison.inject_adds
inject_taken address ha =
    let f = number_read 8 address ha in
    let k = Poison.line_of address in
    taking_enabled (Q.inject_poison address) refl (λ room h. rw (length_le 8 address, le-leb mailbox_size room h)) f
    (λ d time area. rw f
    (ap (if_enabled d)
    (inject_meant d (Poison.line_code (lines_of d) address) (with_entry d.poison k) (λ (y : DeviceState). event_answer y time 0 (Poison.injection_record address))
    (covers d.poison.entries k) (ltb (length d.poison.entries) slots) (eqb (Poison.line_code (lines_of d) address) 0))))

clear_meant : (d : DeviceState) (c k t : ℕ) (z : Bool) → z ≡ eqb c 0
    → changes_list d (need z (record { code = c; list = d.poison }) (record { code = 0; list = after_clear d.poison k t }))
    ≡ need z (refused c d) (changes 0 (with_poison d (after_clear d.poison k t)))
clear_meant d c k t true e = refl
clear_meant d c k t false e = refl

clear_fields : (address : ℕ) (bs : List ℕ) → address < 256 ^ 8 → length bs ≡ 64 → FieldsRead (Q.clear_poison address bs) (payload (Q.clear_poison address bs))
unfolding payload
clear_fields address bs ha e =
    (field_front 0 8 (le 8 address) bs (simp length_le (omega arith)) ∙ number_read 8 address ha, part_past 0 64 8 (le 8 address) bs (simp length_le) ∙ part_whole 64 bs e)

poison_taken : (address : ℕ) (bs : List ℕ) → address < 256 ^ 8 → length bs ≡ 64 → Taken (Q.clear_poison address bs)
unfolding opcode payload admission checked commands rows_of while_disabled run_command telling meant Poison.clear_poison
poison_taken address bs ha e =
    let f = clear_fields address bs ha e in
    let l : length (le 8 address ++ bs) ≡ 72 = simp (length-append, length_le) (omega arith) in
    taking_enabled (Q.clear_poison address bs) refl (λ room h. rw (l, le-leb mailbox_size room h)) f
    (λ d time area. rw f.0 (ap (if_enabled d) (clear_meant d (Poison.line_code (lines_of d) address) (Poison.line_of address) (device_time d.clock time) _ refl)))

-- ---- Clear Event Records
module _ (log flags : ℕ) (hs : List ℕ) (hl : log < 256) (hf : flags < 256) (small : (i : ℕ) → i < length hs → get_or hs i 0 < 65536) (few : length hs ≤ 255) where
  abbrev built : List ℕ
  built = clear_payload log flags hs

  counted : count_field built ≡ length hs
  counted = payload_count log flags hs (omega arith)

  handled : handles_at (count_field built) 6 built ≡ hs
  handled = ap (λ (n : ℕ). handles_at n 6 built) counted ∙ payload_handles log flags hs small

  -- the clear of one log, by the payload and by its fields
  code_meant : (s : LogState) → clear_log_code s built ≡ clearing_code s (all_flag flags) hs
  unfolding clear_log_code
  code_meant s = rw (payload_flags log flags hs hf, handled, counted)

  log_meant : (s : LogState) → clear_log s built ≡ clearing s (all_flag flags) hs
  unfolding clear_log clear_size
  log_meant s = rw (code_meant s, payload_flags log flags hs hf, counted)

  -- the checks before it leave that of the flags and that of the log's number
  checks_meant : clear_code built ≡ need (eqb (other_flags flags) 0) invalid_input (need (ltb log 5) invalid_input success)
  unfolding clear_code
  checks_meant =
      let e : length built ≡ 6 + 2 * count_field built = payload_length log flags hs ∙ ap (λ (n : ℕ). 6 + 2 * n) (sym counted) in
      rw (eq-eqb (length built) (6 + 2 * count_field built) e, payload_reserved log flags hs hf, payload_log log flags hs hl)

  by_number : (d : DeviceState) (a b : Bool) (c : ClearedState) (n : ℕ) → n ≡ need a invalid_input (need b invalid_input success)
      → changes (cond (eqb n success) (clear_taken d.logs log c) (record { code = n; logs = d.logs })).code
      (with_logs d (cond (eqb n success) (clear_taken d.logs log c) (record { code = n; logs = d.logs })).logs)
      ≡ need a (refused invalid_input d) (need b (refused invalid_input d) (cleared d log c))
  by_number d true true c n e = rw e
  by_number d true false c n e = rw e
  by_number d false b c n e = rw e

  events_meant : (d : DeviceState) (time : ℕ) (area : List ℕ) → run_command d 0x0101 built time area ≡ meant (Q.clear_event_records log flags hs) d time
  unfolding run_command meant Events.clear_event_records Clear.clear_event_records
  events_meant d time area =
      rw (payload_log log flags hs hl, log_meant (log_at d.logs log))
      (by_number d (eqb (other_flags flags) 0) (ltb log 5) (clearing (log_at d.logs log) (all_flag flags) hs) (clear_code built) checks_meant)

  events_taken : Taken (Q.clear_event_records log flags hs)
  unfolding opcode payload while_disabled
  events_taken =
      let L = payload_length log flags hs in
      taking (Q.clear_event_records log flags hs) refl (λ room h. clear_events_admitted (length built) room h (omega (arith, L)) (omega (arith, L)))
      (payload_log log flags hs hl, payload_flags log flags hs hf, counted, payload_handles log flags hs small) events_meant

-- ---- the theorem
pub taken : (q : Request) → countable q ≡ true → Widths q → Taken q
unfolding countable
taken (Q.get_event_records log) c w = get_taken log w
taken (Q.clear_event_records log flags handles) c w = events_taken log flags handles w.0 w.1 w.2 (leb-true _ _ c)
taken Q.get_event_interrupt_policy c w = plain_policy
taken (Q.set_event_interrupt_policy settings) c w = settings_taken settings c
taken Q.get_timestamp c w = plain_time
taken (Q.set_timestamp value) c w = set_time_taken value w
taken Q.get_supported_logs c w = plain_logs
taken (Q.get_log identifier offset size) c w = log_taken identifier offset size (eqb-true _ _ c) w.0 w.1
taken Q.identify c w = plain_identify
taken (Q.get_poison_list address lines) c w = list_taken address lines w.0 w.1
taken (Q.inject_poison address) c w = inject_taken address w
taken (Q.clear_poison address bytes) c w = poison_taken address bytes w (eqb-true _ _ c)

-- ---- the same of what the code built: where it answers 0, the bytes that it wrote at the front of the room are the payload of a request that the device takes as meant
build_zero : (q : Request) (room : ℕ) → (build q room).code ≡ 0 → (build q room ≡ written (payload q)) × (countable q ≡ true)
unfolding build
build_zero q room z = go (leb (length (payload q)) room) (countable q) refl z
  where
    go : (b c : Bool) → countable q ≡ c → (need b (Room.refused small_buffer) (need c (Room.refused invalid_length) (written (payload q)))).code ≡ 0
        → (need b (Room.refused small_buffer) (need c (Room.refused invalid_length) (written (payload q))) ≡ written (payload q)) × (countable q ≡ true)
    go true true e z = (refl, e)
    go true false e z = absurd (omega arith)
    go false c e z = absurd (omega arith)

pub built_taken : (q : Request) → Widths q → {r : Done} {before after : List ℕ} → Writes (build q (length before)) r before after → r.code ≡ 0
    → (take r.length after ≡ payload q) × Taken q
unfolding splice
built_taken q w {r} {before} {after} b z =
    let t = build_zero q (length before) (sym b.code ∙ z) in
    let bytes = ap (λ (x : Written). x.bytes) t.0 in
    let all : after ≡ payload q ++ drop (0 + length (payload q)) before = b.bytes ∙ ap (λ (l : List ℕ). splice 0 l before) bytes in (
      ap₂ (λ (n : ℕ) (l : List ℕ). take n l) (b.size ∙ ap length bytes) all ∙ take_at (payload q) (drop (0 + length (payload q)) before) (length (payload q)) refl,
      taken q t.1 w,
    )
