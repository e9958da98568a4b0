-- Whatever command the device answers with Success, the host's reading of the reply accepts it, and gives what the device's definitions say (document 02, W-202).
-- Over any device whose numbers have their widths (`Plain`), any opcode, payload, time and room. The logs told of are those of the device that the command finds: a due Sanitize is ended first (document 02,
-- W-207). Assumes nothing.
use mathlib.Core.Path.{◌≡◌, refl, sym, ap, ◌∙◌}
use mathlib.Core.Bool.{Bool, true, false, cond}
use mathlib.Core.List.{List, [], ◌++◌}
use Prim.Native.Nat.{ℕ, ◌+◌, ◌^◌, ◌<◌}
use native.Mathlib.Omega.{arith}
use lib.Dec.{eqb, leb}
use lib.ListN.{length, get_or}
use borrow.Author.Tests.{leb-true, eqb-false, ne_eqb}
use Rattle.wire.specs.Wire.{le, number, part, field, same}
use Rattle.wire.specs.Returns.{need}
use Rattle.wire.proofs.Laws.{length_le, length_part, either}
use Rattle.poison.specs.State.{PoisonState}
use Rattle.events.specs.Log.{log_at}
use Rattle.events.proofs.Laws.{read_log as log_read}
use Rattle.commands.specs.Numbers.{mailbox_size, event_records}
use Rattle.mailbox.specs.State.{DeviceState, lines_of}
use Rattle.mailbox.specs.Ending.{ended}
use Rattle.settings.specs.Reply.{Reply, no_reply, replied as replied_bytes}
use Rattle.mailbox.specs.Outcome.{Outcome, changes}
use Rattle.commands.specs.Commands.{commands, rows_of}
use Rattle.settings.specs.Clock.{device_time, get_timestamp}
use Rattle.settings.specs.Policy.{get_policy}
use Rattle.commands.specs.EffectsLog.{effects_log, effects_log_id, effects_size, log_offset, log_length, get_supported_logs, part_of_log, get_log}
use Rattle.commands.specs.declared.mailboxes.Mailbox.{Mailbox}
use Rattle.commands.specs.declared.mailboxes.Mailbox.TheVariants.{First, Pool}
use Rattle.commands.specs.Identity.{version, limits, identify}
use Rattle.mailbox.specs.EventCommands.{get_event_records, clear_event_records}
use Rattle.list_commands.specs.PoisonCommands.{line_of, range_code, list_reply, get_poison_list, inject_adds}
use Rattle.mailbox.specs.Telling.{telling}
use Rattle.mailbox.specs.Mailbox.{run_command, inject, outcome}
use Rattle.mailbox.specs.Pool.{pool_answer}
use Rattle.mailbox.proofs.Laws.{accepted_runs, pool_replies}
use Rattle.host_replies.specs.declared.counted.Kind.TheVariants.{SupportedLogs}
use Rattle.host_replies.specs.Replies.{EventsRead, LogsRead, IdentityRead, ListRead, PolicyRead, TimeRead}
use Rattle.host_replies.specs.Counted.{header_size, record_size, first_reserved, reserved, writing_verdict}
use Rattle.host_replies.specs.Replies.{read_timestamp, read_supported_logs, logs_header, identity_limits, identity_bytes, read_identity, read_nothing, supported_log}
use Rattle.host_replies.specs.Fields.{IdentityWidths}
use Rattle.host_replies.specs.DeviceReplies.{reading_told, reading_code, Plain, Holds, EventsTold, PolicyTold, TimeTold, LogsTold, LogTold, IdentityTold, ListTold}
use Rattle.host_replies.specs.DeviceReplies as Told
use Rattle.wire.proofs.Splice.{number_read}
use Rattle.host_replies.proofs.Accepted.{policy_taken, time_taken, log_taken, nothing_taken}
use Rattle.host_replies.proofs.Rereading.{logs_reread, identity_reads}
use Rattle.host_replies.proofs.DeviceReplies.{log_holds, list_holds}
use Rattle.host_replies.proofs.PlainDevices.{plain_ended}

-- ---- the replies of no count, and that of Get Supported Logs
-- the device time has 64 bits
time_small : (d : DeviceState) (time : ℕ) → device_time d.clock time < 256 ^ 8
unfolding device_time
time_small d time = either (λ (x : ℕ). x < 256 ^ 8) d.clock.set (omega arith) (omega arith)

time_holds : (d : DeviceState) (time : ℕ) → read_timestamp (get_timestamp d.clock time).bytes ≡ record { code = 0; time = device_time d.clock time }
unfolding get_timestamp
time_holds d time =
    time_taken (le 8 (device_time d.clock time)) (length_le 8 (device_time d.clock time))
    ∙ ap (λ (x : ℕ). record { code = 0; time = x }) (number_read 8 (device_time d.clock time) (time_small d time))

-- one log, the Command Effects Log
logs_writable : (size : ℕ) → (writing_verdict SupportedLogs 1 (effects_log_id ++ le 4 size) 28).code ≡ 0
unfolding writing_verdict header_size record_size first_reserved reserved effects_log_id le
logs_writable size = refl

logs_hold : (m : Mailbox) → Holds SupportedLogs read_supported_logs (get_supported_logs m).bytes (record { code = 0; place = 0; count = 1 }) (effects_log_id ++ le 4 (effects_size m))
unfolding get_supported_logs logs_header le effects_log_id
logs_hold m = let r = logs_reread 1 (omega arith) (effects_log_id ++ le 4 (effects_size m)) 28 (logs_writable (effects_size m)) in record { fields = r.fields; records = r.records }

log_listed : (m : Mailbox) → supported_log (effects_log_id ++ le 4 (effects_size m)) 0 ≡ record { identifier = effects_log_id; size = effects_size m }
unfolding supported_log part field number effects_log_id effects_log rows_of commands le
log_listed First = refl
log_listed Pool = refl

identity_widths : (volatile persistent : ℕ) → volatile + persistent < 256 ^ 8 → IdentityWidths (Told.identity_told volatile persistent)
unfolding version
identity_widths volatile persistent small = omega arith

identity_holds : (volatile persistent : ℕ) → volatile + persistent < 256 ^ 8
    → read_identity (identify volatile persistent).bytes ≡ record { code = 0; fields = Told.identity_told volatile persistent }
unfolding identify version limits identity_bytes identity_limits le
identity_holds volatile persistent small = identity_reads (Told.identity_told volatile persistent) (identity_widths volatile persistent small) (omega arith)

-- ---- a reply given with number 0 is the one that its definition has
module _ (p : List ℕ) where
  log_given : (log : List ℕ) → (part_of_log log p).code ≡ 0 → ((part_of_log log p).bytes ≡ part (log_offset p) (log_length p) log) × (length (part_of_log log p).bytes ≡ log_length p)
  unfolding part_of_log
  log_given log z = go (same (part 0 16 p) effects_log_id) (leb (log_length p) mailbox_size) (leb (log_offset p + log_length p) (length log)) refl z
    where
      bytes : List ℕ
      bytes = part (log_offset p) (log_length p) log

      go : (a b c : Bool) → leb (log_offset p + log_length p) (length log) ≡ c
          → (need a (no_reply 23) (need b (no_reply 2) (need c (no_reply 2) (replied_bytes bytes)))).code ≡ 0
          → ((need a (no_reply 23) (need b (no_reply 2) (need c (no_reply 2) (replied_bytes bytes)))).bytes ≡ bytes)
          × (length (need a (no_reply 23) (need b (no_reply 2) (need c (no_reply 2) (replied_bytes bytes)))).bytes ≡ log_length p)
      go true true true q z = (refl, length_part (log_offset p) (log_length p) log (leb-true (log_offset p + log_length p) (length log) q))
      go true true false q z = absurd (omega arith)
      go true false c q z = absurd (omega arith)
      go false b c q z = absurd (omega arith)

  list_given : (lines : ℕ) (s : PoisonState) → (get_poison_list lines s p).code ≡ 0 → (get_poison_list lines s p).bytes ≡ list_reply s (line_of (field p 0 8)) (field p 8 8)
  unfolding get_poison_list
  list_given lines s z = go (eqb code 0) refl z
    where
      code : ℕ
      code = range_code lines (field p 0 8) (field p 8 8)

      bytes : List ℕ
      bytes = list_reply s (line_of (field p 0 8)) (field p 8 8)

      go : (b : Bool) → eqb code 0 ≡ b → (need b (no_reply code) (replied_bytes bytes)).code ≡ 0 → (need b (no_reply code) (replied_bytes bytes)).bytes ≡ bytes
      go true q z = refl
      go false q z = absurd (eqb-false code 0 q z)

-- ---- the commands, on the device that they find
module _ (d : DeviceState) (plain : Plain d) (p : List ℕ) (time : ℕ) (area : List ℕ) where
  events_given : (get_event_records d.logs p).code ≡ 0 → EventsTold d p (get_event_records d.logs p).bytes
  unfolding get_event_records
  events_given z =
      let k = log_read event_records d.logs (get_or p 0 0) z in
      rw k.1 (log_holds (log_at d.logs (get_or p 0 0)) (plain.logs (get_or p 0 0) k.0))

  logs_given : (m : Mailbox) → LogsTold m (get_supported_logs m).bytes
  logs_given m = record { fields = (logs_hold m).fields; log = rw (logs_hold m).records (log_listed m) }

  part_given : (m : Mailbox) → (get_log m p).code ≡ 0 → LogTold m p (get_log m p).bytes
  part_given m z = let k = log_given p (effects_log m) z in record { size = log_taken (get_log m p).bytes (log_length p) k.1; bytes = k.0 }

  range_given : (get_poison_list (lines_of d) d.poison p).code ≡ 0 → ListTold d p (get_poison_list (lines_of d) d.poison p).bytes
  range_given z = rw (list_given p (lines_of d) d.poison z) (list_holds d.poison plain.list (line_of (field p 0 8)) (field p 8 8))

  -- ---- every opcode
  -- a reply, and an outcome, that a reading accepts if its number is 0
  record AcceptsReply (read : List ℕ → ℕ) (o : Reply) : Type 0 where
    accepts : o.code ≡ 0 → read o.bytes ≡ 0

  record Accepts (read : List ℕ → ℕ) (o : Outcome) : Type 0 where
    accepts : o.code ≡ 0 → read o.reply ≡ 0

  -- those of one opcode, or those of the others
  told : (b : Bool) {r s : List ℕ → ℕ} {o q : Reply} → AcceptsReply r o → AcceptsReply s q → AcceptsReply (λ bs. cond b (r bs) (s bs)) (cond b o q)
  told true h k = record { accepts = h.accepts }
  told false h k = record { accepts = k.accepts }

  choice : (b : Bool) {r s : List ℕ → ℕ} {o q : Outcome} → Accepts r o → Accepts s q → Accepts (λ bs. cond b (r bs) (s bs)) (cond b o q)
  choice true h k = record { accepts = h.accepts }
  choice false h k = record { accepts = k.accepts }

  silent : (code : ℕ) (next : DeviceState) → Accepts read_nothing (changes code next)
  silent code next = record { accepts = λ z. nothing_taken [] refl }

  -- Inject Poison, whether or not it reports an event (document 02, W-204)
  injection_silent : Accepts read_nothing (inject d p time)
  unfolding inject
  injection_silent = either (Accepts read_nothing) (inject_adds (lines_of d) d.poison p) (record { accepts = λ z. nothing_taken [] refl }) (silent _ _)

  -- a command that both mailboxes have, to either of them (document 02, W-208)
  tells_accepts : (m : Mailbox) (op : ℕ) → AcceptsReply (reading_told op (log_length p)) (telling m d op p time)
  unfolding reading_told telling get_policy
  tells_accepts m op =
      told (eqb op 0x0100) (record { accepts = λ z. ap (λ (r : EventsRead). r.code) (events_given z).fields })
      (told (eqb op 0x0102) (record { accepts = λ z. ap (λ (r : PolicyRead). r.code) (policy_taken d.policy plain.policy) })
      (told (eqb op 0x0300) (record { accepts = λ z. ap (λ (r : TimeRead). r.code) (time_holds d time) })
      (told (eqb op 0x0400) (record { accepts = λ z. ap (λ (r : LogsRead). r.code) (logs_given m).fields })
      (told (eqb op 0x0401) (record { accepts = λ z. (part_given m z).size })
      (told (eqb op 0x4000) (record { accepts = λ z. ap (λ (r : IdentityRead). r.code) (identity_holds d.volatile d.persistent plain.units) })
      (told (eqb op 0x4300) (record { accepts = λ z. ap (λ (r : ListRead). r.code) (range_given z).fields })
      (record { accepts = λ z. absurd (omega arith) })))))))

  -- any command of the first mailbox but the label area's two. Sanitize is never answered Success (document 02, W-207: 0001h)
  run_accepts : (op : ℕ) → eqb op 0x4102 ≡ false → eqb op 0x4103 ≡ false → Accepts (reading_code op (log_length p)) (run_command d op p time area)
  unfolding reading_code run_command clear_event_records
  run_accepts op i j =
      rw (i, j)
      (choice (eqb op 0x0101) (silent _ _)
      (choice (eqb op 0x0103) (silent _ _)
      (choice (eqb op 0x0301) (silent _ _)
      (choice (eqb op 0x4301) injection_silent
      (choice (eqb op 0x4302) (silent _ _)
      (either (Accepts (reading_told op (log_length p))) (eqb op 0x4400) (record { accepts = λ z. absurd (omega arith) }) (record { accepts = (tells_accepts First op).accepts })))))))

-- ---- commands answered with Success
module _ (d : DeviceState) (plain : Plain d) (p : List ℕ) (time : ℕ) (area : List ℕ) (room : ℕ) where
  abbrev found : DeviceState
  found = ended d time

  still : Plain found
  still = plain_ended d time plain

  -- what holds of the reply of the opcode's command holds of the answer's
  answered : (op : ℕ) (P : List ℕ → Type 0) → ((run_command found op p time area).code ≡ 0 → P (run_command found op p time area).reply) → (outcome d op p time area room).code ≡ 0
      → P (outcome d op p time area room).reply
  answered op P f z = let r = accepted_runs found op p time area room z in rw r (f (sym (ap (λ (o : Outcome). o.code) r) ∙ z))

  -- THE THEOREM of the fields, a command each: on Success the reply tells what the device's definitions say.
  pub events_told : (outcome d 0x0100 p time area room).code ≡ 0 → EventsTold (ended d time) p (outcome d 0x0100 p time area room).reply
  unfolding run_command telling
  events_told = answered 0x0100 (EventsTold found p) (events_given found still p time area)

  pub policy_told : (outcome d 0x0102 p time area room).code ≡ 0 → PolicyTold d (outcome d 0x0102 p time area room).reply
  unfolding run_command telling get_policy
  policy_told = answered 0x0102 (PolicyTold d) (λ z. policy_taken d.policy plain.policy)

  pub time_told : (outcome d 0x0300 p time area room).code ≡ 0 → TimeTold d time (outcome d 0x0300 p time area room).reply
  unfolding run_command telling
  time_told = answered 0x0300 (TimeTold d time) (λ z. time_holds d time)

  pub logs_told : (outcome d 0x0400 p time area room).code ≡ 0 → LogsTold First (outcome d 0x0400 p time area room).reply
  unfolding run_command telling
  logs_told = answered 0x0400 (LogsTold First) (λ z. logs_given found still p time area First)

  pub log_told : (outcome d 0x0401 p time area room).code ≡ 0 → LogTold First p (outcome d 0x0401 p time area room).reply
  unfolding run_command telling
  log_told = answered 0x0401 (LogTold First p) (part_given found still p time area First)

  pub identity_told : (outcome d 0x4000 p time area room).code ≡ 0 → IdentityTold d (outcome d 0x4000 p time area room).reply
  unfolding run_command telling
  identity_told = answered 0x4000 (IdentityTold d) (λ z. identity_holds d.volatile d.persistent plain.units)

  pub list_told : (outcome d 0x4300 p time area room).code ≡ 0 → ListTold d p (outcome d 0x4300 p time area room).reply
  unfolding run_command telling
  list_told = answered 0x4300 (ListTold d p) (range_given found still p time area)

-- THE THEOREM of acceptance: every reply that the device gives on Success, to any opcode but those of the label area (the library reads the replies of document 01's twelve commands), is accepted by
-- the reading of that opcode's reply.
pub accepted : (d : DeviceState) → Plain d → (op : ℕ) → (op ≡ 0x4102 → ⊥) → (op ≡ 0x4103 → ⊥) → (p : List ℕ) (time : ℕ) (area : List ℕ) (room : ℕ) → (outcome d op p time area room).code ≡ 0
    → reading_code op (field p 20 4) (outcome d op p time area room).reply ≡ 0
accepted d plain op f g p time area room =
    answered d plain p time area room op (λ (bs : List ℕ). reading_code op (log_length p) bs ≡ 0)
    (run_accepts (ended d time) (plain_ended d time plain) p time area op (ne_eqb op 0x4102 f) (ne_eqb op 0x4103 g)).accepts

-- The same of the second mailbox (document 02, W-208): every reply that it gives on Success is accepted by the reading of that opcode's reply.
pub pool_accepted : (d : DeviceState) → Plain d → (op : ℕ) (p : List ℕ) (time room : ℕ) → (pool_answer d op p time room).code ≡ 0 → reading_told op (field p 20 4) (pool_answer d op p time room).bytes ≡ 0
pool_accepted d plain op p time room z =
    let t = pool_replies d op p time room z in
    rw t ((tells_accepts d plain p time [] Pool op).accepts (sym (ap (λ (r : Reply). r.code) t) ∙ z))
