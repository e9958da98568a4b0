-- Demand 1: what is refused gives nothing and changes nothing. Shown of the definitions that the contracts cite, for every command and for every device-side
-- call that has a number: the "device as it was" is the device that the end of a due Sanitize leaves (document 02, W-207). A refusal is a number other than 0000h and 0001h (`Refused`). Assumes nothing.
use mathlib.Core.Path.{◌≡◌, refl, sym, ap, ◌∙◌, subst}
use mathlib.Core.Bool.{false, ◌&&◌}
use mathlib.Core.List.{List, []}
use Prim.Native.Nat.{ℕ, ◌+◌}
use native.Mathlib.Omega.{arith}
use lib.Dec.{eqb, leb}
use lib.ListN.{length}
use Rattle.wire.specs.Wire.{field, splice}
use Rattle.poison.specs.State.{PoisonState}
use Rattle.poison.specs.Inject.{injects}
use Rattle.mailbox.specs.LineStatus.{status_number}
use Rattle.mailbox.specs.declared.line_status.LineStatus.{LineStatus}
use Rattle.mailbox.specs.declared.line_status.LineStatus.TheVariants.{Clean, Damaged, Unknown, Disabled}
use Rattle.mailbox.specs.Ending.{ended, Ends, AfterEnding}
use Rattle.events.proofs.Laws.{refused_report_changes_nothing, refused_clear_changes_nothing}
use Rattle.mailbox.specs.State.{DeviceState, lines_of, with_policy, with_logs, with_poison, state_of}
use Rattle.mailbox.specs.declared.device.Device.{Device}
use Rattle.mailbox.specs.declared.device.Answer.{Answer}
use Rattle.mailbox.specs.declared.device.Made.{Made}
use Rattle.mailbox.specs.declared.device_calls.EventAnswer.{EventAnswer}
use Rattle.mailbox.specs.declared.device_calls.MediaAnswer.{MediaAnswer}
use Rattle.mailbox.specs.declared.device_calls.LineAnswer.{LineAnswer}
use Rattle.std.specs.Prelude.{None}
use Rattle.settings.specs.Vector.{no_vector, raised}
use Rattle.mailbox.specs.Relations.{Answered, Makes, EventDone, MediaDone, LineDone}
use Rattle.wire.specs.Returns.{invalid_input, started, Refused}
use Rattle.wire.proofs.Laws.{either}
use Rattle.commands.specs.Numbers.{most_units}
use Rattle.settings.specs.Reply.{Reply}
use Rattle.mailbox.specs.Outcome.{Outcome, reads, changes}
use Rattle.settings.specs.Clock.{device_time}
use Rattle.settings.specs.Policy.{set_interrupt_policy}
use Rattle.mailbox.specs.EventCommands.{clear_event_records}
use Rattle.list_commands.specs.PoisonCommands.{ListChange, line_of, line_code, inject_poison, inject_adds, clear_poison}
use Rattle.mailbox.specs.Mailbox.{area_after, inject, answer, outcome, changes_policy, changes_list}
use Rattle.mailbox.specs.DeviceCalls.{new_device, MakeOutcome, make, event_answer, event_report, media_code, MediaOutcome, media_answer, media_report, LineOutcome, line_test}
use Rattle.mailbox.proofs.AreaAnswers.{refusal_leaves}
use Rattle.mailbox.proofs.Moving.{Silent, Moved, nothing, one_log, settings, the_clock, list_and_log, the_list, the_media, answer_moves}
use Rattle.settings.proofs.Laws.{refused_set_changes_nothing}
use Rattle.settings.proofs.Laws.{raised_later}

-- a refusal comes with no reply, the state as it was and no vector
pub record Refuses (d : DeviceState) (o : Outcome) : Type 0 where
  pub refuses : Refused o.code → (o.reply ≡ []) × (o.next ≡ d) × (o.vector ≡ no_vector)

-- the same of a change of the list
record Keeps (s : PoisonState) (c : ListChange) : Type 0 where
  keeps : (c.code ≡ 0 → ⊥) → c.list ≡ s

-- ---- replies and changes
silent_refuses : (d : DeviceState) {o : Reply} → Silent o → Refuses d (reads d o)
silent_refuses d k = record { refuses = λ h. (k.silent h.not_success, refl, refl) }

success_refuses : (d e : DeviceState) → Refuses d (changes 0 e)
success_refuses d e = record { refuses = λ h. absurd (h.not_success refl) }

-- 0001h "is no refusal" (document 02, W-207)
started_refuses : (d e : DeviceState) → Refuses d (changes started e)
started_refuses d e = record { refuses = λ h. absurd (h.not_started refl) }

policy_refuses : (d : DeviceState) (p : List ℕ) → Refuses d (changes_policy d (set_interrupt_policy d.policy p))
policy_refuses d p = record { refuses = λ h. (refl, ap (with_policy d) (refused_set_changes_nothing d.policy p h.not_success), refl) }

events_refuse : (d : DeviceState) (p : List ℕ) → Refuses d (clear_event_records d p)
unfolding clear_event_records
events_refuse d p = record { refuses = λ h. (refl, ap (with_logs d) (refused_clear_changes_nothing d.logs p h.not_success), refl) }

inject_keeps : (lines : ℕ) (s : PoisonState) (p : List ℕ) → Keeps s (inject_poison lines s p)
unfolding inject_poison
inject_keeps lines s p =
    either (Keeps s) (eqb (line_code lines (field p 0 8)) 0)
    (either (Keeps s) (injects s (line_of (field p 0 8))) (record { keeps = λ h. absurd (h refl) }) (record { keeps = λ h. refl }))
    (record { keeps = λ h. refl })

clear_keeps : (lines : ℕ) (s : PoisonState) (p : List ℕ) (time : ℕ) → Keeps s (clear_poison lines s p time)
unfolding clear_poison
clear_keeps lines s p time = either (Keeps s) (eqb (line_code lines (field p 0 8)) 0) (record { keeps = λ h. absurd (h refl) }) (record { keeps = λ h. refl })

keeps_refuses : (d : DeviceState) {c : ListChange} → Keeps d.poison c → Refuses d (changes_list d c)
keeps_refuses d k = record { refuses = λ h. (refl, ap (with_poison d) (k.keeps h.not_success), refl) }

-- one that adds an entry is never refused, whatever its event report answers
inject_refuses : (d : DeviceState) (p : List ℕ) (time : ℕ) → Refuses d (inject d p time)
unfolding inject
inject_refuses d p time =
    either (Refuses d) (inject_adds (lines_of d) d.poison p) (record { refuses = λ h. absurd (h.not_success refl) }) (keeps_refuses d (inject_keeps _ _ p))

-- ---- the commands, on the device that they find
found_refusal : (d : DeviceState) (op : ℕ) (p : List ℕ) (time : ℕ) (area : List ℕ) (room : ℕ) → Refused (answer d op p time area room).code
    → ((answer d op p time area room).reply ≡ []) × ((answer d op p time area room).next ≡ d) × ((answer d op p time area room).vector ≡ no_vector)
found_refusal d op p time area room = (moved (answer_moves d op p time area room)).refuses
  where
    moved : {o : Outcome} → Moved d op p time o → Refuses d o
    moved (nothing r is quiet) = rw is (silent_refuses d quiet)
    moved (one_log e is) = rw is (events_refuse d p)
    moved (settings e is) = rw is (policy_refuses d p)
    moved (the_clock e c is) = rw is (success_refuses d _)
    moved (list_and_log e is) = rw is (inject_refuses d p time)
    moved (the_list e is) = rw is (keeps_refuses d (clear_keeps _ _ p _))
    moved (the_media e m is) = rw is (started_refuses d _)

-- Demand 1 for the commands: a command that is refused has an empty reply, leaves the device's state as the end of a due Sanitize leaves it, and carries no vector, whatever the opcode, the payload, the
-- time, the label area and the size of the reply buffer.
pub refusal : (d : DeviceState) (op : ℕ) (p : List ℕ) (time : ℕ) (area : List ℕ) (room : ℕ) → Refused (outcome d op p time area room).code
    → ((outcome d op p time area room).reply ≡ []) × ((outcome d op p time area room).next ≡ ended d time) × ((outcome d op p time area room).vector ≡ no_vector)
refusal d op p time area room h = found_refusal (ended d time) op p time area room h

-- Demand 1 for event report: a refused report answers not stored, leaves the state as the end of a due Sanitize leaves it and carries no vector.
found_event_refusal : (d : DeviceState) (time log : ℕ) (bytes : List ℕ) → ((event_answer d time log bytes).code ≡ 0 → ⊥)
    → ((event_answer d time log bytes).stored ≡ false) × ((event_answer d time log bytes).next ≡ d) × ((event_answer d time log bytes).vector ≡ no_vector)
unfolding event_answer
found_event_refusal d time log bytes h =
    let r = refused_report_changes_nothing d.logs log bytes (device_time d.clock time) h in
    (r.0, ap (with_logs d) r.1, ap (raised d.policy log) r.2 ∙ raised_later d.policy log)

pub event_refusal : (d : DeviceState) (time log : ℕ) (bytes : List ℕ) → Refused (event_report d time log bytes).code
    → ((event_report d time log bytes).stored ≡ false) × ((event_report d time log bytes).next ≡ ended d time) × ((event_report d time log bytes).vector ≡ no_vector)
event_refusal d time log bytes h = found_event_refusal (ended d time) time log bytes h.not_success

record NothingStored (d : DeviceState) (o : MediaOutcome) : Type 0 where
  nothing : Refused o.code → (o.stored ≡ 0) × (o.dropped ≡ 0) × (o.next ≡ d)

found_media_refusal : (d : DeviceState) (time address n kind : ℕ) → NothingStored d (media_answer d time address n kind)
unfolding media_answer
found_media_refusal d time address n kind =
    either (NothingStored d) (eqb (media_code (lines_of d) address n kind) 0) (record { nothing = λ h. absurd (h.not_success refl) }) (record { nothing = λ h. (refl, refl, refl) })

-- Demand 1 for media report: a refused report answers 0 lines stored and 0 dropped and leaves the state as the end of a due Sanitize leaves it.
pub media_refusal : (d : DeviceState) (time address n kind : ℕ) → Refused (media_report d time address n kind).code
    → ((media_report d time address n kind).stored ≡ 0) × ((media_report d time address n kind).dropped ≡ 0) × ((media_report d time address n kind).next ≡ ended d time)
media_refusal d time address n kind = (found_media_refusal (ended d time) time address n kind).nothing

record NothingTold (o : LineOutcome) : Type 0 where
  nothing : Refused o.code → (o.number ≡ 2) × (o.kind ≡ 0)

-- Demand 1 for line test: a refused test answers Unknown, number 2, with type 0.
pub line_refusal : (d : DeviceState) (address : ℕ) → Refused (line_test d address).code → ((line_test d address).number ≡ 2) × ((line_test d address).kind ≡ 0)
unfolding line_test
line_refusal d address =
    (either NothingTold (eqb (line_code (lines_of d) address) 0)
    (either NothingTold d.media.disabled (record { nothing = λ h. absurd (h.not_success refl) }) (record { nothing = λ h. absurd (h.not_success refl) }))
    (record { nothing = λ h. (refl, refl) })).nothing

record OneUnit (o : MakeOutcome) : Type 0 where
  one_unit : Refused o.code → (o.code ≡ invalid_input) × (o.next ≡ new_device 1 0)

-- A refused make gives 0002h, and beside it the new device of one volatile unit.
pub make_refusal : (volatile persistent : ℕ) → Refused (make volatile persistent).code
    → ((make volatile persistent).code ≡ invalid_input) × ((make volatile persistent).next ≡ new_device 1 0)
unfolding make
make_refusal volatile persistent =
    (either OneUnit (leb 1 (volatile + persistent) && leb (volatile + persistent) most_units) (record { one_unit = λ h. absurd (h.not_success refl) }) (record { one_unit = λ h. (refl, refl) })).one_unit

-- a number that is the definition's is refused where that is
pub refused_too : {n m : ℕ} → n ≡ m → Refused n → Refused m
refused_too e h = record { not_success = λ z. h.not_success (e ∙ z); not_started = λ z. h.not_started (e ∙ z) }

-- Demand 1 of the code: a command refused by `Device::command` has length 0, leaves the device that the end of a due Sanitize leaves, and the very same value where none is due (`Ends`), alters no byte of
-- the reply buffer and none of the label area, and carries no vector.
pub refusal_unaltered : (d : Device) (op : ℕ) (p : List ℕ) (time : ℕ) (r : Answer) (before after area left : List ℕ)
    → AfterEnding d time (λ (e : Device). Answered (outcome (state_of d) op p time area (length before)) e r before after) → left ≡ area_after op p r.code area → Refused r.code
    → (r.length ≡ 0) × Ends d time r.device × (after ≡ before) × (left ≡ area) × (r.vector ≡ None)
unfolding splice
refusal_unaltered d op p time r before after area left found l h =
    let a = found.done in
    let refuses = refusal (state_of d) op p time area (length before) (refused_too a.code h) in
    let none : (outcome (state_of d) op p time area (length before)).reply ≡ [] = refuses.0 in (
      a.size ∙ ap length none,
      subst (Ends d time) (sym (a.refused h)) found.ends,
      a.bytes ∙ ap (λ (bs : List ℕ). splice 0 bs before) none,
      l ∙ sym (refusal_leaves op p r.code area h.not_success),
      a.vector.none refuses.2,
    )

-- An event report refused by `Device::event_report` answers not stored, leaves such a device and carries no vector.
pub event_unaltered : (d : Device) (time log : ℕ) (bytes : List ℕ) (r : EventAnswer) → AfterEnding d time (λ (e : Device). EventDone (event_report (state_of d) time log bytes) e r)
    → Refused r.code → (r.stored ≡ false) × Ends d time r.device × (r.vector ≡ None)
event_unaltered d time log bytes r found h =
    let a = found.done in
    let refuses = event_refusal (state_of d) time log bytes (refused_too a.code h) in
    (a.stored ∙ refuses.0, subst (Ends d time) (sym (a.refused h)) found.ends, a.vector.none refuses.2)

-- A media report refused by `Device::media_report` answers 0 lines stored and 0 dropped and leaves such a device.
pub media_unaltered : (d : Device) (time address n kind : ℕ) (r : MediaAnswer) → AfterEnding d time (λ (e : Device). MediaDone (media_report (state_of d) time address n kind) e r)
    → Refused r.code → (r.stored ≡ 0) × (r.dropped ≡ 0) × Ends d time r.device
media_unaltered d time address n kind r found h =
    let a = found.done in
    let none = media_refusal (state_of d) time address n kind (refused_too a.code h) in
    (a.stored ∙ none.0, a.dropped ∙ none.1, subst (Ends d time) (sym (a.refused h)) found.ends)

-- only Unknown has number 2
only_unknown : (t : LineStatus) → status_number t ≡ 2 → t ≡ Unknown
only_unknown Clean e = absurd (omega arith)
only_unknown (Damaged kind) e = absurd (omega arith)
only_unknown Unknown e = refl
only_unknown Disabled e = absurd (omega arith)

-- A line test refused by `Device::line_test` answers Unknown.
pub line_unknown : (d : Device) (address : ℕ) (r : LineAnswer) → LineDone (line_test (state_of d) address) r → Refused r.code → r.answer ≡ Unknown
line_unknown d address r a h = only_unknown r.answer (a.number ∙ (line_refusal (state_of d) address (refused_too a.code h)).0)

-- A make refused by `Device::make` gives 0002h and hands out a new device of one volatile unit.
pub make_one_unit : (volatile persistent : ℕ) (r : Made) → Makes (make volatile persistent) r → Refused r.code
    → (r.code ≡ invalid_input) × (state_of r.device ≡ new_device 1 0)
make_one_unit volatile persistent r a h =
    let one = make_refusal volatile persistent (refused_too a.code h) in
    (a.code ∙ one.0, a.next ∙ one.1)
