-- What the mailbox answers to any opcode, payload, caller's time, label area and size of the reply buffer, and what it leaves of the area: demand 2 for the commands. Assumes nothing.
use Rattle.std.specs.Prelude.{ℕ, ◌+◌, ◌&&◌, cond, List, [], eqb, length}
use Rattle.labels.specs.Labels.{get_labels, set_code, set_labels}
use Rattle.wire.specs.Wire.{field}
use Rattle.wire.specs.Returns.{success, started, need}
use Rattle.commands.specs.Numbers.{mailbox_size}
use Rattle.mailbox.specs.State.{DeviceState, lines_of, with_clock, with_policy, with_poison, with_media}
use Rattle.mailbox.specs.Ending.{ended}
use Rattle.mailbox.specs.Outcome.{Outcome, reads, changes, refused}
use Rattle.commands.specs.Commands.{first_code}
use Rattle.settings.specs.Clock.{device_time, set_timestamp}
use Rattle.settings.specs.Media.{sanitize}
use Rattle.settings.specs.Policy.{PolicyChange, set_interrupt_policy}
use Rattle.commands.specs.declared.mailboxes.Mailbox.TheVariants.{First}
use Rattle.mailbox.specs.EventCommands.{clear_event_records}
use Rattle.list_commands.specs.PoisonCommands.{ListChange, inject_poison, inject_adds, injection_record, clear_poison}
use Rattle.mailbox.specs.Telling.{telling}
use Rattle.mailbox.specs.DeviceCalls.{EventOutcome, event_answer}

-- the outcome of a command that changes the settings, and of one that changes the poison list
abbrev pub changes_policy : DeviceState → PolicyChange → Outcome
changes_policy d c = changes c.code (with_policy d c.policy)

abbrev pub changes_list : DeviceState → ListChange → Outcome
changes_list d c = changes c.code (with_poison d c.list)

-- the outcome of a command that reports an event: its own number, whatever the report answers; the report's vector, and the device after the report
abbrev pub reports : ℕ → EventOutcome → Outcome
reports code e = record { code = code; reply = []; vector = e.vector; next = e.next }

-- the device with the list after an Inject Poison
abbrev pub injected : DeviceState → List ℕ → DeviceState
injected d p = with_poison d (inject_poison (lines_of d) d.poison p).list

-- 4301h (document 02, W-204): "an Inject Poison that adds an entry also reports an event to log 0 .. If log 0 is full the event is counted as overflow and the
-- injection stands."
unfoldable pub inject : DeviceState → List ℕ → ℕ → Outcome
inject d p time =
    cond (inject_adds (lines_of d) d.poison p)
    (reports success (event_answer (injected d p) time 0 (injection_record (field p 0 8))))
    (changes_list d (inject_poison (lines_of d) d.poison p))

-- the command of an opcode, after the checks before its own: the first mailbox's own commands, then those that both mailboxes have
unfoldable pub run_command : DeviceState → ℕ → List ℕ → ℕ → List ℕ → Outcome
run_command d op p time area =
    cond (eqb op 0x0101) (clear_event_records d p)
    (cond (eqb op 0x0103) (changes_policy d (set_interrupt_policy d.policy p))
    (cond (eqb op 0x0301) (changes success (with_clock d (set_timestamp p time)))
    (cond (eqb op 0x4102) (reads d (get_labels mailbox_size p area))
    (cond (eqb op 0x4103) (changes (set_code p) d)
    (cond (eqb op 0x4301) (inject d p time)
    (cond (eqb op 0x4302) (changes_list d (clear_poison (lines_of d) d.poison p (device_time d.clock time)))
    (cond (eqb op 0x4400) (changes started (with_media d (sanitize (d.volatile + d.persistent) time)))
    (reads d (telling First d op p time)))))))))

-- the answer to a command on the device that it finds: "Order for a command", what media disabled refuses, then the command
unfoldable pub answer : DeviceState → ℕ → List ℕ → ℕ → List ℕ → ℕ → Outcome
answer d op p time area room =
    need (eqb (first_code d.media.disabled op (length p) (length area) room) success) (refused (first_code d.media.disabled op (length p) (length area) room) d)
    (run_command d op p time area)

-- the answer to a command: a due Sanitize is ended first (document 02, W-207)
abbrev pub outcome : DeviceState → ℕ → List ℕ → ℕ → List ℕ → ℕ → Outcome
outcome d op p time area room = answer (ended d time) op p time area room

-- the label area after a command that was answered with this number (document 02, W-206): Set LSA "writes the data and no other byte of the area"; no other command writes it, and no refusal
unfoldable pub area_after : ℕ → List ℕ → ℕ → List ℕ → List ℕ
area_after op p code area = cond (eqb op 0x4103 && eqb code success) (set_labels p area) area
