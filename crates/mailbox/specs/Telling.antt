-- The commands that both mailboxes have (document 02, W-208), each of which only reads the device: the one definition that gives the reply of each, to the mailbox that asks. Assumes nothing.
use Rattle.std.specs.Prelude.{ℕ, cond, List, eqb}
use Rattle.wire.specs.Returns.{unsupported}
use Rattle.settings.specs.Reply.{Reply, no_reply}
use Rattle.settings.specs.Clock.{get_timestamp}
use Rattle.settings.specs.Policy.{get_policy}
use Rattle.commands.specs.declared.mailboxes.Mailbox.{Mailbox}
use Rattle.commands.specs.EffectsLog.{get_supported_logs, get_log}
use Rattle.commands.specs.Identity.{identify}
use Rattle.list_commands.specs.PoisonCommands.{get_poison_list}
use Rattle.mailbox.specs.State.{DeviceState, lines_of}
use Rattle.mailbox.specs.EventCommands.{get_event_records}

-- the command of an opcode, after the checks before its own: a number with a reply, and no device. The two that tell of the effects log tell of the log of the mailbox that asks
unfoldable pub telling : Mailbox → DeviceState → ℕ → List ℕ → ℕ → Reply
telling mailbox d op p time =
    cond (eqb op 0x0100) (get_event_records d.logs p)
    (cond (eqb op 0x0102) (get_policy d.policy)
    (cond (eqb op 0x0300) (get_timestamp d.clock time)
    (cond (eqb op 0x0400) (get_supported_logs mailbox)
    (cond (eqb op 0x0401) (get_log mailbox p)
    (cond (eqb op 0x4000) (identify d.volatile d.persistent)
    (cond (eqb op 0x4300) (get_poison_list (lines_of d) d.poison p)
    (no_reply unsupported)))))))
