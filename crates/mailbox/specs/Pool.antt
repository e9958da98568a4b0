-- What the second mailbox, the pool manager's, answers to any opcode, payload, caller's time and size of the reply buffer (document 02, W-208): demands 1 and 2 for its commands. Assumes nothing.
use Rattle.std.specs.Prelude.{ℕ, List, eqb, length}
use Rattle.wire.specs.Returns.{success, need}
use Rattle.settings.specs.Reply.{Reply, no_reply}
use Rattle.commands.specs.declared.mailboxes.Mailbox.TheVariants.{Pool}
use Rattle.commands.specs.Commands.{checked}
use Rattle.mailbox.specs.State.{DeviceState}
use Rattle.mailbox.specs.Telling.{telling}

-- "with the replies the first mailbox would give on the device as it stands, a due Sanitize not ended first": the checks before a command's own, then its reply. "Its commands change nothing and never
-- end a Sanitize": the answer is a number and a reply, and no device follows. No label area is lent, and none of its commands is refused while media is disabled.
unfoldable pub pool_answer : DeviceState → ℕ → List ℕ → ℕ → ℕ → Reply
pool_answer d op p time room =
    need (eqb (checked Pool op (length p) room) success) (no_reply (checked Pool op (length p) room))
    (telling Pool d op p time)
