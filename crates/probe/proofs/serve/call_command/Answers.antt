-- `probe::serve::call_command` meets its contract: the fields read are those of the record's bytes, the buffer is filled, and the payload is all that comes after them.
-- Assumes nothing.
use Rattle.protocol.proofs.Laws.{rest_of}
use Rattle.probe.proofs.serve.call_command.Goals as goal

pub returns : goal.returns
returns c =
    rw (← c.get-opcode.ensures.value, ← rest_of 17 c.args.bytes.now, ← c.get-time.ensures.value, ← c.requires.2, ← c.fill.ensures, ← c.fill.auto.buffer) c.command.ensures
