-- `probe::pool_records::call_pool` meets its contract: the fields read are those of the record's bytes, the buffer is filled, and the payload is all that comes after them. Assumes nothing.
use mathlib.Core.Path.{◌≡◌}
use Rattle.wire.specs.Wire.{field}
use Rattle.protocol.proofs.Laws.{rest_of}
use Rattle.probe.proofs.pool_records.call_pool.Goals as goal

pub returns : goal.returns
returns c =
    let opcode : c.get-opcode.result ≡ field c.args.bytes.now 10 2 = c.get-opcode.ensures.value in
    rw (← opcode, ← rest_of 17 c.args.bytes.now, ← c.get-time.ensures.value, ← c.requires.2, ← c.fill.ensures, ← c.fill.auto.buffer) c.pool_command.ensures
