-- `bench::serve::call_command` meets its contract: the fields read are those of the record's bytes, and the payload is all that comes after them.
-- Assumes nothing.
use mathlib.Core.Path.{refl}
use Rattle.protocol.proofs.Laws.{command_at, area_at, rest_of}
use Rattle.bench.proofs.serve.call_command.Goals as goal

pub returns : goal.returns
returns c =
    let bytes = c.args.bytes.now in
    let told = c.command in
    let op = c.get-opcode.ensures.value in
    let time = c.get-time.ensures.value in
    (command_at told.ensures.0 op (rest_of 14 bytes) time refl c.requires.2 refl, area_at told.result.code c.args.area.now told.ensures.1 op (rest_of 14 bytes))
