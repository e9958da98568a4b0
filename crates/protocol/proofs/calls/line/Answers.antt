-- `protocol::calls::line` meets its contract: the field read is that of the record's bytes. Assumes nothing.
use Rattle.protocol.proofs.CallLaws.{line_as}
use Rattle.protocol.proofs.calls.line.Goals as goal

pub returns : goal.returns
returns c =
    line_as c.args.bytes.now _ c.args.device c.line_test.ensures c.get-address.ensures.value
