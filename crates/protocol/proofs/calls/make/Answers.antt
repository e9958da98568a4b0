-- `protocol::calls::make` meets its contract: the fields read are those of the record's bytes. Assumes nothing.
use Rattle.protocol.proofs.CallLaws.{make_as}
use Rattle.protocol.proofs.calls.make.Goals as goal

pub returns : goal.returns
returns c =
    make_as c.args.bytes.now _ _ c.make.ensures c.get-volatile.ensures.value c.get-persistent.ensures.value
