-- `host_records::requests::read_handles` meets its contract: the loop's turn. Assumes nothing.
use Rattle.std.proofs.Common.{arith}
use Rattle.host_records.proofs.HostLaws.{handles_turn}
use Rattle.host_records.proofs.requests.read_handles.Goals as goal

pub loop-i-preserved : goal.loop-i-preserved
loop-i-preserved c = handles_turn _ _ _ _ (omega arith) c.get.ensures.value c.loop-i.invariant
