-- The handles before index i are read. Assumes nothing.
use Rattle.std.proofs.Common.{◌≡◌, take}
use Rattle.events.specs.Clear.{handles_at}
use Rattle.host_records.proofs.requests.read_handles.Given as goal

abbrev pub invariant-loop-i : goal.invariant-loop-i
invariant-loop-i l = take l.i l.handle-items ≡ handles_at l.i 11 l.bytes
