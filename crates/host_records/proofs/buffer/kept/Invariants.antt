-- `host_records::buffer::kept` meets its contract. The invariant: whether the bytes from the place on are still as filled is whether those from index n on are. Assumes nothing.
use mathlib.Core.Path.{◌≡◌}
use lib.ListN.{drop}
use Rattle.host_records.specs.Lines.{still}
use Rattle.host_records.proofs.buffer.kept.Given as goal

abbrev pub invariant-loop-kept : goal.invariant-loop-kept
invariant-loop-kept l = still l.byte (drop l.n l.buffer) ≡ still l.byte (drop l.kept-index (drop l.n l.buffer))
