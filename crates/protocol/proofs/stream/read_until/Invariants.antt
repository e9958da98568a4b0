-- `protocol::stream::read_until` meets its contract. The invariant: the bytes before the first end are as they were. The measure is what is left of
-- the buffer, since a read that brings nothing ends the loop. Assumes nothing.
use mathlib.Core.Path.{◌≡◌}
use Prim.Native.Nat.{◌-◌}
use lib.ListN.{length}
use Rattle.protocol.specs.Stream.{Reads}
use Rattle.protocol.proofs.stream.read_until.Given as goal

abbrev pub invariant-loop-e : goal.invariant-loop-e
invariant-loop-e l = (length l.input ≡ length l.initial.input) × Reads l.end l.initial.input l.input l.e

abbrev pub decreases-loop-e : goal.decreases-loop-e
decreases-loop-e l = length l.initial.input - l.e
