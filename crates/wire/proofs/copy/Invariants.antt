-- `wire::copy` meets its contract. The invariant: the bytes before the place are those of the part. Assumes nothing.
use mathlib.Core.Path.{◌≡◌}
use lib.ListN.{length, take}
use Rattle.wire.specs.Wire.{part}
use Rattle.wire.proofs.copy.Given as goal

abbrev pub invariant-loop-i : goal.invariant-loop-i
invariant-loop-i l = (length l.byte-items ≡ l.n) × (take l.i l.byte-items ≡ part l.from l.i l.s)
