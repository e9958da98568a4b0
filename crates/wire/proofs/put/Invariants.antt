-- `wire::put` meets its contract. The invariant: the bytes written, and those of what is left of the number, are those of all of it. Assumes nothing.
use mathlib.Core.Path.{◌≡◌}
use mathlib.Core.List.{◌++◌}
use Prim.Native.Nat.{◌-◌}
use lib.ListN.{length, take}
use Rattle.wire.specs.Wire.{le}
use Rattle.wire.proofs.put.Given as goal

abbrev pub invariant-loop-byte : goal.invariant-loop-byte
invariant-loop-byte l = (length l.byte-items ≡ l.n) × (take l.byte-index l.byte-items ++ le (l.n - l.byte-index) l.rest ≡ le l.n l.value)
