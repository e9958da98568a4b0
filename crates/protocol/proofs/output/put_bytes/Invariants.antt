-- `protocol::output::put_bytes` meets its contract. The invariant: the digits of the bytes so far are put, two for each. Assumes nothing.
use mathlib.Core.Path.{◌≡◌}
use Prim.Native.Nat.{◌+◌, ◌*◌}
use lib.ListN.{length, take}
use Rattle.protocol.specs.Text.{hex}
use Rattle.protocol.specs.Relations.{Puts}
use Rattle.protocol.proofs.output.put_bytes.Given as goal

abbrev pub invariant-loop-b : goal.invariant-loop-b
invariant-loop-b l =
    record {
      size : length l.out ≡ length l.fn.out;
      place : l.to ≡ l.at + 1 + 2 * l.b-index;
      puts : Puts l.initial.to (hex (take l.b-index (take l.n l.bytes))) l.initial.out l.out l.to;
    }
