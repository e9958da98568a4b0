-- `protocol::output::put_each` meets its contract. The invariant: the columns of the numbers so far are put, of 21 bytes at most each. Assumes nothing.
use mathlib.Core.Path.{◌≡◌}
use Prim.Native.Nat.{◌≤◌, ◌+◌, ◌*◌}
use lib.ListN.{length, take}
use Rattle.protocol.specs.Text.{columns}
use Rattle.protocol.specs.Relations.{Puts}
use Rattle.protocol.proofs.output.put_each.Given as goal

abbrev pub invariant-loop-n : goal.invariant-loop-n
invariant-loop-n l =
    record {
      size : length l.out ≡ length l.initial.out;
      place : l.to ≤ l.at + 21 * l.n-index;
      puts : Puts l.at (columns (take l.n-index l.numbers)) l.initial.out l.out l.to;
    }
