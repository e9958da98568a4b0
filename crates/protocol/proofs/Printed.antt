-- What a program prints for some bytes of input, as a function that computes: for examples from the bytes of an input to the bytes of its output. Assumes nothing.
use mathlib.Core.Bool.{cond}
use mathlib.Core.List.{List, [], ◌++◌}
use Prim.Native.Nat.{ℕ, zero, suc, ◌+◌}
use lib.Dec.{eqb}
use lib.ListN.{length, take, drop}
use Rattle.protocol.specs.Text.{last_line}
use Rattle.protocol.specs.Runs.{Program, reading}

-- what is printed from a place on, where at most n records come
unfoldable pub printed : {D : Type 0} → Program D → ℕ → D → ℕ → List ℕ → List ℕ
printed P zero d offset l = []
printed P (suc n) d offset l =
    let size = reading P offset l in
    let done = P.serve d (take size l) in
    cond (eqb size 0) (last_line (length l) offset) (done.line ++ printed P n done.next (offset + size) (drop size l))
