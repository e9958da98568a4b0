-- `protocol::stream::move_down` meets its contract. Assumes nothing.
use mathlib.Core.Path.{◌≡◌, sym, ap, ap₂, ◌∙◌}
use Prim.Native.Nat.{ℕ, ◌+◌, ◌-◌, ◌≤◌}
use native.Mathlib.Omega.{arith}
use lib.ListN.{length, take, drop, length-drop}
use lib.Seq.{take-paste}
use Rattle.wire.specs.Wire.{part}
use Rattle.protocol.proofs.stream.move_down.Goals as goal

pub returns : goal.returns
unfolding part
returns c =
    let a = c.args in
    let input = a.input.now in
    let n = a.at + a.n - a.at in
    let same : 0 + n ≡ a.n = omega arith in
    let room : n ≤ length (drop a.at input) = rw length-drop (omega arith) in
    ap₂ take (sym same) c.copy_within.ensures.after ∙ take-paste input 0 (drop a.at input) n (omega arith) room ∙ ap (λ (k : ℕ). take k (drop a.at input)) (omega arith)
