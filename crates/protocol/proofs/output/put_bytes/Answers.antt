-- `protocol::output::put_bytes` meets its contract: a blank, then two digits after those put so far. Assumes nothing.
use mathlib.Core.Path.{◌≡◌, sym, ap, ap₂, ◌∙◌}
use mathlib.Core.List.{[], ◌∷◌, ◌++◌}
use Prim.Native.Nat.{ℕ, ◌+◌, ◌<◌}
use native.Mathlib.Omega.{arith}
use lib.ListN.{length, take, length-set, length-take}
use lib.Seq.{take_all}
use Rattle.protocol.specs.Text.{hex}
use Rattle.protocol.proofs.Printing.{puts_nothing, puts_one, puts_two, puts_then, puts_as, hex_more, length_hex}
use Rattle.protocol.proofs.output.put_bytes.Goals as goal

pub loop-b-init : goal.loop-b-init
unfolding hex
loop-b-init c =
    record { size = simp length-set; place = omega arith; puts = puts_nothing _ _ (simp length-set (omega arith)) }

pub loop-b-preserved : goal.loop-b-preserved
loop-b-preserved c =
    let l = c.loop-b in
    let bytes = take c.args.n c.args.bytes.now in
    let many : length bytes ≡ c.args.n = rw length-take (omega arith) in
    let room : l.to + 1 < length l.out = omega (arith, c.requires.1) in
    let high = c.digit.ensures in
    let low = c.digit-in-loop-b.ensures in
    record {
      size = simp length-set (omega arith);
      place = omega arith;
      puts =
          puts_as (puts_then l.invariant.puts (puts_two l.to _ _ l.out room) (simp length-set (omega arith)))
          (ap₂ (λ (x y : ℕ). hex (take l.b-index bytes) ++ (x ∷ y ∷ [])) high low ∙ sym (hex_more bytes l.b-index (omega arith)));
    }

pub returns : goal.returns
returns c =
    let l = c.loop-b in
    let bytes = take c.args.n c.args.bytes.now in
    let many : length bytes ≡ c.args.n = rw length-take (omega arith) in
    let all : take l.b-index bytes ≡ bytes = take_all l.b-index bytes (omega arith) in
    puts_then (puts_one c.args.at 32 c.args.out.now (omega arith)) (puts_as l.invariant.puts (ap hex all)) (omega (arith, length_hex bytes))
