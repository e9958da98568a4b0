-- `host_records::buffer::kept` meets its contract: a byte that is not as it was filled decides, and one that is leaves it to the others. Assumes nothing.
use mathlib.Core.Path.{◌≡◌, sym, ap, ◌∙◌}
use mathlib.Core.List.{List}
use Prim.Native.Nat.{ℕ, ◌-◌}
use native.Mathlib.Omega.{arith}
use lib.ListN.{length, take, drop, get_or, length-drop}
use lib.Seq.{take_all}
use Rattle.host_records.proofs.BufferLaws.{still_none, still_more, still_other}
use Rattle.host_records.proofs.buffer.kept.Goals as goal

-- the bytes that the loop goes over
others : (n : ℕ) (l : List ℕ) → take (length l - n) (drop n l) ≡ drop n l
others n l = take_all (length l - n) (drop n l) (omega (arith, length-drop n l))

pub returns-then-kept-byte : goal.returns-then-kept-byte
returns-then-kept-byte c =
    let a = c.args in
    let i = c.loop-kept.kept-index in
    let all = others a.n a.buffer.now in
    still_other a.byte i (drop a.n a.buffer.now) (omega (arith, c.loop-kept-test.true, ap length all)) (λ e. c.if-kept-byte.true (ap (λ (l : List ℕ). get_or l i 0) all ∙ e))
    ∙ sym c.loop-kept.invariant

pub loop-kept-preserved : goal.loop-kept-preserved
loop-kept-preserved c =
    let a = c.args in
    let i = c.loop-kept.kept-index in
    let all = others a.n a.buffer.now in
    c.loop-kept.invariant
    ∙ still_more a.byte i (drop a.n a.buffer.now) (omega (arith, c.loop-kept-test.true, ap length all)) (sym (ap (λ (l : List ℕ). get_or l i 0) all) ∙ c.if-kept-byte.false)

pub returns : goal.returns
returns c =
    let a = c.args in
    still_none a.byte c.loop-kept.kept-index (drop a.n a.buffer.now) (omega (arith, c.loop-kept-test.false, ap length (others a.n a.buffer.now))) ∙ sym c.loop-kept.invariant
