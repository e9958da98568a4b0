-- `protocol::formats::next_fixed` meets its contract: the mark, and the fixed part that it tells of, found after it. Assumes nothing.
use mathlib.Core.Path.{◌≡◌, ap, ◌∙◌}
use Prim.Native.Nat.{◌+◌, ◌-◌}
use native.Mathlib.Omega.{arith}
use lib.Dec.{eqb}
use Rattle.protocol.specs.Records.{mark_of, front_fixed}
use Rattle.protocol.specs.Formats.{fixed}
use Rattle.protocol.proofs.RecordLaws.{local_whole, number_told, found_all, finds_none, finds_told}
use Rattle.protocol.proofs.formats.next_fixed.Goals as goal

pub returns-then-marked-eq0 : goal.returns-then-marked-eq0
unfolding front_fixed
returns-then-marked-eq0 c =
    let fixed = fixed c.args.format (eqb c.args.s.offset 0) in
    finds_none (λ h. fixed (mark_of h)) (λ _. 2) c.whole-marked.result c.whole-marked.ensures.found c.if-marked-eq0.true

pub returns : goal.returns
unfolding front_fixed
returns c =
    let fixed = fixed c.args.format (eqb c.args.s.offset 0) in
    let marked = c.whole-marked in
    let at = marked.result.stream.at in
    let all : marked.result.size ≡ 2 = found_all 2 marked.ensures c.if-marked-eq0.false in
    let told = number_told c.unwrap_or.ensures c.fixed_size-fixed.ensures ∙ ap fixed c.mark.ensures in
    finds_told (λ h. fixed (mark_of h)) (λ _. 2) marked.result c.whole.result (at + 2 - at) _ (local_whole 2) marked.ensures.found c.if-marked-eq0.false (omega (arith, all)) told
    c.whole.ensures (omega arith) (omega (arith, c.whole.auto))
