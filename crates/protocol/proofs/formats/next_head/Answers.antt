-- `protocol::formats::next_head` meets its contract: the fixed part, and the head that it tells of, found after it. Assumes nothing.
use Prim.Native.Nat.{◌+◌, ◌-◌}
use native.Mathlib.Omega.{arith}
use lib.Dec.{eqb}
use Rattle.protocol.specs.Records.{told_fixed, front_fixed, front_head}
use Rattle.protocol.specs.Formats.{fixed, head, size}
use Rattle.protocol.proofs.RecordLaws.{local_fixed, number_told, found_one, finds_none, finds_told}
use Rattle.protocol.proofs.FormatLaws.{sized, fixed_of}
use Rattle.protocol.proofs.formats.next_head.Goals as goal

pub returns-then-n-eq0 : goal.returns-then-n-eq0
unfolding front_head front_fixed
returns-then-n-eq0 c =
    let f = c.args.format in
    let part = c.next_fixed-part in
    finds_none (head f) (told_fixed (fixed f (eqb c.args.s.offset 0))) part.result part.ensures c.if-n-eq0.true

pub head_size-size-requires : goal.head_size-size-requires
head_size-size-requires c =
    let f = c.args.format in
    let first = eqb c.args.s.offset 0 in
    let part = c.next_fixed-part in
    let near = local_fixed (fixed f first) (head f) (size f) (sized f first) in
    fixed_of f first _ (found_one (front_fixed (fixed f first)) _ near part.ensures c.if-n-eq0.false (omega arith) (omega arith))

pub returns : goal.returns
unfolding front_head front_fixed
returns c =
    let f = c.args.format in
    let first = eqb c.args.s.offset 0 in
    let part = c.next_fixed-part in
    let at = part.result.stream.at in
    let near = local_fixed (fixed f first) (head f) (size f) (sized f first) in
    let told = number_told c.unwrap_or.ensures c.head_size-size.ensures.told in
    finds_told (head f) (told_fixed (fixed f first)) part.result c.whole.result (at + part.result.size - at) _ near part.ensures c.if-n-eq0.false (omega arith) told
    c.whole.ensures (omega arith) (omega (arith, c.whole.auto))
