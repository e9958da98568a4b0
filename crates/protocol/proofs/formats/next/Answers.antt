-- `protocol::formats::next` meets its contract: the head, and the record that it tells of, found after it. Assumes nothing.
use Prim.Native.Nat.{◌+◌, ◌-◌}
use native.Mathlib.Omega.{arith}
use lib.Dec.{eqb}
use Rattle.protocol.specs.Records.{told_head, front_head, front_size}
use Rattle.protocol.specs.Formats.{fixed, head, size}
use Rattle.protocol.proofs.RecordLaws.{local_head, number_told, found_one, finds_none, finds_told}
use Rattle.protocol.proofs.FormatLaws.{sized, head_of}
use Rattle.protocol.proofs.formats.next.Goals as goal

pub returns-then-n-eq0 : goal.returns-then-n-eq0
unfolding front_size front_head
returns-then-n-eq0 c =
    let f = c.args.format in
    let part = c.next_head-head in
    finds_none (size f) (told_head (fixed f (eqb c.args.s.offset 0)) (head f)) part.result part.ensures c.if-n-eq0.true

pub whole_size-size-requires : goal.whole_size-size-requires
whole_size-size-requires c =
    let f = c.args.format in
    let first = eqb c.args.s.offset 0 in
    let near = local_head (fixed f first) (head f) (size f) (sized f first) in
    head_of f first _ (found_one (front_head (fixed f first) (head f)) _ near c.next_head-head.ensures c.if-n-eq0.false (omega arith) (omega arith))

pub returns : goal.returns
unfolding front_size front_head
returns c =
    let f = c.args.format in
    let first = eqb c.args.s.offset 0 in
    let part = c.next_head-head in
    let at = part.result.stream.at in
    let near = local_head (fixed f first) (head f) (size f) (sized f first) in
    let told = number_told c.unwrap_or.ensures c.whole_size-size.ensures.told in
    finds_told (size f) (told_head (fixed f first) (head f)) part.result c.whole.result (at + part.result.size - at) _ near part.ensures c.if-n-eq0.false (omega arith) told
    c.whole.ensures (omega arith) (omega (arith, c.whole.auto))
