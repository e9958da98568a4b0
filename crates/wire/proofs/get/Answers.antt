-- `wire::get` meets its contract: its number by arithmetic from what it reads, so that an edit of the number fails where it is false. Assumes nothing.
use mathlib.Core.Path.{◌≡◌, ◌∙◌}
use native.Mathlib.Omega.{arith}
use borrow.Author.Rules.{rules}
use Rattle.wire.specs.Wire.{field}
use Rattle.wire.proofs.Laws.{field_small, part_lent}
use Rattle.wire.proofs.Word.{word_read}
use Rattle.wire.proofs.get.Goals as goal

pub returns : goal.returns
returns c =
    let a = c.args in
    let value : c.from_le_bytes.result ≡ field a.s.now a.at a.n = word_read a.s.now _ a.at a.n _ (search rules) (search rules) (c.copy_from_slice.ensures.after ∙ part_lent a.at a.n a.s.now) c.from_le_bytes.ensures in
    let small = field_small a.s.now a.n a.at (search rules) (λ i. search rules) in
    record { value = omega (arith, value); small = omega (arith, value, small) }
