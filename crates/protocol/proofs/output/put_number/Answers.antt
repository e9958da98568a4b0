-- `protocol::output::put_number` meets its contract: a blank, then the digits that `itoa` makes, which are the number's. Assumes nothing.
use mathlib.Core.Path.{◌≡◌, refl, sym, ap, ◌∙◌}
use Prim.Native.Nat.{◌+◌, ◌-◌}
use native.Mathlib.Omega.{arith}
use borrow.Author.Rules.{rules}
use lib.ListN.{length}
use Rattle.wire.proofs.Laws.{part_stored, part_whole}
use Rattle.protocol.specs.Text.{decimal}
use Rattle.protocol.proofs.Printing.{decimal_printed, puts_number}
use Rattle.protocol.proofs.output.put_number.Goals as goal

pub returns : goal.returns
returns c =
    let a = c.args in
    let digits = c.as_bytes-digits.result.now in
    let made : digits ≡ decimal a.n = c.as_bytes-digits.ensures.value ∙ c.format.ensures.text ∙ sym (decimal_printed a.n (search rules)) in
    let whole = part_whole (length digits) digits refl in
    puts_number a.at a.n digits _ _ c.requires made
    (part_stored (a.at + 1) (a.at + 1 + length digits - (a.at + 1)) _ _ _ (c.copy_from_slice.ensures.after ∙ sym whole) (omega (arith, ap length whole)))
