-- `protocol::output::put_bad` meets its contract: the three letters, the number after them, the line's end. Assumes nothing.
use mathlib.Core.Path.{refl}
use Prim.Native.Nat.{◌+◌, ◌-◌}
use native.Mathlib.Omega.{arith}
use Rattle.protocol.specs.Text.{bad_line}
use Rattle.protocol.proofs.Printing.{puts_then, puts_copied, length_column}
use Rattle.protocol.proofs.output.put_bad.Goals as goal

pub end_line-requires : goal.end_line-requires
end_line-requires c =
    let put = c.put_number-end in
    omega (arith, put.ensures.end, length_column c.args.offset, put.auto.out)

pub returns : goal.returns
unfolding bad_line
returns c =
    let at = c.args.at in
    let put = c.put_number-end in
    let room = length_column c.args.offset in
    let letters = puts_copied at (at + 3 - at) {d = c.args.out.now} c.copy_from_slice.ensures.after (omega arith) refl in
    puts_then (puts_then letters put.ensures (omega (arith, room))) c.end_line.ensures (omega (arith, put.ensures.end, room))
