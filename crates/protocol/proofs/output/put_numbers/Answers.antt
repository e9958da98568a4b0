-- `protocol::output::put_numbers` meets its contract: the columns, then the line's end, and there is room for both. Assumes nothing.
use native.Mathlib.Omega.{arith}
use Rattle.protocol.proofs.Printing.{puts_then, length_columns}
use Rattle.protocol.proofs.output.put_numbers.Goals as goal

pub end_line-requires : goal.end_line-requires
end_line-requires c =
    let put = c.put_columns-end in
    omega (arith, put.ensures.end, length_columns c.args.numbers.now, put.auto.out, c.requires)

pub returns : goal.returns
returns c =
    let put = c.put_columns-end in
    let long = length_columns c.args.numbers.now in
    let last = c.end_line.ensures in
    record { puts = puts_then put.ensures last (omega (arith, put.ensures.end, long, c.requires)); room = omega (arith, last.end, put.ensures.end, long, c.requires) }
