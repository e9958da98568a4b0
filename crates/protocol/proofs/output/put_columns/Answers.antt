-- `protocol::output::put_columns` meets its contract: the mark, and the columns after it. Assumes nothing.
use native.Mathlib.Omega.{arith}
use Rattle.protocol.proofs.Printing.{puts_then, puts_two, length_columns}
use Rattle.protocol.proofs.output.put_columns.Goals as goal

pub returns : goal.returns
returns c =
    let a = c.args in
    puts_then (puts_two a.at a.first a.second _ (omega arith)) c.put_each.ensures (omega (arith, length_columns a.numbers.now))
