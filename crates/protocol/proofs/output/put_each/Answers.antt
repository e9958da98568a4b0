-- `protocol::output::put_each` meets its contract: a column after those put so far. Assumes nothing.
use mathlib.Core.Path.{◌≡◌, refl, sym, ap}
use native.Mathlib.Omega.{arith}
use lib.ListN.{take, get_or}
use lib.Seq.{take_all}
use Rattle.protocol.specs.Text.{columns}
use Rattle.protocol.proofs.Printing.{puts_nothing, puts_then, puts_as, columns_more, length_column}
use Rattle.protocol.proofs.output.put_each.Goals as goal

pub loop-n-init : goal.loop-n-init
unfolding columns
loop-n-init c =
    record { size = refl; place = omega arith; puts = puts_nothing _ _ (omega arith) }

pub loop-n-preserved : goal.loop-n-preserved
loop-n-preserved c =
    let l = c.loop-n in
    let numbers = c.args.numbers.now in
    let put = c.put_number-to in
    let one = length_column (get_or numbers l.n-index 0) in
    record {
      size = omega (arith, put.auto.out);
      place = omega (arith, put.ensures.end, one);
      puts = puts_as (puts_then l.invariant.puts put.ensures (omega (arith, one))) (sym (columns_more numbers l.n-index (omega arith)));
    }

pub returns : goal.returns
returns c =
    let l = c.loop-n in
    let all : take l.n-index c.args.numbers.now ≡ c.args.numbers.now = take_all l.n-index c.args.numbers.now (omega arith) in
    puts_as l.invariant.puts (ap columns all)
