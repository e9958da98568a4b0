-- `bench::serve::begin` meets its contract: the device made, then its line. Assumes nothing.
use Rattle.bench.proofs.CallLaws.{begun}
use Rattle.bench.proofs.serve.begin.Goals as goal

pub returns : goal.returns
returns c =
    begun c.args.bytes.now c.make-made.ensures c.put_numbers-used.ensures
