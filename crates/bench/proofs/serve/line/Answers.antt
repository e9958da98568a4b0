-- `bench::serve::line` meets its contract: the call, then its line. Assumes nothing.
use Rattle.bench.proofs.CallLaws.{line_served}
use Rattle.bench.proofs.serve.line.Goals as goal

pub returns : goal.returns
returns c =
    line_served c.args.bytes.now c.args.device c.line-told.ensures c.status_number-number.ensures
    c.status_type-kind.ensures c.put_told.ensures
