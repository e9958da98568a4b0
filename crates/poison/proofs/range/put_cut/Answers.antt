-- `range::put_cut` meets its contract. Assumes nothing.
use Rattle.poison.proofs.Records.{cut_stored}
use Rattle.poison.proofs.range.put_cut.Goals as goal

pub returns : goal.returns
returns c =
    let e = c.args.e in
    cut_stored c.args.at c.args.from c.args.n e.start e.lines e.kind _ _ c.args.d.now _ c.max-first.ensures c.min-end.ensures c.put_record.ensures
