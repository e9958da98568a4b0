-- `probe::pool_records::pool` meets its contract. Assumes nothing.
use native.Mathlib.Omega.{arith}
use lib.ListN.{length-replicate}
use Rattle.wire.proofs.Laws.{written_fits}
use Rattle.host_records.proofs.Laws.{written_served}
use Rattle.probe.specs.PoolRecords.{serve_pool}
use Rattle.probe.proofs.pool_records.pool.Goals as goal

pub put_line-end-requires : goal.put_line-end-requires
put_line-end-requires c =
    let fits = written_fits c.call_pool-done.ensures (simp length-replicate (omega arith)) in
    (fits, omega (arith, fits), c.requires.4)

pub returns : goal.returns
unfolding serve_pool
returns c = written_served 80 67 _ _ _ c.args.device c.call_pool-done.ensures c.put_line-end.ensures c.requires.0
