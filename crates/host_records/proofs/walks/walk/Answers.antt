-- `host_records::walks::walk` meets its contract. Assumes nothing.
use native.Mathlib.Omega.{arith}
use lib.ListN.{get_or}
use lib.ListN.{length-replicate}
use Rattle.wire.specs.Wire.{field}
use Rattle.mailbox.specs.State.{state_of}
use Rattle.wire.proofs.Laws.{written_fits}
use Rattle.host.proofs.Laws.{walk_size}
use Rattle.host_records.specs.HostWalks.{walk_call, serve_walk}
use Rattle.host_records.proofs.HostLaws.{written_served}
use Rattle.host_records.proofs.walks.walk.Goals as goal

pub put_line-end-requires : goal.put_line-end-requires
put_line-end-requires c =
    let bytes = c.args.bytes.now in
    let told = c.call_walk-done in
    let fits = written_fits told.ensures (omega (arith, told.auto.reply, c.requires.2, length-replicate (field bytes 18 4) (get_or bytes 22 0))) in
    (fits, omega (arith, told.ensures.size, walk_size c.args.device (field bytes 2 8) (field bytes 10 8) (field bytes 18 4) c.requires.0), c.requires.3)

pub returns : goal.returns
unfolding serve_walk
returns c =
    let bytes = c.args.bytes.now in
    written_served 87 75 (get_or bytes 22 0) (field bytes 18 4) (walk_call (state_of c.args.device) bytes) c.args.device c.call_walk-done.ensures c.put_line-end.ensures c.requires.0
