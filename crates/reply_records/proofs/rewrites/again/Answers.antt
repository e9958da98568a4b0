-- `reply_records::rewrites::again` meets its contract. Assumes nothing.
use native.Mathlib.Omega.{arith}
use lib.ListN.{get_or, length-replicate}
use Rattle.wire.specs.Wire.{field}
use Rattle.wire.proofs.Laws.{written_fits}
use Rattle.reply_records.specs.HostRewrites.{again_call, serve_again}
use Rattle.host_records.proofs.Laws.{written_served}
use Rattle.reply_records.proofs.ReplyLaws.{written_parts}
use Rattle.reply_records.proofs.rewrites.again.Goals as goal

pub put_line-end-requires : goal.put_line-end-requires
put_line-end-requires c =
    let bytes = c.args.bytes.now in
    let told = c.call_again-written in
    let parts = written_parts told.result told.ensures c.code_of.ensures c.unwrap_or.ensures in
    let fits = written_fits parts (omega (arith, told.auto.reply, c.requires.3, length-replicate (field bytes 8 2) (get_or bytes 10 0))) in
    (fits, omega (arith, fits, told.auto.reply, c.requires.3, c.requires.2), c.requires.4)

pub returns : goal.returns
unfolding serve_again
returns c =
    let bytes = c.args.bytes.now in
    let told = c.call_again-written in
    let parts = written_parts told.result told.ensures c.code_of.ensures c.unwrap_or.ensures in
    written_served 82 87 (get_or bytes 10 0) (field bytes 8 2) (again_call bytes) c.args.device parts c.put_line-end.ensures c.requires.0
