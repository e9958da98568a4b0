-- `host_records::requests::request` meets its contract. Assumes nothing.
use Rattle.std.proofs.Common.{◌∙◌, get_or, arith}
use lib.ListN.{length-replicate}
use Rattle.wire.specs.Wire.{field}
use Rattle.wire.proofs.Laws.{written_fits}
use Rattle.host_records.specs.HostRequests.{request_built, serve_request}
use Rattle.host_records.proofs.HostLaws.{told_length, result_served}
use Rattle.host_records.proofs.requests.request.Goals as goal

pub put_line-end-requires : goal.put_line-end-requires
put_line-end-requires c =
    let bytes = c.args.bytes.now in
    let told = c.call_request-built in
    let fits = written_fits told.ensures (omega (arith, told.auto.reply, c.requires.3, length-replicate (field bytes 4 2) (get_or bytes 6 0))) in
    let n = c.unwrap_or.ensures ∙ told_length told.result in
    (omega (arith, n, fits), omega (arith, n, fits, told.auto.reply, c.requires.3, c.requires.2.room), c.requires.4)

pub returns : goal.returns
unfolding serve_request
returns c =
    let bytes = c.args.bytes.now in
    result_served 82 81 (get_or bytes 6 0) (field bytes 4 2) (request_built bytes (field bytes 4 2)) c.args.device c.call_request-built.result c.code_of.ensures c.unwrap_or.ensures c.call_request-built.ensures c.put_line-end.ensures c.requires.0
