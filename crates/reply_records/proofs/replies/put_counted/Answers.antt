-- `reply_records::replies::put_counted` meets its contract. Assumes nothing.
use native.Mathlib.Omega.{arith}
use Rattle.protocol.proofs.Laws.{length_columns}
use Rattle.reply_records.specs.HostReplies.{each_of, record_columns}
use Rattle.reply_records.proofs.ReadLaws.{read_put}
use Rattle.reply_records.proofs.replies.put_counted.Goals as goal

pub put_records-end-requires : goal.put_records-end-requires
put_records-end-requires c =
    let put = c.put_columns-at in
    omega (arith, put.ensures.end, length_columns c.args.numbers.now, put.auto.out, c.requires)

pub end_line-requires : goal.end_line-requires
end_line-requires c =
    let put = c.put_columns-at in
    let records = c.put_records-end in
    omega (arith, records.ensures.1, records.auto, put.ensures.end, length_columns c.args.numbers.now, put.auto.out, c.requires)

pub returns : goal.returns
returns c =
    let a = c.args in
    let put = c.put_columns-at in
    let records = c.put_records-end in
    read_put a.numbers.now (each_of (record_columns a.kind a.records.now) a.n) put.ensures records.ensures.0 c.end_line.ensures
    (omega (arith, records.ensures.1, put.ensures.end, length_columns a.numbers.now, c.requires))
