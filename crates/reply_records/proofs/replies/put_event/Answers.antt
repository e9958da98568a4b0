-- `reply_records::replies::put_event` meets its contract. Assumes nothing.
use mathlib.Core.Path.{◌≡◌, refl, ap}
use native.Mathlib.Omega.{arith}
use lib.ListN.{length}
use Rattle.host_replies.specs.Replies.{event_record}
use Rattle.reply_records.proofs.ReadLaws.{event_short, put_event}
use Rattle.reply_records.proofs.replies.put_event.Goals as goal

pub put_bytes-requires : goal.put_bytes-requires
put_bytes-requires c =
    let told = c.event_record-bytes in
    let same : length told.result.now ≡ length (event_record c.args.records.now c.args.i) = ap length told.ensures in
    (omega arith, omega (arith, same, event_short c.args.records.now c.args.i, c.requires))

pub returns : goal.returns
returns c =
    let told = c.event_record-bytes in
    put_event c.args.records.now c.args.i c.put_bytes.ensures told.ensures refl
