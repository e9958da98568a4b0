-- `reply_records::replies::put_poison` meets its contract. Assumes nothing.
use Rattle.protocol.proofs.Laws.{puts_as}
use Rattle.reply_records.proofs.ReadLaws.{put_poison}
use Rattle.reply_records.proofs.replies.put_poison.Goals as goal

pub returns : goal.returns
returns c =
    put_poison c.args.records.now c.args.i (puts_as c.put_each.ensures (cc)) c.poison_record-told.ensures
