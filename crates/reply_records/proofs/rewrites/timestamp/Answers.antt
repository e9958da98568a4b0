-- `reply_records::rewrites::timestamp` meets its contract: a refusal leaves the room. Assumes nothing.
use lib.ListN.{length}
use Rattle.host_replies.specs.Replies.{read_timestamp}
use Rattle.reply_records.specs.HostRewrites.{write_time}
use mathlib.Core.Path.{refl}
use Rattle.host_replies.proofs.Laws.{passed_on}
use Rattle.reply_records.proofs.ReplyLaws.{again_refused}
use Rattle.reply_records.proofs.rewrites.timestamp.Goals as goal

pub returns-in_err-time : goal.returns-in_err-time
returns-in_err-time c =
    let a = c.args in
    again_refused (λ x. x.code) write_time (read_timestamp a.bytes.now) (length a.room.now) c.in_err-time.ensures refl (passed_on c.from_residual.ensures.1)
