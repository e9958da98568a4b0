-- `reply_records::rewrites::log` meets its contract: a refusal leaves the room. Assumes nothing.
use lib.ListN.{length}
use Rattle.host_replies.specs.Replies.{read_log, write_bytes}
use mathlib.Core.Path.{refl}
use Rattle.host_replies.proofs.Laws.{passed_on}
use Rattle.reply_records.proofs.ReplyLaws.{again_refused}
use Rattle.reply_records.proofs.rewrites.log.Goals as goal

pub returns-in_err-read_log : goal.returns-in_err-read_log
returns-in_err-read_log c =
    let a = c.args in
    again_refused (λ x. x) (λ _. write_bytes a.bytes.now) (read_log a.asked a.bytes.now) (length a.room.now) c.in_err-read_log.ensures refl (passed_on c.from_residual.ensures.1)
