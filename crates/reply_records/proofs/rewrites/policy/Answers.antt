-- `reply_records::rewrites::policy` meets its contract: a refusal leaves the room. Assumes nothing.
use lib.ListN.{length}
use Rattle.host_replies.specs.Replies.{read_policy}
use Rattle.reply_records.specs.HostRewrites.{write_policy}
use mathlib.Core.Path.{refl}
use Rattle.host_replies.proofs.Laws.{passed_on}
use Rattle.reply_records.proofs.ReplyLaws.{again_refused}
use Rattle.reply_records.proofs.rewrites.policy.Goals as goal

pub returns-in_err-settings : goal.returns-in_err-settings
returns-in_err-settings c =
    let a = c.args in
    again_refused (λ x. x.code) write_policy (read_policy a.bytes.now) (length a.room.now) c.in_err-settings.ensures refl (passed_on c.from_residual.ensures.1)
