-- `reply_records::rewrites::identity` meets its contract: a refusal leaves the room. Assumes nothing.
use lib.ListN.{length}
use Rattle.host_replies.specs.Replies.{read_identity}
use Rattle.reply_records.specs.HostRewrites.{write_fields}
use mathlib.Core.Path.{refl}
use Rattle.host_replies.proofs.Laws.{passed_on}
use Rattle.reply_records.proofs.ReplyLaws.{again_refused}
use Rattle.reply_records.proofs.rewrites.identity.Goals as goal

pub returns-in_err-fields : goal.returns-in_err-fields
returns-in_err-fields c =
    let a = c.args in
    again_refused (λ x. x.code) write_fields (read_identity a.bytes.now) (length a.room.now) c.in_err-fields.ensures refl (passed_on c.from_residual.ensures.1)
