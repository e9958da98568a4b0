-- `reply_records::rewrites::nothing` meets its contract: a refusal leaves the room. Assumes nothing.
use lib.ListN.{length}
use Rattle.host_replies.specs.Replies.{read_nothing, write_bytes}
use mathlib.Core.Path.{refl}
use mathlib.Core.List.{[]}
use Rattle.host_replies.proofs.Laws.{passed_on}
use Rattle.reply_records.proofs.ReplyLaws.{again_refused}
use Rattle.reply_records.proofs.rewrites.nothing.Goals as goal

pub returns-in_err-read_nothing : goal.returns-in_err-read_nothing
returns-in_err-read_nothing c =
    let a = c.args in
    again_refused (λ x. x) (λ _. write_bytes []) (read_nothing a.bytes.now) (length a.room.now) c.in_err-read_nothing.ensures refl (passed_on c.from_residual.ensures.1)
