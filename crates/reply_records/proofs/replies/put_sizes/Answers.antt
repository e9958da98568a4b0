-- `reply_records::replies::put_sizes` meets its contract. Assumes nothing.
use native.Mathlib.Omega.{arith}
use Rattle.protocol.specs.Text.{columns}
use Rattle.protocol.specs.Relations.{Puts}
use Rattle.protocol.proofs.Laws.{puts_as, length_columns}
use Rattle.reply_records.specs.HostReplies.{identity_numbers}
use Rattle.reply_records.proofs.replies.put_sizes.Goals as goal

pub returns : goal.returns
returns c =
    let put : Puts c.args.at (columns (identity_numbers c.args.fields)) c.args.out.now c.put_each.new.out c.put_each.result = puts_as c.put_each.ensures (cc) in
    (put, omega (arith, put.end, length_columns (identity_numbers c.args.fields)))
