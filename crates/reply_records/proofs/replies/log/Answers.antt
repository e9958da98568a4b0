-- `reply_records::replies::log` meets its contract. Assumes nothing.
use mathlib.Core.Path.{refl, ◌≡◌, ap}
use mathlib.Core.List.{[], ◌∷◌}
use native.Mathlib.Omega.{arith}
use lib.ListN.{length, take}
use lib.Seq.{take_all}
use Rattle.protocol.specs.Text.{bytes_column}
use Rattle.protocol.proofs.Laws.{puts_as, length_columns, length_bytes_column}
use Rattle.host_records.specs.Lines.{minus}
use Rattle.reply_records.proofs.ReadLaws.{read_put, line_given}
use Rattle.host_replies.specs.Replies.{read_log}
use Rattle.reply_records.specs.HostReplies.{log_line}
use Rattle.reply_records.proofs.replies.log.Goals as goal

pub put_some-end-requires : goal.put_some-end-requires
put_some-end-requires c =
    let put = c.put_columns-at in
    (omega arith, omega (arith, put.ensures.end, length_columns (0 ∷ []), put.auto.out, c.requires.0, c.requires.1))

pub end_line-requires : goal.end_line-requires
end_line-requires c =
    let put = c.put_columns-at in
    let some = c.put_some-end in
    let bytes = c.args.bytes.now in
    let all : length (take (length bytes) bytes) ≡ length bytes = ap length (take_all (length bytes) bytes (omega arith)) in
    omega (arith, some.ensures.end, length_bytes_column minus (take (length bytes) bytes), all, some.auto.out, put.ensures.end, length_columns (0 ∷ []), put.auto.out, c.requires.0, c.requires.1)

pub returns-in-Ok : goal.returns-in-Ok
returns-in-Ok c =
    let put = c.put_columns-at in
    let some = c.put_some-end in
    let bytes = c.args.bytes.now in
    let whole = take_all (length bytes) bytes (omega arith) in
    let all : length (take (length bytes) bytes) ≡ length bytes = ap length whole in
    line_given (λ x. x) (λ _. 0) (log_line bytes) (read_log c.args.asked bytes) c.in-Ok.ensures refl (read_put (0 ∷ []) (bytes_column minus bytes) put.ensures (puts_as some.ensures (ap (bytes_column minus) whole)) c.end_line.ensures
    (omega (arith, some.ensures.end, length_bytes_column minus (take (length bytes) bytes), all, put.ensures.end, length_columns (0 ∷ []), c.requires.0, c.requires.1)))
