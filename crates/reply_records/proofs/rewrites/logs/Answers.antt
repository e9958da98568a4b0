-- `reply_records::rewrites::logs` meets its contract: a refusal leaves the room, and what was read is written. Assumes nothing.
use native.Mathlib.Omega.{arith}
use Rattle.host_replies.proofs.Laws.{logs_whole, passed_on}
use mathlib.Core.Path.{refl}
use lib.ListN.{length, drop}
use Rattle.host_replies.specs.declared.counted.Kind.TheVariants.{SupportedLogs}
use Rattle.host_replies.specs.Replies.{read_supported_logs, logs_header}
use Rattle.protocol.proofs.Laws.{rest_of}
use Rattle.reply_records.specs.HostRewrites.{write_logs}
use Rattle.reply_records.proofs.ReplyLaws.{again_refused, again_given, counted_writes}
use Rattle.reply_records.proofs.rewrites.logs.Goals as goal

pub returns-in_err-count : goal.returns-in_err-count
returns-in_err-count c =
    let a = c.args in
    again_refused (λ x. x.code) (write_logs a.bytes.now) (read_supported_logs a.bytes.now) (length a.room.now) c.in_err-count.ensures refl (passed_on c.from_residual.ensures.1)

pub slice_bounds-write_supported_logs-count : goal.slice_bounds-write_supported_logs-count
slice_bounds-write_supported_logs-count c =
    let k = logs_whole _ c.in_ok-count.ensures in omega (arith, k.0)

pub slice_bounds-write_supported_logs-start : goal.slice_bounds-write_supported_logs-start
slice_bounds-write_supported_logs-start c =
    let k = logs_whole _ c.in_ok-count.ensures in omega (arith, k.0)

pub returns-in_err-write_supported_logs : goal.returns-in_err-write_supported_logs
returns-in_err-write_supported_logs c =
    let a = c.args in
    again_given (λ x. x.code) (write_logs a.bytes.now) (read_supported_logs a.bytes.now) (length a.room.now) c.in_ok-count.ensures refl
    (rw (passed_on c.from_residual-in_err-write_supported_logs.ensures.1) (counted_writes SupportedLogs _ (logs_header _) (drop 8 a.bytes.now) (rest_of 8 a.bytes.now) c.in_err-write_supported_logs.ensures))

pub returns : goal.returns
returns c =
    let a = c.args in
    again_given (λ x. x.code) (write_logs a.bytes.now) (read_supported_logs a.bytes.now) (length a.room.now) c.in_ok-count.ensures refl
    (counted_writes SupportedLogs _ (logs_header _) (drop 8 a.bytes.now) (rest_of 8 a.bytes.now) c.in_ok-write_supported_logs.ensures)
