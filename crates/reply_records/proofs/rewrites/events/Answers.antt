-- `reply_records::rewrites::events` meets its contract: a refusal leaves the room, and what was read is written. Assumes nothing.
use native.Mathlib.Omega.{arith}
use Rattle.host_replies.proofs.Laws.{events_whole, passed_on}
use mathlib.Core.Path.{refl}
use lib.ListN.{length, drop}
use Rattle.host_replies.specs.declared.counted.Kind.TheVariants.{EventRecords}
use Rattle.host_replies.specs.Replies.{read_event_records, event_header}
use Rattle.protocol.proofs.Laws.{rest_of}
use Rattle.reply_records.specs.HostRewrites.{write_events}
use Rattle.reply_records.proofs.ReplyLaws.{again_refused, again_given, counted_writes}
use Rattle.reply_records.proofs.rewrites.events.Goals as goal

pub returns-in_err-fields : goal.returns-in_err-fields
returns-in_err-fields c =
    let a = c.args in
    again_refused (λ x. x.code) (write_events a.bytes.now) (read_event_records a.bytes.now) (length a.room.now) c.in_err-fields.ensures refl (passed_on c.from_residual.ensures.1)

pub slice_bounds-write_event_records-count : goal.slice_bounds-write_event_records-count
slice_bounds-write_event_records-count c =
    let k = events_whole _ c.in_ok-fields.ensures in omega (arith, k.0)

pub slice_bounds-write_event_records-start : goal.slice_bounds-write_event_records-start
slice_bounds-write_event_records-start c =
    let k = events_whole _ c.in_ok-fields.ensures in omega (arith, k.0)

pub returns-in_err-write_event_records : goal.returns-in_err-write_event_records
returns-in_err-write_event_records c =
    let a = c.args in
    again_given (λ x. x.code) (write_events a.bytes.now) (read_event_records a.bytes.now) (length a.room.now) c.in_ok-fields.ensures refl
    (rw (passed_on c.from_residual-in_err-write_event_records.ensures.1) (counted_writes EventRecords _ (event_header _) (drop 32 a.bytes.now) (rest_of 32 a.bytes.now) c.in_err-write_event_records.ensures))

pub returns : goal.returns
returns c =
    let a = c.args in
    again_given (λ x. x.code) (write_events a.bytes.now) (read_event_records a.bytes.now) (length a.room.now) c.in_ok-fields.ensures refl
    (counted_writes EventRecords _ (event_header _) (drop 32 a.bytes.now) (rest_of 32 a.bytes.now) c.in_ok-write_event_records.ensures)
