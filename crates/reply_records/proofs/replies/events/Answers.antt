-- `reply_records::replies::events` meets its contract. Assumes nothing.
use native.Mathlib.Omega.{arith}
use Rattle.host_replies.proofs.Laws.{events_whole}
use Rattle.reply_records.specs.HostReplies.{record_room, events_line}
use mathlib.Core.Path.{refl}
use Rattle.host_replies.specs.Replies.{read_event_records}
use Rattle.protocol.proofs.Laws.{puts_line_as, rest_of}
use Rattle.reply_records.proofs.ReadLaws.{line_given}
use Rattle.reply_records.proofs.replies.events.Goals as goal

pub slice_bounds-put_counted-count : goal.slice_bounds-put_counted-count
slice_bounds-put_counted-count c =
    let k = events_whole _ c.in-Ok.ensures in omega (arith, k.0)

pub slice_bounds-put_counted-start : goal.slice_bounds-put_counted-start
slice_bounds-put_counted-start c =
    let k = events_whole _ c.in-Ok.ensures in omega (arith, k.0)

pub put_counted-requires : goal.put_counted-requires
unfolding record_room
put_counted-requires c =
    let k = events_whole _ c.in-Ok.ensures in omega (arith, k.1, c.requires.0, c.requires.1)

pub returns-in-Ok : goal.returns-in-Ok
returns-in-Ok c =
    let bs = c.args.bytes.now in
    line_given (λ x. x.code) (λ x. x.place) (events_line bs) (read_event_records bs) c.in-Ok.ensures refl (puts_line_as c.put_counted.ensures (cc (rest_of 32 bs)))
