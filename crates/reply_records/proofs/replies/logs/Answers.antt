-- `reply_records::replies::logs` meets its contract. Assumes nothing.
use native.Mathlib.Omega.{arith}
use Rattle.host_replies.proofs.Laws.{logs_whole}
use Rattle.reply_records.specs.HostReplies.{record_room}
use Rattle.reply_records.proofs.replies.logs.Goals as goal

pub slice_bounds-put_counted-count : goal.slice_bounds-put_counted-count
slice_bounds-put_counted-count c =
    let k = logs_whole _ c.in-Ok.ensures in omega (arith, k.0)

pub slice_bounds-put_counted-start : goal.slice_bounds-put_counted-start
slice_bounds-put_counted-start c =
    let k = logs_whole _ c.in-Ok.ensures in omega (arith, k.0)

pub put_counted-requires : goal.put_counted-requires
unfolding record_room
put_counted-requires c =
    let k = logs_whole _ c.in-Ok.ensures in omega (arith, k.1, c.requires.0, c.requires.1)
