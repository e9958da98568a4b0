-- `reply_records::replies::list` meets its contract. Assumes nothing.
use native.Mathlib.Omega.{arith}
use Rattle.host_replies.proofs.Laws.{list_whole}
use Rattle.reply_records.specs.HostReplies.{record_room, list_line}
use mathlib.Core.Path.{refl}
use Rattle.host_replies.specs.Replies.{read_poison_list}
use Rattle.protocol.proofs.Laws.{puts_line_as, rest_of}
use Rattle.reply_records.proofs.ReadLaws.{line_given}
use Rattle.reply_records.proofs.replies.list.Goals as goal

pub slice_bounds-put_counted-count : goal.slice_bounds-put_counted-count
slice_bounds-put_counted-count c =
    let k = list_whole _ c.in-Ok.ensures in omega (arith, k.0)

pub slice_bounds-put_counted-start : goal.slice_bounds-put_counted-start
slice_bounds-put_counted-start c =
    let k = list_whole _ c.in-Ok.ensures in omega (arith, k.0)

pub put_counted-requires : goal.put_counted-requires
unfolding record_room
put_counted-requires c =
    let k = list_whole _ c.in-Ok.ensures in omega (arith, k.1, c.requires.0, c.requires.1)

pub returns-in-Ok : goal.returns-in-Ok
returns-in-Ok c =
    let bs = c.args.bytes.now in
    line_given (λ x. x.code) (λ x. x.place) (list_line bs) (read_poison_list bs) c.in-Ok.ensures refl (puts_line_as c.put_counted.ensures (cc (rest_of 32 bs)))
