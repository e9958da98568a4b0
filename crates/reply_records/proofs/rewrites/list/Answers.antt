-- `reply_records::rewrites::list` meets its contract: a refusal leaves the room, and what was read is written. Assumes nothing.
use native.Mathlib.Omega.{arith}
use Rattle.host_replies.proofs.Laws.{list_whole, passed_on}
use mathlib.Core.Path.{refl}
use lib.ListN.{length, drop}
use Rattle.host_replies.specs.declared.counted.Kind.TheVariants.{PoisonList}
use Rattle.host_replies.specs.Replies.{read_poison_list, list_header}
use Rattle.protocol.proofs.Laws.{rest_of}
use Rattle.reply_records.specs.HostRewrites.{write_list}
use Rattle.reply_records.proofs.ReplyLaws.{again_refused, again_given, counted_writes}
use Rattle.reply_records.proofs.rewrites.list.Goals as goal

pub returns-in_err-fields : goal.returns-in_err-fields
returns-in_err-fields c =
    let a = c.args in
    again_refused (λ x. x.code) (write_list a.bytes.now) (read_poison_list a.bytes.now) (length a.room.now) c.in_err-fields.ensures refl (passed_on c.from_residual.ensures.1)

pub slice_bounds-write_poison_list-count : goal.slice_bounds-write_poison_list-count
slice_bounds-write_poison_list-count c =
    let k = list_whole _ c.in_ok-fields.ensures in omega (arith, k.0)

pub slice_bounds-write_poison_list-start : goal.slice_bounds-write_poison_list-start
slice_bounds-write_poison_list-start c =
    let k = list_whole _ c.in_ok-fields.ensures in omega (arith, k.0)

pub returns-in_err-write_poison_list : goal.returns-in_err-write_poison_list
returns-in_err-write_poison_list c =
    let a = c.args in
    again_given (λ x. x.code) (write_list a.bytes.now) (read_poison_list a.bytes.now) (length a.room.now) c.in_ok-fields.ensures refl
    (rw (passed_on c.from_residual-in_err-write_poison_list.ensures.1) (counted_writes PoisonList _ (list_header _) (drop 32 a.bytes.now) (rest_of 32 a.bytes.now) c.in_err-write_poison_list.ensures))

pub returns : goal.returns
returns c =
    let a = c.args in
    again_given (λ x. x.code) (write_list a.bytes.now) (read_poison_list a.bytes.now) (length a.room.now) c.in_ok-fields.ensures refl
    (counted_writes PoisonList _ (list_header _) (drop 32 a.bytes.now) (rest_of 32 a.bytes.now) c.in_ok-write_poison_list.ensures)
