-- `reply_records::replies::put_records` meets its contract: the first i records are put. Assumes nothing.
use mathlib.Core.Path.{◌≡◌, refl, ap, subst, ◌∙◌}
use Prim.Native.Nat.{ℕ, ◌+◌, ◌*◌, ◌≤◌}
use native.Mathlib.Nat.{mul-one, mul-add}
use native.Mathlib.Omega.{arith}
use borrow.Author.Rules.{rules}
use Rattle.protocol.proofs.Laws.{puts_nothing, puts_then, puts_as}
use Rattle.reply_records.specs.HostReplies.{each_of, record_columns, record_room}
use Rattle.reply_records.proofs.ReadLaws.{each_none, each_more, room_step}
use Rattle.reply_records.proofs.replies.put_records.Goals as goal

pub loop-i-init : goal.loop-i-init
loop-i-init c =
    let a = c.args in
    (refl, puts_as (puts_nothing _ _ (omega (arith, c.requires))) (each_none (record_columns a.kind a.records.now)), omega arith)

pub put_record-to-requires : goal.put_record-to-requires
put_record-to-requires c =
    let l = c.loop-i in
    let a = c.args in
    omega (arith, l.invariant.0, l.invariant.2, room_step (record_room a.kind) l.i a.n (search rules), c.requires)

pub loop-i-preserved : goal.loop-i-preserved
loop-i-preserved c =
    let l = c.loop-i in
    let a = c.args in
    let put = c.put_record-to in
    let step = room_step (record_room a.kind) l.i a.n (search rules) in
    let more : record_room a.kind * (l.i + 1) ≡ record_room a.kind * l.i + record_room a.kind = mul-add (record_room a.kind) l.i 1 ∙ ap (λ (k : ℕ). record_room a.kind * l.i + k) (mul-one (record_room a.kind)) in (
      omega (arith, put.auto, l.invariant.0),
      puts_as (puts_then l.invariant.1 put.ensures.0 (omega (arith, put.ensures.0.end, put.ensures.1, l.invariant.2, step, c.requires))) (each_more (record_columns a.kind a.records.now) l.i),
      omega (arith, put.ensures.1, l.invariant.2, more),
    )

pub returns : goal.returns
returns c =
    let l = c.loop-i in
    let a = c.args in
    let all : l.i ≡ a.n = omega arith in
    (puts_as l.invariant.1 (ap (each_of (record_columns a.kind a.records.now)) all), subst (λ (k : ℕ). l.to ≤ a.at + record_room a.kind * k) all l.invariant.2)
