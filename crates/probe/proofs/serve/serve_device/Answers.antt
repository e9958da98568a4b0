-- `probe::serve::serve_device` meets its contract: each mark's function serves the record. Assumes nothing.
use mathlib.Core.Path.{refl, sym, ◌∙◌}
use mathlib.Core.List.{[]}
use native.Mathlib.Omega.{arith}
use Rattle.std.proofs.lemmas.Grind.{common_steps}
use Rattle.std.proofs.lemmas.Bool.Decides.{nat_tests}
use Rattle.std.proofs.Common.{rules}
use Rattle.protocol.specs.Formats.{probe_least}
use Rattle.protocol.proofs.Laws.{puts_nothing, serves_as}
use Rattle.protocol.specs.Runs.{Printed}
use Rattle.mailbox.specs.State.{DeviceState, state_of}
use Rattle.probe.specs.Calls.{serve_device}
use Rattle.probe.proofs.CallLaws.{long}
use Rattle.probe.proofs.serve.serve_device.Goals as goal

pub make-requires : goal.make-requires
unfolding probe_least
make-requires c = search (rules, long c.requires.1 c.mark.ensures c.in-20055.is)

pub event-requires : goal.event-requires
unfolding probe_least
event-requires c = search (rules, long c.requires.1 c.mark.ensures c.in-17750.is)

pub media-requires : goal.media-requires
unfolding probe_least
media-requires c = search (rules, long c.requires.1 c.mark.ensures c.in-19780.is)

pub line-requires : goal.line-requires
unfolding probe_least
line-requires c = search (rules, long c.requires.1 c.mark.ensures c.in-19540.is)

pub get-room-requires : goal.get-room-requires
unfolding probe_least
get-room-requires c = search (rules, long c.requires.1 c.mark.ensures c.in-21073.is)

pub get-room-requires-in-21079 : goal.get-room-requires-in-21079
unfolding probe_least
get-room-requires-in-21079 c = search (rules, long c.requires.1 c.mark.ensures c.in-21079.is)

pub get-room-requires-in-22347 : goal.get-room-requires-in-22347
unfolding probe_least
get-room-requires-in-22347 c = search (rules, long c.requires.1 c.mark.ensures c.in-22347.is)

pub get-reply_room-requires : goal.get-reply_room-requires
unfolding probe_least
get-reply_room-requires c = search (rules, long c.requires.1 c.mark.ensures c.in-20547.is)

pub request-requires : goal.request-requires
unfolding probe_least
request-requires c = grind (arith, common_steps, long c.requires.1 c.mark.ensures c.in-21073.is, c.requires.1.request (sym c.mark.ensures ∙ c.in-21073.is))

pub read_reply-requires : goal.read_reply-requires
unfolding probe_least
read_reply-requires c = grind (arith, common_steps, long c.requires.1 c.mark.ensures c.in-21072.is, c.requires.1.reply (sym c.mark.ensures ∙ c.in-21072.is))

pub again-requires : goal.again-requires
unfolding probe_least
again-requires c = grind (arith, common_steps, long c.requires.1 c.mark.ensures c.in-21079.is, c.requires.1.again (sym c.mark.ensures ∙ c.in-21079.is))

pub walk-requires : goal.walk-requires
unfolding probe_least
walk-requires c = grind (arith, common_steps, long c.requires.1 c.mark.ensures c.in-22347.is, c.requires.1.walk (sym c.mark.ensures ∙ c.in-22347.is))

pub pool-requires : goal.pool-requires
unfolding probe_least
pool-requires c = grind (arith, common_steps, long c.requires.1 c.mark.ensures c.in-20547.is, c.requires.1.pool (sym c.mark.ensures ∙ c.in-20547.is))

pub returns-in-20055 : goal.returns-in-20055
unfolding serve_device
returns-in-20055 c = rw (← c.mark.ensures, c.in-20055.is) c.make.ensures

pub returns-in-17750 : goal.returns-in-17750
unfolding serve_device
returns-in-17750 c = rw (← c.mark.ensures, c.in-17750.is) c.event.ensures

pub returns-in-19780 : goal.returns-in-19780
unfolding serve_device
returns-in-19780 c = rw (← c.mark.ensures, c.in-19780.is) c.media.ensures

pub returns-in-19540 : goal.returns-in-19540
unfolding serve_device
returns-in-19540 c = rw (← c.mark.ensures, c.in-19540.is) c.line.ensures

pub returns-in-17747 : goal.returns-in-17747
unfolding serve_device
returns-in-17747 c = rw (← c.mark.ensures, c.in-17747.is) c.status.ensures

pub returns-in-17492 : goal.returns-in-17492
unfolding serve_device
returns-in-17492 c = rw (← c.mark.ensures, c.in-17492.is) c.total.ensures

pub returns-in-21073 : goal.returns-in-21073
unfolding serve_device
returns-in-21073 c = rw (← c.mark.ensures, c.in-21073.is) c.request.ensures

pub returns-in-21072 : goal.returns-in-21072
unfolding serve_device
returns-in-21072 c = rw (← c.mark.ensures, c.in-21072.is) c.read_reply.ensures

pub returns-in-21079 : goal.returns-in-21079
unfolding serve_device
returns-in-21079 c = rw (← c.mark.ensures, c.in-21079.is) c.again.ensures

pub returns-in-22347 : goal.returns-in-22347
unfolding serve_device
returns-in-22347 c = rw (← c.mark.ensures, c.in-22347.is) c.walk.ensures

pub returns-in-20547 : goal.returns-in-20547
unfolding serve_device
returns-in-20547 c = rw (← c.mark.ensures, c.in-20547.is) c.pool.ensures

pub returns-in_default : goal.returns-in_default
unfolding serve_device
returns-in_default c =
    let nothing : Printed DeviceState = record { line = []; next = state_of c.args.device } in
    serves_as {o = nothing} (record { line = record { puts = puts_nothing _ _ (omega arith); room = omega arith }; next = refl; valid = c.requires.0 })
    (rw (← c.mark.ensures) (grind (arith, nat_tests)))
