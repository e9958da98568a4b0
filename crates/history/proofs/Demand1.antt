-- Demand 1 over every call: one that is refused leaves the device as the end of a due Sanitize leaves it, and gives nothing beside its number. Assumes nothing.
use mathlib.Core.Path.{◌≡◌, refl, ◌∙◌}
use Rattle.wire.specs.Returns.{Refused}
use Rattle.mailbox.specs.State.{DeviceState}
use Rattle.mailbox.proofs.Laws.{refusal, event_refusal, media_refusal, line_refusal, pool_refusal, ended_none}
use Rattle.history.specs.Calls.{Call, command, event_report, media_report, line_test, event_status, damage_total, pool_command, step}
use Rattle.history.specs.Refusals.{GivesNothing, found_by, NothingDue}

-- Whatever the call and its arguments: where it is refused, the device that follows is the one that the call found.
pub refused_step : (d : DeviceState) (c : Call) → Refused (step d c).code → (step d c).next ≡ found_by d c
unfolding step
refused_step d (command opcode payload time area room) r = (refusal d opcode payload time area room r).1
refused_step d (event_report time log bytes) r = (event_refusal d time log bytes r).1
refused_step d (media_report time address lines kind) r = (media_refusal d time address lines kind r).2
refused_step d (line_test address) r = refl
refused_step d event_status r = refl
refused_step d damage_total r = refl
refused_step d (pool_command opcode payload time room) r = refl

-- Where no Sanitize is due at its time, that is the one before.
pub found_same : (d : DeviceState) (c : Call) → NothingDue d c → found_by d c ≡ d
found_same d (command opcode payload time area room) e = ended_none d time e
found_same d (event_report time log bytes) e = ended_none d time e
found_same d (media_report time address lines kind) e = ended_none d time e
found_same d (line_test address) e = refl
found_same d event_status e = refl
found_same d damage_total e = refl
found_same d (pool_command opcode payload time room) e = refl

pub refused_same : (d : DeviceState) (c : Call) → NothingDue d c → Refused (step d c).code → (step d c).next ≡ d
refused_same d c n r = refused_step d c r ∙ found_same d c n

-- Whatever the call and its arguments: where it is refused, it gives no reply and no vector, stores nothing and tells nothing of a line.
pub refused_gives_nothing : (d : DeviceState) (c : Call) → Refused (step d c).code → GivesNothing d c
unfolding step
refused_gives_nothing d (command opcode payload time area room) r = let n = refusal d opcode payload time area room r in (n.0, n.2)
refused_gives_nothing d (event_report time log bytes) r = let n = event_refusal d time log bytes r in (n.0, n.2)
refused_gives_nothing d (media_report time address lines kind) r = let n = media_refusal d time address lines kind r in (n.0, n.1)
refused_gives_nothing d (line_test address) r = line_refusal d address r
refused_gives_nothing d event_status r = r.not_success refl
refused_gives_nothing d damage_total r = r.not_success refl
refused_gives_nothing d (pool_command opcode payload time room) r = pool_refusal d opcode payload time room r.not_success
