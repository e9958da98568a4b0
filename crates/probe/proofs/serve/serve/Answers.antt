-- `probe::serve::serve` meets its contract: each mark's function serves the record. Assumes nothing.
use mathlib.Core.Path.{◌≡◌, refl, sym, ◌∙◌}
use native.Mathlib.Omega.{arith}
use Rattle.std.proofs.lemmas.Grind.{common_steps}
use Rattle.std.proofs.lemmas.Bool.Decides.{nat_tests}
use Rattle.std.proofs.Common.{rules}
use Rattle.protocol.specs.Formats.{probe_least}
use Rattle.probe.specs.LabelRecords.{keeps_store, serve_area, serve_bytes}
use Rattle.probe.specs.Relations.{kept_of}
use Rattle.probe.specs.Calls.{serve_device, serve_record}
use Rattle.probe.proofs.CallLaws.{long}
use Rattle.probe.proofs.serve.serve.Goals as goal

pub command_lent-requires : goal.command_lent-requires
unfolding probe_least
command_lent-requires c = grind (arith, common_steps, long c.requires.1 c.mark.ensures c.in-17229.is, c.requires.1.command (sym c.mark.ensures ∙ c.in-17229.is))

pub get-size-requires : goal.get-size-requires
unfolding probe_least
get-size-requires c = search (rules, long c.requires.1 c.mark.ensures c.in-16722.is)

pub put_stored-end-requires : goal.put_stored-end-requires
unfolding probe_least
put_stored-end-requires c = grind (arith, common_steps, long c.requires.1 c.mark.ensures c.in-16706.is, c.requires.1.stored (sym c.mark.ensures ∙ c.in-16706.is))

pub returns-in-17229 : goal.returns-in-17229
unfolding serve_record
returns-in-17229 c = rw (← c.mark.ensures, c.in-17229.is) c.command_lent.ensures

pub returns-in-16722 : goal.returns-in-16722
unfolding serve_record serve_area
returns-in-16722 c =
    let least = c.requires.1.area (sym c.mark.ensures ∙ c.in-16722.is) in
    rw (← c.mark.ensures, c.in-16722.is) (record { line = c.put_area-end.ensures; next = (cc); valid = c.requires.0; inside = omega (arith, least) })

pub returns-in-16706 : goal.returns-in-16706
unfolding serve_record serve_bytes
returns-in-16706 c = rw (← c.mark.ensures, c.in-16706.is) (record { line = c.put_stored-end.ensures; next = refl; valid = c.requires.0; inside = c.requires.2 })

pub returns-in_default : goal.returns-in_default
unfolding serve_record
returns-in_default c =
    let held = kept_of c.args.device c.args.store.now c.args.lent in
    let same : serve_record held c.args.bytes.now ≡ keeps_store held (serve_device held.device c.args.bytes.now) = rw (← c.mark.ensures) (grind (arith, nat_tests)) in
    let served = c.serve_device-served.ensures in
    rw same (record { line = served.line; next = (cc); valid = served.valid; inside = c.requires.2 })
