-- `bench::serve::serve` meets its contract. `again` is what every arm shares: a record served leads to the next turn. Assumes nothing.
use mathlib.Core.Path.{◌≡◌, refl, sym, ◌∙◌}
use mathlib.Core.List.{List}
use Prim.Native.Nat.{ℕ, ◌+◌, ◌-◌, ◌<◌, ◌≤◌}
use native.Mathlib.Omega.{arith}
use lib.Dec.{eqb}
use lib.ListN.{length, take, drop}
use Rattle.mailbox.specs.declared.device.Device.{Device}
use Rattle.protocol.specs.Stream.{Fits}
use Rattle.protocol.specs.Records.{OneRecord}
use Rattle.protocol.specs.Runs.{reading, machine_of, Steps}
use Rattle.protocol.specs.Runs.Steps.{stay}
use Rattle.protocol.proofs.Laws.{sized, local_front, mark_there, one_record, with_used, turn_served, turn_ends, run_far}
use Rattle.protocol.specs.declared.formats.Format.TheVariants.{Bench}
use Rattle.protocol.specs.Formats.{fixed, head, size}
use Rattle.bench.specs.Calls.{serve_record, bench}
use Rattle.bench.specs.Relations.{kept_of, Leaves}
use Rattle.bench.proofs.RecordLaws.{command_long, event_long, media_long, line_long, marked}
use Rattle.bench.proofs.CallLaws.{event_served, line_stays, area_kept, leaves_as, by_command, by_event, by_media, by_line}
use Rattle.bench.proofs.serve.serve.Goals as goal
use Rattle.bench.proofs.serve.serve.Goals.{After-past-rest}

-- the record found, which is one whole record
abbrev bytes_of : After-past-rest → List ℕ
bytes_of c = take (c.past-rest.result.at - c.next-found.result.stream.at) (drop c.next-found.result.stream.at c.next-found.new.input)

long : (c : After-past-rest) → length c.next-found.new.input ≡ 65536
long c = omega (arith, c.next-found.auto, c.loop-s.invariant.input)

found : (c : After-past-rest) → OneRecord (reading bench c.loop-s.s.offset) (bytes_of c)
found c =
    let first = eqb c.loop-s.s.offset 0 in
    one_record (reading bench c.loop-s.s.offset) (local_front (fixed Bench first) (head Bench) (size Bench) (sized Bench first)) c.next-found.ensures c.if-found-eq0.false (long c) c.past-rest.ensures

later : (c : After-past-rest) → 0 < c.past-rest.result.offset
later c = omega (arith, c.past-rest.ensures.offset, c.next-found.ensures.same.place, c.loop-s.invariant.later)

again : (c : After-past-rest) {device : Device} {used : ℕ} {area out : List ℕ}
    → Leaves (serve_record (kept_of c.loop-s.device c.loop-s.area) (bytes_of c)) c.make_room-used.result (record { used = used; device = device }) area c.loop-s.out out
    → Fits (with_used c.past-rest.result used)
    × Steps bench (machine_of (kept_of c.args.made c.args.area.now) c.args.start c.args.input.now c.args.out.now) (machine_of (kept_of device area) (with_used c.past-rest.result used) c.next-found.new.input out)
again c served =
    let l = c.loop-s in
    turn_served bench (kept_of l.device l.area) l.s c.next-found.result l.out 4200 c.make_room-used.result l.invariant.came c.next-found.ensures c.make_room-used.ensures.0 (long c)
    c.past-rest.result c.past-rest.ensures (found c) served.next served.line (omega (arith, c.make_room-used.ensures.1, l.invariant.out)) l.invariant.out

pub loop-s-init : goal.loop-s-init
loop-s-init c =
    let given = c.requires in
    record { input = given.3; out = given.4; reply = given.5; area = refl; valid = given.0; fits = given.1; later = given.2; came = stay }

pub returns-then-found-eq0 : goal.returns-then-found-eq0
returns-then-found-eq0 c =
    let l = c.loop-s in
    turn_ends bench (kept_of l.device l.area) l.s c.next-found.result l.out 4200 c.make_room-used.result l.invariant.came c.next-found.ensures c.make_room-used.ensures.0
    (omega (arith, c.next-found.auto, l.invariant.input)) c.if-found-eq0.true c.loop-s-test.true refl c.stop.ensures (omega (arith, c.make_room-used.ensures.1, l.invariant.out)) l.invariant.out

pub mark-requires : goal.mark-requires
mark-requires c =
    let place = (goal.at.mark-requires c).After-past-rest in
    let first = eqb c.loop-s.s.offset 0 in
    mark_there (fixed Bench first) (head Bench) (size Bench) (sized Bench first) (bytes_of place) (found place)

pub command-served-requires : goal.command-served-requires
command-served-requires c =
    let place = (goal.at.command-served-requires c).After-past-rest in
    let this = sym c.mark.ensures ∙ c.in-17229.is in
    let room : c.make_room-used.result + 4200 ≤ length c.loop-s.out = omega (arith, c.make_room-used.ensures.1, c.loop-s.invariant.out) in
    (c.loop-s.invariant.valid, command_long c.loop-s.s.offset (bytes_of place) c.loop-s.invariant.later (found place) this, c.loop-s.invariant.reply, room)

pub call_event-answer-requires : goal.call_event-answer-requires
call_event-answer-requires c =
    let place = (goal.at.call_event-answer-requires c).After-past-rest in
    let this = sym c.mark.ensures ∙ c.in-17750.is in
    (c.loop-s.invariant.valid, event_long c.loop-s.s.offset (bytes_of place) c.loop-s.invariant.later (found place) this)

pub media-served-requires : goal.media-served-requires
media-served-requires c =
    let place = (goal.at.media-served-requires c).After-past-rest in
    let this = sym c.mark.ensures ∙ c.in-19780.is in
    let room : c.make_room-used.result + 4200 ≤ length c.loop-s.out = omega (arith, c.make_room-used.ensures.1, c.loop-s.invariant.out) in
    (c.loop-s.invariant.valid, media_long c.loop-s.s.offset (bytes_of place) c.loop-s.invariant.later (found place) this, room)

pub line-requires : goal.line-requires
line-requires c =
    let place = (goal.at.line-requires c).After-past-rest in
    let this = sym c.mark.ensures ∙ c.in-19540.is in
    let room : c.make_room-used.result + 4200 ≤ length c.loop-s.out = omega (arith, c.make_room-used.ensures.1, c.loop-s.invariant.out) in
    (c.loop-s.invariant.valid, line_long c.loop-s.s.offset (bytes_of place) c.loop-s.invariant.later (found place) this, room)

pub unreachable-requires : goal.unreachable-requires
unreachable-requires c =
    let place = (goal.at.unreachable-requires c).After-past-rest in
    let seen = c.mark.ensures in
    marked c.loop-s.s.offset (bytes_of place) c.loop-s.invariant.later (found place)
    (λ e. omega (arith, seen, e)) (λ e. omega (arith, seen, e)) (λ e. omega (arith, seen, e)) (λ e. omega (arith, seen, e))

pub loop-s-preserved-in-17229 : goal.loop-s-preserved-in-17229
loop-s-preserved-in-17229 c =
    let place = (goal.at.loop-s-preserved-in-17229 c).After-past-rest in
    let this = sym c.mark.ensures ∙ c.in-17229.is in
    let call = c.command-served in
    let turn = again place (leaves_as call.ensures (by_command (kept_of c.loop-s.device c.loop-s.area) (bytes_of place) this)) in
    record { input = long place; out = omega (arith, call.auto); reply = omega (arith, call.auto); area = omega (arith, call.auto); valid = call.ensures.valid; fits = turn.0; later = later place; came = turn.1 }

pub loop-s-preserved-in-17750 : goal.loop-s-preserved-in-17750
loop-s-preserved-in-17750 c =
    let place = (goal.at.loop-s-preserved-in-17750 c).After-past-rest in
    let this = sym c.mark.ensures ∙ c.in-17750.is in
    let served = event_served (bytes_of place) c.call_event-answer.ensures c.put_event.ensures in
    let turn = again place (leaves_as (area_kept (kept_of c.loop-s.device c.loop-s.area) served) (by_event (kept_of c.loop-s.device c.loop-s.area) (bytes_of place) this)) in
    record { input = long place; out = omega (arith, c.put_event.auto); reply = c.loop-s.invariant.reply; area = c.loop-s.invariant.area; valid = served.valid; fits = turn.0; later = later place; came = turn.1 }

pub loop-s-preserved-in-19780 : goal.loop-s-preserved-in-19780
loop-s-preserved-in-19780 c =
    let place = (goal.at.loop-s-preserved-in-19780 c).After-past-rest in
    let this = sym c.mark.ensures ∙ c.in-19780.is in
    let call = c.media-served in
    let turn = again place (leaves_as (area_kept (kept_of c.loop-s.device c.loop-s.area) call.ensures) (by_media (kept_of c.loop-s.device c.loop-s.area) (bytes_of place) this)) in
    record { input = long place; out = omega (arith, call.auto); reply = c.loop-s.invariant.reply; area = c.loop-s.invariant.area; valid = call.ensures.valid; fits = turn.0; later = later place; came = turn.1 }

pub loop-s-preserved : goal.loop-s-preserved
loop-s-preserved c =
    let place = (goal.at.loop-s-preserved c).After-past-rest in
    let this = sym c.mark.ensures ∙ c.in-19540.is in
    let call = c.line in
    let served = line_stays (bytes_of place) {d = c.loop-s.device} call.ensures c.loop-s.invariant.valid in
    let turn = again place (leaves_as (area_kept (kept_of c.loop-s.device c.loop-s.area) served) (by_line (kept_of c.loop-s.device c.loop-s.area) (bytes_of place) this)) in
    record { input = long place; out = omega (arith, call.auto); reply = c.loop-s.invariant.reply; area = c.loop-s.invariant.area; valid = c.loop-s.invariant.valid; fits = turn.0; later = later place; came = turn.1 }

pub returns : goal.returns
returns c =
    let l = c.loop-s in
    (l.invariant.fits.output, run_far bench (kept_of l.device l.area) l.s l.input l.out l.invariant.came c.loop-s-test.false)
