-- `probe::serve::run` meets its contract: a record served is a step of the run, and so are the end and an offset that no input reaches. Assumes nothing.
use mathlib.Core.Path.{refl, ap, ◌∙◌}
use Prim.Native.Nat.{ℕ, ◌-◌}
use native.Mathlib.Omega.{arith}
use lib.Dec.{eqb}
use lib.ListN.{length, take, drop, length-replicate}
use Rattle.protocol.specs.Records.{OneRecord}
use Rattle.protocol.specs.Runs.{reading}
use Rattle.protocol.specs.Runs.Steps.{stay}
use Rattle.protocol.proofs.Laws.{local_front, sized, ready, one_record, unread_fits, turn_served, turn_ends, run_far}
use Rattle.protocol.specs.declared.formats.Format.TheVariants.{Probe}
use Rattle.protocol.specs.Formats.{fixed, head, size}
use Rattle.probe.specs.Calls.{probe}
use Rattle.probe.specs.Relations.{kept_of}
use Rattle.probe.proofs.RunLaws.{run_from}
use Rattle.probe.proofs.serve.run.Goals as goal
use Rattle.probe.proofs.serve.run.Goals.{After-past-rest}

-- what is served is one whole record
this : (c : After-past-rest) → OneRecord (reading probe c.loop-s.s.offset) (take (c.past-rest.result.at - c.next-found.result.stream.at) (drop c.next-found.result.stream.at c.next-found.new.input))
this c =
    let first = eqb c.loop-s.s.offset 0 in
    one_record (reading probe c.loop-s.s.offset) (local_front (fixed Probe first) (head Probe) (size Probe) (sized Probe first)) c.next-found.ensures c.if-found-eq0.false (omega arith) c.past-rest.ensures

pub loop-s-init : goal.loop-s-init
loop-s-init c =
    let given = c.requires in
    record {
      input = given.0;
      out = given.1;
      reply = given.2;
      store = ap length given.3 ∙ length-replicate {A = ℕ} 8192 0;
      lent = omega arith;
      valid = c.make-made.ensures.valid;
      fits = unread_fits c.new-s.ensures;
      steps = stay;
    }

pub returns-then-found-eq0 : goal.returns-then-found-eq0
returns-then-found-eq0 c =
    let l = c.loop-s in
    let ended = turn_ends probe (kept_of l.device l.store l.lent) l.s c.next-found.result l.out 20000 c.make_room-used.result l.invariant.steps c.next-found.ensures c.make_room-used.ensures.0 (omega arith)
    c.if-found-eq0.true c.loop-s-test.true refl c.stop.ensures (omega arith) l.invariant.out in
    (ended.0, run_from _ _ c.make-made.ensures c.new-s.ensures c.requires.3 ended.1)

pub serve-served-requires : goal.serve-served-requires
serve-served-requires c =
    let inv = c.loop-s.invariant in
    (inv.valid, ready (eqb c.loop-s.s.offset 0) _ (this (goal.at.serve-served-requires c).After-past-rest), inv.lent, inv.store, inv.reply, omega arith)

pub loop-s-preserved : goal.loop-s-preserved
loop-s-preserved c =
    let l = c.loop-s in
    let served = c.serve-served.ensures in
    let again = turn_served probe (kept_of l.device l.store l.lent) l.s c.next-found.result l.out 20000 c.make_room-used.result l.invariant.steps c.next-found.ensures c.make_room-used.ensures.0
    (omega arith) c.past-rest.result c.past-rest.ensures (this (goal.at.loop-s-preserved c).After-past-rest) served.next served.line (omega arith) l.invariant.out in
    record {
      input = omega arith;
      out = omega arith;
      reply = omega arith;
      store = omega arith;
      lent = served.inside;
      valid = served.valid;
      fits = again.0;
      steps = again.1;
    }

pub returns : goal.returns
returns c =
    let l = c.loop-s in
    (l.invariant.fits.output, run_from _ _ c.make-made.ensures c.new-s.ensures c.requires.3 (run_far probe (kept_of l.device l.store l.lent) l.s l.input l.out l.invariant.steps c.loop-s-test.false))
