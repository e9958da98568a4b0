-- `PoisonList::report` meets its contract. The loop's invariant: what is left to do from `at` on, done to the list as it is, gives what the
-- whole report gives (Reporting, Progress). The measure is what is left of the extent. Assumes nothing.
use mathlib.Core.Path.{refl}
use Prim.Native.Nat.{◌<◌}
use native.Mathlib.Omega.{arith}
use borrow.Author.Rules.{rules}
use Rattle.poison.proofs.Views.{valid_runs}
use Rattle.poison.proofs.ListChanges.{place_within, added_by}
use Rattle.poison.proofs.Reporting.{bounded, passes, drops, stores, answers_flagged, answers_quiet}
use Rattle.poison.proofs.list.PoisonList.report.Goals as goal

pub stretch_from-requires : goal.stretch_from-requires
stretch_from-requires c =
    let u = c.loop-at.invariant in
    (valid_runs c.loop-at.self u.sized u.valid, search rules)

-- covered lines are passed
pub loop-at-preserved-in-Covered : goal.loop-at-preserved-in-Covered
loop-at-preserved-in-Covered c =
    passes c.loop-at.invariant c.in-Covered.ensures

-- with 256 held, the stretch is dropped
pub loop-at-preserved-then-self-eq256 : goal.loop-at-preserved-then-self-eq256
loop-at-preserved-then-self-eq256 c =
    drops c.loop-at.invariant c.in-Uncovered.ensures c.if-self-eq256.true

pub overflow_add-dropped : goal.overflow_add-dropped
overflow_add-dropped c =
    let again = drops c.loop-at.invariant c.in-Uncovered.ensures c.if-self-eq256.true in
    omega (arith, bounded again, c.requires.1)

pub place-place-requires : goal.place-place-requires
place-place-requires c =
    let u = c.loop-at.invariant in valid_runs c.loop-at.self u.sized u.valid

pub put_entry-requires : goal.put_entry-requires
put_entry-requires c =
    let u = c.loop-at.invariant in
    let within = place_within c.loop-at.self u.sized _ _ u.valid.few c.place-place.ensures in
    (omega (arith, within), omega (arith, within, u.valid.few, c.if-self-eq256.false))

-- with fewer held, it becomes an entry, at the place found
pub loop-at-preserved : goal.loop-at-preserved
loop-at-preserved c =
    let u = c.loop-at.invariant in
    let fewer : c.loop-at.self.count < 256 = omega (arith, u.valid.few, c.if-self-eq256.false) in
    let within = place_within c.loop-at.self u.sized _ _ u.valid.few c.place-place.ensures in
    stores u c.in-Uncovered.ensures fewer c.requires.1 c.requires.2 c.place-place.ensures
    (added_by c.put_entry.ensures (omega (arith, within)) (omega (arith, c.put_entry.ensures.count)) refl refl)

pub overflow_add-stored : goal.overflow_add-stored
overflow_add-stored c =
    let u = c.loop-at.invariant in
    let fewer : c.loop-at.self.count < 256 = omega (arith, u.valid.few, c.if-self-eq256.false) in
    let within = place_within c.loop-at.self u.sized _ _ u.valid.few c.place-place.ensures in
    let again =
    stores u c.in-Uncovered.ensures fewer c.requires.1 c.requires.2 c.place-place.ensures
    (added_by {r = c.put_entry.new.self} c.put_entry.ensures (omega (arith, within)) refl refl refl) in
    omega (arith, bounded again, c.requires.1)

pub returns-then-dropped-gt0 : goal.returns-then-dropped-gt0
returns-then-dropped-gt0 c =
    answers_flagged c.loop-at.invariant c.loop-at-test.false c.requires.2 (omega (arith, c.if-dropped-gt0.true)) c.record_drop.ensures

pub returns-else-dropped-gt0 : goal.returns-else-dropped-gt0
returns-else-dropped-gt0 c =
    answers_quiet c.loop-at.invariant c.loop-at-test.false c.requires.2 (omega (arith, c.if-dropped-gt0.false))
