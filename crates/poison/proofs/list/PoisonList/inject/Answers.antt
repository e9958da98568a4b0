-- `PoisonList::inject` meets its contract: the line is covered, or 256 are held, or an entry of one line is put in at its place (Injecting,
-- ListChanges). Assumes nothing.
use Prim.Native.Nat.{◌<◌}
use mathlib.Core.Path.{refl}
use native.Mathlib.Omega.{arith}
use borrow.Author.Rules.{rules}
use Rattle.poison.proofs.Views.{valid_runs}
use Rattle.poison.proofs.Covering.{searched}
use Rattle.poison.proofs.ListChanges.{place_within, inserted_there, added_by}
use Rattle.poison.proofs.Injecting.{covered_already, no_room, put_in}
use Rattle.poison.proofs.list.PoisonList.inject.Goals as goal

pub cover-requires : goal.cover-requires
cover-requires c =
    valid_runs c.args.self.now (search rules) c.requires.0

pub returns-in-Some : goal.returns-in-Some
returns-in-Some c =
    let f = c.in-Some.ensures in
    covered_already (searched c.args.self.now c.args.line _ (search rules) c.requires.0.few f.0) f.1

pub place-place-requires : goal.place-place-requires
place-place-requires c =
    valid_runs c.args.self.now (search rules) c.requires.0

pub returns-in-None : goal.returns-in-None
returns-in-None c =
    let l = c.args.self.now in
    no_room (searched l c.args.line l.count (search rules) c.requires.0.few c.in-None.ensures) (omega arith) c.if-self-eq256.true

pub put_entry-requires : goal.put_entry-requires
put_entry-requires c =
    let within = place_within c.args.self.now (search rules) _ _ c.requires.0.few c.place-place.ensures in
    (omega (arith, within), omega (arith, within, c.requires.0.few, c.if-self-eq256.false))

pub returns-in-None-2 : goal.returns-in-None-2
returns-in-None-2 c =
    let l = c.args.self.now in
    let less : c.args.self.now.count < 256 = omega (arith, c.requires.0.few, c.if-self-eq256.false) in
    let within = place_within l (search rules) _ _ c.requires.0.few c.place-place.ensures in
    put_in (searched l c.args.line l.count (search rules) c.requires.0.few c.in-None.ensures) (omega arith) less
    (inserted_there l (search rules) c.place-place.ensures less (added_by c.put_entry.ensures (omega (arith, within)) (omega (arith, c.put_entry.ensures.count)) refl refl))
