-- `PoisonList::place` meets its contract: the starts up to the place are at or before the line, and the others past it (Places). Assumes nothing.
use mathlib.Core.Path.{refl}
use borrow.Author.Rules.{rules}
use Rattle.poison.proofs.Places.{ascending, place_empty, place_found}
use Rattle.poison.proofs.list.PoisonList.place.Goals as goal

pub returns-then-self-eq0 : goal.returns-then-self-eq0
returns-then-self-eq0 c =
    let l = c.args.self.now in
    place_empty l.count l.starts l.lengths c.args.line c.if-self-eq0.true

pub last_start-at-requires : goal.last_start-at-requires
last_start-at-requires c =
    let l = c.args.self.now in
    ascending l.count l.starts l.lengths c.requires

pub returns : goal.returns
returns c =
    let l = c.args.self.now in
    place_found l.count l.starts l.lengths c.requires c.args.line c.last_start-at.result c.last_start-at.ensures (search rules) _ _ refl c.step.ensures
