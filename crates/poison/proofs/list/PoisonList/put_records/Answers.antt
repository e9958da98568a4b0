-- `PoisonList::put_records` meets its contract: the entries from the first that ends past the first line of the range up to the first
-- that starts past its last line are those that share a line with it (Neighbours). Assumes nothing.
use mathlib.Core.Path.{refl}
use native.Mathlib.Omega.{arith}
use borrow.Author.Rules.{rules}
use Rattle.poison.proofs.Views.{valid_runs}
use Rattle.poison.proofs.Neighbours.{wrote_none, ordered, writable, wrote}
use Rattle.poison.proofs.list.PoisonList.put_records.Goals as goal

pub returns-then-lines-eq0 : goal.returns-then-lines-eq0
returns-then-lines-eq0 c =
    wrote_none _ _ _ _ _ _ c.if-lines-eq0.true (search rules)

pub first_past-first-requires : goal.first_past-first-requires
first_past-first-requires c =
    valid_runs c.args.self.now (search rules) c.requires.0

pub place-requires : goal.place-requires
place-requires c =
    valid_runs c.args.self.now (search rules) c.requires.0

pub overflow_sub-number : goal.overflow_sub-number
overflow_sub-number c =
    ordered c.args.self.now (search rules) c.requires.0 c.args.from c.args.lines _ _ c.if-lines-eq0.false c.first_past-first.ensures c.place.ensures

pub put_neighbours-requires : goal.put_neighbours-requires
put_neighbours-requires c =
    let least = c.min-m.ensures in
    (writable c.args.self.now (search rules) c.requires.0 c.args.from c.args.lines _ _ c.if-lines-eq0.false c.first_past-first.ensures c.place.ensures c.min-m.result (omega arith) c.requires.1, search rules)

pub returns : goal.returns
returns c =
    wrote c.args.self.now (search rules) c.requires.0 c.args.from c.args.lines _ _ c.if-lines-eq0.false c.first_past-first.ensures c.place.ensures c.args.limit c.args.at _ c.min-m.result _ _ refl c.min-m.ensures c.put_neighbours.ensures
