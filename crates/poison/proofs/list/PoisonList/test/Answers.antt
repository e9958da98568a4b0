-- `PoisonList::test` meets its contract: what the search's answer says of the line (Covering). Assumes nothing.
use borrow.Author.Rules.{rules}
use native.Mathlib.Omega.{arith}
use Rattle.poison.proofs.Covering.{searched, covered_line, uncovered_line, kind_at_place}
use Rattle.poison.proofs.Views.{Sized, shapes_runs}
use Rattle.poison.proofs.list.PoisonList.test.Goals as goal

pub cover-requires : goal.cover-requires
cover-requires c =
    let sized : Sized c.args.self.now = search rules in
    shapes_runs c.args.self.now sized c.requires

pub returns-in-Some : goal.returns-in-Some
returns-in-Some c =
    let f = c.in-Some.ensures in
    let o = searched c.args.self.now c.args.line c.in-Some.at (search rules) c.requires.few f.0 in
    rw (covered_line o f.1, kind_at_place o f.1)

pub returns-in-None : goal.returns-in-None
returns-in-None c =
    let l = c.args.self.now in
    let o = searched l c.args.line l.count (search rules) c.requires.few c.in-None.ensures in
    rw (uncovered_line o (omega arith), c.if-self.true)

pub returns-in-None-2 : goal.returns-in-None-2
returns-in-None-2 c =
    let l = c.args.self.now in
    let o = searched l c.args.line l.count (search rules) c.requires.few c.in-None.ensures in
    rw (uncovered_line o (omega arith), c.if-self.false)
