-- `PoisonList::clear` meets its contract: each return is one case of what is left of the entry over the line (Cutting). Assumes nothing.
use mathlib.Core.Path.{refl}
use native.Mathlib.Omega.{arith}
use borrow.Author.Rules.{rules}
use Rattle.poison.proofs.Views.{valid_runs}
use Rattle.poison.proofs.Covering.{searched}
use Rattle.poison.proofs.ListChanges.{added_by}
use Rattle.poison.proofs.Cutting.{Over, stays, found_bounds, removes, keeps_after, keeps_before, drops_after, keeps_both}
use Rattle.poison.proofs.list.PoisonList.clear.Goals.{After-entry_at-over}
use Rattle.poison.proofs.list.PoisonList.clear.Goals as goal

-- the entry that the search found
over : (c : After-entry_at-over) → Over c.args.self.now c.args.line c.in-Some.at c.entry_at-over.result.start c.entry_at-over.result.lines c.entry_at-over.result.kind
over c =
    let f = c.in-Some.ensures in
    let e = c.entry_at-over.ensures in
    record {
      searched = searched c.args.self.now c.args.line c.in-Some.at (search rules) c.requires.0.few f.0;
      inside = f.1;
      start_is = e.start;
      lines_is = e.lines;
      kind_is = e.kind;
    }

pub cover-requires : goal.cover-requires
cover-requires c =
    valid_runs c.args.self.now (search rules) c.requires.0

pub returns-in_default : goal.returns-in_default
returns-in_default c =
    let l = c.args.self.now in
    stays (searched l c.args.line l.count (search rules) c.requires.0.few c.in_default.ensures)

pub overflow_sub-front : goal.overflow_sub-front
overflow_sub-front c =
    omega (arith, found_bounds (over (goal.at.overflow_sub-front c).After-entry_at-over))

pub overflow_sub-back : goal.overflow_sub-back
overflow_sub-back c =
    omega (arith, found_bounds (over (goal.at.overflow_sub-back c).After-entry_at-over))

pub overflow_sub-back-2 : goal.overflow_sub-back-2
overflow_sub-back-2 c =
    omega (arith, found_bounds (over (goal.at.overflow_sub-back-2 c).After-entry_at-over))

pub returns-in-0-eq0 : goal.returns-in-0-eq0
returns-in-0-eq0 c =
    removes (over (goal.at.returns-in-0-eq0 c).After-entry_at-over) c.in-0-eq0.is-0 c.in-0-eq0.is-1 c.take_entry.ensures

pub returns-in-0-default : goal.returns-in-0-default
returns-in-0-default c =
    keeps_after (over (goal.at.returns-in-0-default c).After-entry_at-over) c.in-0-default.is-0 c.in-0-default.is-1.1

pub returns-in_default-eq0 : goal.returns-in_default-eq0
returns-in_default-eq0 c =
    keeps_before (over (goal.at.returns-in_default-eq0 c).After-entry_at-over) c.in_default-eq0.is-0.1 c.in_default-eq0.is-1

pub returns-then-self-eq256 : goal.returns-then-self-eq256
returns-then-self-eq256 c =
    drops_after (over (goal.at.returns-then-self-eq256 c).After-entry_at-over) c.in_default-2.is-0.1 c.in_default-2.is-1.1 c.if-self-eq256.true c.record_drop.ensures

pub returns-else-self-eq256 : goal.returns-else-self-eq256
returns-else-self-eq256 c =
    keeps_both (over (goal.at.returns-else-self-eq256 c).After-entry_at-over) c.in_default-2.is-0.1 c.in_default-2.is-1.1 (omega (arith, c.requires.0.few, c.if-self-eq256.false)) (added_by c.put_entry.ensures (omega arith) (omega (arith, c.put_entry.ensures.count)) refl refl)
