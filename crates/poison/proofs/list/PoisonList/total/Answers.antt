-- `PoisonList::total` meets its contract: the sum over its array of lengths is the damage total of the view (ListChanges). Assumes nothing.
use mathlib.Core.Path.{◌∙◌}
use borrow.Author.Rules.{rules}
use Rattle.poison.proofs.Views.{Sized}
use Rattle.poison.proofs.ListChanges.{sum_total}
use Rattle.poison.proofs.list.PoisonList.total.Goals as goal

pub returns : goal.returns
returns c =
    let sized : Sized c.args.self.now = search rules in
    c.line_sum.ensures ∙ sum_total c.args.self.now sized
