-- Demand 3 at the list, over every list of reports, injections and clearings, refused ones included: after it the list and the paper agree.
-- Assumes nothing.
use mathlib.Core.Path.{◌≡◌, refl}
use mathlib.Core.Bool.{Bool, true, false, ◌&&◌, cond}
use mathlib.Core.List.{List, [], ◌∷◌}
use Prim.Native.Nat.{ℕ, ◌+◌}
use borrow.Author.Tests.{ltb-true, leb-true}
use lib.Dec.{leb, ltb}
use Rattle.wire.proofs.Laws.{and_parts}
use Rattle.poison.specs.Report.{reportable}
use Rattle.poison.specs.Inject.{injects}
use Rattle.poison.specs.Paper.{Change, report, inject, clear, changed, written, takes, Pair, blank, step, run_changes, Agrees}
use Rattle.poison.proofs.Agreement.{Consistent, consistent_report, consistent_inject, consistent_clear, consistent_blank, agrees}

abbrev ConsistentPair : ℕ → Pair → Type 0
ConsistentPair n b = Consistent n b.list b.paper

-- a change that is taken keeps the list and the paper consistent; one that is refused alters neither
consistent_step : (n : ℕ) (b : Pair) → ConsistentPair n b → (c : Change) → ConsistentPair n (step n b c)
consistent_step n b g (report a l kind time) = go (takes n b.list (report a l kind time)) refl
  where
    go : (t : Bool) → takes n b.list (report a l kind time) ≡ t → ConsistentPair n (cond t (record { list = changed b.list (report a l kind time); paper = written b.paper (report a l kind time) }) b)
    go true e = consistent_report n b.list b.paper g a l kind time (leb-true (a + l) n (and_parts (ltb 0 l) (leb (a + l) n) (and_parts (reportable kind) (ltb 0 l && leb (a + l) n) e).1).1)
    go false e = g
consistent_step n b g (inject k) = go (takes n b.list (inject k)) refl
  where
    go : (t : Bool) → takes n b.list (inject k) ≡ t → ConsistentPair n (cond t (record { list = changed b.list (inject k); paper = written b.paper (inject k) }) b)
    go true e = consistent_inject n b.list b.paper g k (ltb-true k n (and_parts (ltb k n) (injects b.list k) e).0) (and_parts (ltb k n) (injects b.list k) e).1
    go false e = g
consistent_step n b g (clear k time) = go (takes n b.list (clear k time))
  where
    go : (t : Bool) → ConsistentPair n (cond t (record { list = changed b.list (clear k time); paper = written b.paper (clear k time) }) b)
    go true = consistent_clear n b.list b.paper g k time
    go false = g

consistent_run : (n : ℕ) (b : Pair) → ConsistentPair n b → (cs : List Change) → ConsistentPair n (run_changes n b cs)
consistent_run n b g [] = g
consistent_run n b g (c ∷ cs) = consistent_run n (step n b c) (consistent_step n b g c) cs

-- after any changes, on a device of any size, the list and the paper agree
pub list_agrees : (n : ℕ) (cs : List Change) → Agrees n (run_changes n blank cs).list (run_changes n blank cs).paper
list_agrees n cs = agrees n (run_changes n blank cs).list (run_changes n blank cs).paper (consistent_run n blank (consistent_blank n) cs)
