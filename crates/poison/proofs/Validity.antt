-- A list in memory whose view is that of a change of a valid list is valid, on every device on which the list before is. Assumes nothing.
use mathlib.Core.Path.{◌≡◌, ap}
use mathlib.Core.Bool.{false}
use Prim.Native.Nat.{ℕ, ◌+◌, ◌≤◌, ◌<◌}
use Rattle.poison.specs.declared.list.PoisonList.{PoisonList}
use Rattle.poison.specs.Runs.{run, keeps, slots}
use Rattle.poison.specs.State.{PoisonState, entry, shapes, covers, entries_of, state_of, insert_entry, ValidList}
use Rattle.poison.proofs.ListChanges.{Inserted}
use Rattle.poison.specs.Report.{report_entries, with_drop, after_report}
use Rattle.poison.specs.Clear.{cut_entries, after_clear}
use Rattle.poison.proofs.Laws.{chain_report, chain_insert_entry, chain_clear, typed_insert, typed_report, typed_clear}

module _ (l r : PoisonList) (few : r.count ≤ slots) (m : ℕ) (v : ValidList m l) where
  -- an entry more, whose lines no entry covers
  pub valid_insert : (a n kind : ℕ) → Inserted l a n kind r → 0 < n → a + n ≤ m → kind < 8 → ((k : ℕ) → a ≤ k → k < a + n → covers (entries_of l) k ≡ false) → ValidList m r
  valid_insert a n kind i p h t free =
      let e : entries_of r ≡ insert_entry (entry kind (run a n)) (entries_of l) = ap (λ (s : PoisonState). s.entries) i.state in
      record {
        few = few;
        chain = rw e (chain_insert_entry m a n kind (entries_of l) v.chain p h free);
        typed = rw e (typed_insert (entry kind (run a n)) (entries_of l) t v.typed);
      }

  -- a report
  pub valid_report : (a n kind time : ℕ) → state_of r ≡ after_report (state_of l) a n kind time → a + n ≤ m → kind < 8 → ValidList m r
  unfolding with_drop
  valid_report a n kind time q h t =
      let e : entries_of r ≡ report_entries (entries_of l) a n kind = ap (λ (s : PoisonState). s.entries) q in
      record {
        few = few;
        chain = rw e (chain_report m a n kind (entries_of l) v.chain h);
        typed = rw e (typed_report a n kind (entries_of l) t v.typed);
      }

  -- a clear
  pub valid_clear : (k time : ℕ) → state_of r ≡ after_clear (state_of l) k time → ValidList m r
  unfolding with_drop
  valid_clear k time q =
      let e : entries_of r ≡ cut_entries (keeps k (shapes (entries_of l))) k (entries_of l) = ap (λ (s : PoisonState). s.entries) q in
      record {
        few = few;
        chain = rw e (chain_clear m k (keeps k (shapes (entries_of l))) (entries_of l) v.chain);
        typed = rw e (typed_clear (keeps k (shapes (entries_of l))) k (entries_of l) v.typed);
      }
