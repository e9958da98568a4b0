-- The code's media report on a list in memory: what its loop keeps, turn by turn, and what it answers at the end. Assumes nothing.
use mathlib.Core.Path.{◌≡◌, refl, ◌∙◌}
use mathlib.Core.Bool.{true, false}
use Prim.Native.Nat.{ℕ, ◌+◌, ◌-◌, ◌≤◌, ◌<◌}
use native.Mathlib.Omega.{arith}
use lib.ListN.{length}
use Rattle.poison.specs.declared.list.PoisonList.{PoisonList}
use Rattle.poison.specs.Runs.{slots}
use Rattle.poison.specs.State.{shapes, runs_in, entries_of, state_of, capacity, ValidList}
use Rattle.poison.specs.Moved.{EntryAdded}
use Rattle.poison.specs.Search.{place_of}
use Rattle.poison.proofs.ListChanges.{inserted_there, flagged}
use Rattle.poison.specs.Report.{after_report, dropped_at, Reports}
use Rattle.poison.specs.Stretch.{Stretches}
use Rattle.poison.proofs.Views.{Sized, shapes_of, length_entries}
use Rattle.poison.proofs.Progress.{Progress, progress_bound, progress_covered, progress_dropped, progress_stored, done_stored, done_dropped, done_flagged, done_quiet}
use Rattle.poison.proofs.Validity.{valid_insert, valid_report}

-- a report of n lines from a on has come to line `at`: the list before, the list now, the lines stored and dropped so far
pub record Underway (before now : PoisonList) (a n kind at stored dropped : ℕ) : Type 0 where
  pub within : at ≤ a + n
  pub sized : Sized now
  pub valid : ValidList capacity now
  pub progress : Progress (state_of before) (state_of now) a n kind at stored dropped

-- ---- a turn, with the stretch from line `at` on
-- covered lines are passed
pub passes : {l₀ l : PoisonList} {a n kind at stored dropped stop : ℕ} → Underway l₀ l a n kind at stored dropped → Stretches (runs_in l.count l.starts l.lengths) at (a + n) stop true → Underway l₀ l a n kind stop stored dropped
passes {l₀} {l} {a} {n} {kind} {at} {stored} {dropped} u st =
    let by_entries : Stretches (shapes (entries_of l)) at (a + n) _ true = rw (shapes_of l u.sized) st in
    record {
      within = st.within;
      sized = u.sized;
      valid = u.valid;
      progress = progress_covered (state_of l₀) (state_of l) a n kind at stored dropped u.progress by_entries refl;
    }

module _ {l₀ l : PoisonList} {a n kind at stored dropped stop : ℕ} (u : Underway l₀ l a n kind at stored dropped) (st : Stretches (runs_in l.count l.starts l.lengths) at (a + n) stop false) where
  by_entries : Stretches (shapes (entries_of l)) at (a + n) stop false
  by_entries = rw (shapes_of l u.sized) st

  len : length (entries_of l) ≡ l.count
  len = length_entries l u.sized u.valid.few

  -- with 256 held, uncovered lines are dropped
  pub drops : l.count ≡ slots → Underway l₀ l a n kind stop stored (dropped + (stop - at))
  drops full =
      record {
        within = st.within;
        sized = u.sized;
        valid = u.valid;
        progress = progress_dropped (state_of l₀) (state_of l) a n kind at stored dropped u.progress by_entries refl (len ∙ full);
      }

  -- with fewer held, they become an entry, at the place found
  pub stores : l.count < slots → a + n ≤ capacity → kind < 8 → {p : ℕ} → p ≡ place_of (runs_in l.count l.starts l.lengths) at → {r : PoisonList} → EntryAdded l p at (stop - at) kind r → Underway l₀ r a n kind stop (stored + (stop - at)) dropped
  stores less top k {p} place {r} added =
      let i = inserted_there l u.sized place less added in
      let ahead = st.ahead in
      let within = st.within in
      record {
        within = st.within;
        sized = i.sized;
        valid =
            valid_insert l r (omega (arith, i.count)) capacity u.valid at (stop - at) kind i (omega arith) (omega arith) k
            (λ j v w. by_entries.same j v (omega arith));
        progress = progress_stored (state_of l₀) (state_of l) a n kind at stored dropped u.progress by_entries refl (omega (arith, len)) (state_of r) i.state;
      }

-- lines stored and dropped are lines of the extent
pub bounded : {l₀ l : PoisonList} {a n kind at stored dropped : ℕ} → Underway l₀ l a n kind at stored dropped → stored + dropped ≤ n
bounded u = progress_bound u.progress

-- ---- the end
module _ {l₀ l : PoisonList} {a n kind at stored dropped : ℕ} (u : Underway l₀ l a n kind at stored dropped) (past : a + n ≤ at) (k : kind < 8) {time : ℕ} where
  answers : (r : PoisonList) → r.count ≤ slots → state_of r ≡ after_report (state_of l₀) a n kind time → Reports l₀ a n kind time stored dropped r
  answers r few e =
      record {
        state = e;
        stored = done_stored (state_of l₀) (state_of l) a n kind at stored dropped u.progress past;
        dropped = done_dropped (state_of l₀) (state_of l) a n kind at stored dropped u.progress past;
        valid = λ m v h. valid_report l₀ r few m v a n kind time e h k;
      }

  -- lines were dropped
  pub answers_flagged : {r : PoisonList} → 0 < dropped → r ≡ dropped_at l time → Reports l₀ a n kind time stored dropped r
  answers_flagged {r} h e =
      let f = flagged l time e in
      answers r (omega (arith, f.count, u.valid.few))
      (f.state ∙ done_flagged (state_of l₀) (state_of l) a n kind at stored dropped u.progress past time h)

  -- none was
  pub answers_quiet : dropped ≡ 0 → Reports l₀ a n kind time stored dropped l
  answers_quiet h = answers l u.valid.few (done_quiet (state_of l₀) (state_of l) a n kind at stored dropped u.progress past time h)
