-- Media report (document 01, "Poison list"): "The lines that no entry covers form maximal runs; ascending, each run becomes an entry
-- of that type while fewer than 256 are held; the other runs are dropped. The answer gives lines stored and lines dropped."
use Rattle.std.specs.Prelude.{◌≡◌, Bool, true, ◌||◌, cond, List, map, ℕ, ◌+◌, ◌≤◌, leb, eqb, length, take, drop}
use Rattle.poison.specs.declared.list.PoisonList.{PoisonList}
use Rattle.poison.specs.Runs.{Run, total, room, uncovered, some_run}
use Rattle.poison.specs.State.{Entry, PoisonState, entry, shapes, insert_entries, list_of, state_of, ValidList}

-- a type that a report may name: 0, 1, 2 or 7
unfoldable pub reportable : ℕ → Bool
reportable kind = leb kind 2 || eqb kind 7

-- the runs of the n lines from a on that no entry covers; those for which there is an entry; the others
abbrev pub found : List Entry → ℕ → ℕ → List Run
found es a n = uncovered (shapes es) a n

abbrev pub stored_runs : List Entry → ℕ → ℕ → List Run
stored_runs es a n = take (room (length es)) (found es a n)

abbrev pub dropped_runs : List Entry → ℕ → ℕ → List Run
dropped_runs es a n = drop (room (length es)) (found es a n)

-- the entries after the report
unfoldable pub report_entries : List Entry → ℕ → ℕ → ℕ → List Entry
report_entries es a n kind = insert_entries (map (entry kind) (stored_runs es a n)) es

-- the answer: lines stored and lines dropped
unfoldable pub lines_stored : List Entry → ℕ → ℕ → ℕ
lines_stored es a n = total (stored_runs es a n)

unfoldable pub lines_dropped : List Entry → ℕ → ℕ → ℕ
lines_dropped es a n = total (dropped_runs es a n)

-- "A drop sets the overflow flag; the first sets the overflow time to the device time. Nothing clears the flag.":
-- the list with other entries, after some runs were dropped at a time
unfoldable pub with_drop : PoisonState → List Entry → List Run → ℕ → PoisonState
with_drop s es rs time =
    record {
      entries = es;
      overflow = s.overflow || some_run rs;
      overflow_time = cond s.overflow s.overflow_time (cond (some_run rs) time s.overflow_time);
    }

-- the list in memory after a drop at a time: the same rule, of its flag and its overflow time
abbrev pub dropped_at : PoisonList → ℕ → PoisonList
dropped_at l time = list_of l.starts l.lengths l.kinds l.count true (cond l.overflow l.overflow_time time)

-- the list after a report of n lines from a on, of a type, at a device time
abbrev pub after_report : PoisonState → ℕ → ℕ → ℕ → ℕ → PoisonState
after_report s a n kind time = with_drop s (report_entries s.entries a n kind) (dropped_runs s.entries a n) time

-- what the code's report ensures of the list before, of the lines s stored and the lines d dropped that it answers, and of the list after
pub record Reports (l : PoisonList) (a n kind time s d : ℕ) (r : PoisonList) : Type 0 where
  pub state : state_of r ≡ after_report (state_of l) a n kind time
  pub stored : s ≡ lines_stored (state_of l).entries a n
  pub dropped : d ≡ lines_dropped (state_of l).entries a n
  pub valid : (m : ℕ) → ValidList m l → a + n ≤ m → ValidList m r
