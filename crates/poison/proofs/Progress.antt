-- A media report in progress: what is left to do from a line on, done to the list as it is there, gives what the whole report gives. Each
-- turn keeps that; at the extent's end nothing is left. Assumes nothing.
use mathlib.Core.Path.{◌≡◌, refl, sym, ap, ◌∙◌}
use mathlib.Core.Bool.{Bool, true, false, not, ◌||◌, cond}
use mathlib.Core.List.{List, ◌∷◌}
use mathlib.Core.Logic.{◌⊎◌, inl, inr}
use Prim.Native.Nat.{ℕ, suc, ◌+◌, ◌-◌, ◌≤◌, ◌<◌}
use native.Mathlib.Omega.{arith}
use borrow.Author.Tests.{lt-ltb, le-ltb}
use lib.Dec.{ltb}
use lib.ListN.{length, drop}
use lib.Seq.{take-nil, drop-nil}
use Rattle.poison.specs.Runs.{Run, run, in_run, in_runs, runs_of, uncovered, room, slots, some_run}
use Rattle.poison.specs.State.{Entry, PoisonState, shape, shapes, entry, covers, insert_entry}
use Rattle.poison.proofs.ListChanges.{with_entries}
use Rattle.poison.specs.Report.{found, dropped_runs, report_entries, lines_stored, lines_dropped, after_report}
use Rattle.poison.specs.Stretch.{Stretches}
use Rattle.poison.proofs.Counts.{past_run}
use Rattle.poison.proofs.RunLaws.{chain_runs_of, in_insert}
use Rattle.poison.proofs.Shapes.{shapes_insert, length_insert_entry}
use Rattle.poison.proofs.Overflow.{drop_none, drop_some}
use Rattle.poison.proofs.ListChanges.{state_path}
use Rattle.poison.proofs.Extents.{runs_cong, runs_skip, runs_fill, total_chain, some_total, chain_drop, total_take_drop}

-- ---- what is found from a line on, past a stretch
module _ (es : List Entry) (a e stop : ℕ) (c : Bool) (s : Stretches (shapes es) a e stop c) where
  found_covered : c ≡ true → found es a (e - a) ≡ found es stop (e - stop)
  unfolding uncovered
  found_covered g =
      let u = s.ahead in
      let v = s.within in
      let x : e - a ≡ stop - a + (e - stop) = omega arith in
      let y : a + (stop - a) ≡ stop = omega arith in
      rw x (runs_skip (λ k. not (covers es k)) a (stop - a) (e - stop) (λ k p q. ap not (s.same k p (omega arith) ∙ g)) ∙ rw y)

  found_free : c ≡ false → found es a (e - a) ≡ run a (stop - a) ∷ found es stop (e - stop)
  unfolding uncovered
  found_free g = go (s.edge g)
    where
      N : ℕ → Bool
      N k = not (covers es k)

      m : ℕ
      m = stop - a - 1

      sm : suc m ≡ stop - a
      sm = omega (arith, s.ahead)

      x : e - a ≡ suc m + (e - stop)
      x = omega (arith, s.ahead, s.within)

      y : a + suc m ≡ stop
      y = omega (arith, s.ahead)

      filled : (e - stop ≡ 0) ⊎ (N (a + suc m) ≡ false) → runs_of N a (e - a) ≡ run a (stop - a) ∷ runs_of N stop (e - stop)
      filled f = rw x (runs_fill N a m (e - stop) (λ k p q. ap not (s.same k p (omega (arith, y)) ∙ g)) f ∙ rw (y, sm))

      go : (stop ≡ e) ⊎ (covers es stop ≡ true) → runs_of N a (e - a) ≡ run a (stop - a) ∷ runs_of N stop (e - stop)
      go (inl h) = filled (inl (omega arith))
      go (inr h) = filled (inr (rw (y, h)))

  -- an entry of the stretch covers nothing past it
  found_same : (kind : ℕ) → found (insert_entry (entry kind (run a (stop - a))) es) stop (e - stop) ≡ found es stop (e - stop)
  unfolding uncovered
  found_same kind =
      runs_cong (λ k. not (covers (insert_entry E es) k)) (λ k. not (covers es k)) stop (e - stop) (λ k u v. ap not (covers_same k u))
    where
      E : Entry
      E = entry kind (run a (stop - a))

      covers_same : (k : ℕ) → stop ≤ k → covers (insert_entry E es) k ≡ covers es k
      covers_same k u =
          let q : in_run (shape E) k ≡ false = past_run (shape E) k (omega (arith, s.ahead)) in
          ap (λ (rs : List Run). in_runs rs k) (shapes_insert E es) ∙ in_insert (shape E) (shapes es) k ∙ ap (λ (b : Bool). b || covers es k) q

-- ---- a report of n lines from a on, at line `at` of it: the list before, the list now, the lines stored and dropped so far
pub record Progress (before now : PoisonState) (a n kind at stored dropped : ℕ) : Type 0 where
  pub overflow : now.overflow ≡ before.overflow
  pub time : now.overflow_time ≡ before.overflow_time
  pub entries : report_entries now.entries at (a + n - at) kind ≡ report_entries before.entries a n kind
  pub stored_lines : stored + lines_stored now.entries at (a + n - at) ≡ lines_stored before.entries a n
  pub dropped_lines : dropped + lines_dropped now.entries at (a + n - at) ≡ lines_dropped before.entries a n

-- no more lines are stored and dropped than are reported
stored_and_dropped : (es : List Entry) (a n : ℕ) → lines_stored es a n + lines_dropped es a n ≤ n
unfolding lines_stored lines_dropped uncovered
stored_and_dropped es a n =
    let N : ℕ → Bool = λ k. not (covers es k) in
    omega (arith, total_take_drop (room (length es)) (runs_of N a n), total_chain a (a + n) (runs_of N a n) (chain_runs_of N a n))

pub progress_bound : {s₀ s : PoisonState} {a n kind at stored dropped : ℕ} → Progress s₀ s a n kind at stored dropped → stored + dropped ≤ n
progress_bound {s₀} {s} {a} {n} p = omega (arith, p.stored_lines, p.dropped_lines, stored_and_dropped s₀.entries a n)

pub progress_start : (s : PoisonState) (a n kind : ℕ) → Progress s s a n kind a 0 0
progress_start s a n kind =
    let z : a + n - a ≡ n = omega arith in
    record { overflow = refl; time = refl; entries = rw z; stored_lines = rw z (omega arith); dropped_lines = rw z (omega arith) }

module _ (s₀ s : PoisonState) (a n kind at stored dropped : ℕ) (p : Progress s₀ s a n kind at stored dropped) {stop : ℕ} {c : Bool} (st : Stretches (shapes s.entries) at (a + n) stop c) where
  -- covered lines keep their entries, and are neither stored nor dropped
  pub progress_covered : c ≡ true → Progress s₀ s a n kind stop stored dropped
  unfolding report_entries lines_stored lines_dropped
  progress_covered g =
      let f = found_covered s.entries at (a + n) stop c st g in
      record {
        overflow = p.overflow;
        time = p.time;
        entries = rw (← f) p.entries;
        stored_lines = rw (← f) p.stored_lines;
        dropped_lines = rw (← f) p.dropped_lines;
      }

  -- with 256 held an uncovered run is dropped
  pub progress_dropped : c ≡ false → length s.entries ≡ slots → Progress s₀ s a n kind stop stored (dropped + (stop - at))
  unfolding report_entries lines_stored lines_dropped
  progress_dropped g full =
      let f = found_free s.entries at (a + n) stop c st g in
      let z : room (length s.entries) ≡ 0 = omega arith in
      let x = rw z at p.entries in
      let y = rw z at p.stored_lines in
      let w = rw (z, f) at p.dropped_lines in
      record {
        overflow = p.overflow;
        time = p.time;
        entries = rw z x;
        stored_lines = rw z y;
        dropped_lines = rw z (omega (arith, w));
      }

  -- with fewer held it becomes an entry
  pub progress_stored : c ≡ false → length s.entries < slots → (s' : PoisonState) → s' ≡ with_entries s (insert_entry (entry kind (run at (stop - at))) s.entries) → Progress s₀ s' a n kind stop (stored + (stop - at)) dropped
  unfolding report_entries lines_stored lines_dropped
  progress_stored g less s' h =
      let f = found_free s.entries at (a + n) stop c st g in
      let q = found_same s.entries at (a + n) stop c st kind in
      let l = length_insert_entry (entry kind (run at (stop - at))) s.entries in
      let z : room (length s.entries) ≡ suc (room (length (insert_entry (entry kind (run at (stop - at))) s.entries))) = omega arith in
      let x = rw (f, z) at p.entries in
      let y = rw (f, z) at p.stored_lines in
      let w = rw (f, z) at p.dropped_lines in
      rw h
      (record {
        overflow = p.overflow;
        time = p.time;
        entries = rw q x;
        stored_lines = rw q (omega (arith, y));
        dropped_lines = rw q w;
      })

-- ---- at the extent's end
-- nothing is left: nothing more happens
none_left : (es : List Entry) (a kind : ℕ) → report_entries es a 0 kind ≡ es
unfolding report_entries uncovered
none_left es a kind = rw (take-nil {A = Run} (room (length es)))

none_stored : (es : List Entry) (a : ℕ) → lines_stored es a 0 ≡ 0
unfolding lines_stored uncovered
none_stored es a = rw (take-nil {A = Run} (room (length es)))

none_dropped : (es : List Entry) (a : ℕ) → lines_dropped es a 0 ≡ 0
unfolding lines_dropped uncovered
none_dropped es a = rw (drop-nil {A = Run} (room (length es)))

-- a run was dropped exactly if a line was
some_dropped : (es : List Entry) (a n : ℕ) → some_run (dropped_runs es a n) ≡ ltb 0 (lines_dropped es a n)
unfolding lines_dropped uncovered
some_dropped es a n =
    let N : ℕ → Bool = λ k. not (covers es k) in
    let d = chain_drop a (a + n) (room (length es)) (runs_of N a n) (chain_runs_of N a n) in
    some_total d.0 (a + n) (drop (room (length es)) (runs_of N a n)) d.1

module _ (s₀ s : PoisonState) (a n kind at stored dropped : ℕ) (p : Progress s₀ s a n kind at stored dropped) (past : a + n ≤ at) where
  over : a + n - at ≡ 0
  over = omega arith

  pub done_entries : s.entries ≡ report_entries s₀.entries a n kind
  done_entries = sym (none_left s.entries at kind) ∙ rw over at p.entries

  pub done_stored : stored ≡ lines_stored s₀.entries a n
  done_stored = let y = rw over at p.stored_lines in omega (arith, none_stored s.entries at)

  pub done_dropped : dropped ≡ lines_dropped s₀.entries a n
  done_dropped = let y = rw over at p.dropped_lines in omega (arith, none_dropped s.entries at)

  -- lines were dropped: the flag is set, and the first drop sets the time
  pub done_flagged : (time : ℕ) → 0 < dropped → record { entries = s.entries; overflow = true; overflow_time = cond s.overflow s.overflow_time time } ≡ after_report s₀ a n kind time
  done_flagged time h =
      let e : some_run (dropped_runs s₀.entries a n) ≡ true = some_dropped s₀.entries a n ∙ lt-ltb 0 (lines_dropped s₀.entries a n) (omega (arith, done_dropped)) in
      rw (p.overflow, p.time, done_entries) (sym (drop_some s₀ (report_entries s₀.entries a n kind) (dropped_runs s₀.entries a n) time e))

  -- none was: flag and time stay
  pub done_quiet : (time : ℕ) → dropped ≡ 0 → s ≡ after_report s₀ a n kind time
  done_quiet time h =
      let e : some_run (dropped_runs s₀.entries a n) ≡ false = some_dropped s₀.entries a n ∙ le-ltb 0 (lines_dropped s₀.entries a n) (omega (arith, done_dropped)) in
      let q : s ≡ with_entries s₀ (report_entries s₀.entries a n kind) = state_path done_entries p.overflow p.time in
      q ∙ sym (drop_none s₀ (report_entries s₀.entries a n kind) (dropped_runs s₀.entries a n) time e)
