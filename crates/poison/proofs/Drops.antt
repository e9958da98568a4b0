-- What a change drops, line by line, and what the overflow flag has to do with it: the laws that say of the rules which the list and the paper of demand 3
-- share (`room`, `keeps`, `lost`, `cut`) that they are document 01's, and that the flag is set exactly where a line joins the dropped set. Assumes nothing.
use mathlib.Core.Path.{◌≡◌, refl, sym, ap, ◌∙◌}
use mathlib.Core.Bool.{Bool, true, false, not, ◌&&◌, ◌||◌, cond, true≢false, false≢true, or-true}
use mathlib.Core.List.Memᴰ
use mathlib.Core.List.{List, [], ◌∷◌, map, Memᴰ}
use mathlib.Core.Logic.{◌⊎◌, inl, inr}
use Prim.Native.Nat.{ℕ, zero, suc, ◌+◌, ◌-◌, ◌≤◌, ◌<◌}
use native.Mathlib.Omega.{arith}
use borrow.Author.Tests.{leb-true, leb-false, le-leb}
use lib.Dec.{leb, eqb}
use lib.ListN.{length, take, drop, length-map, length-take}
use Rattle.wire.proofs.Laws.{and_parts}
use Rattle.poison.specs.Runs.{Run, run, end, in_run, in_runs, total, Chain, insert_all, run_if_any, before, after, before_in, after_in, slots, room, uncovered, some_run, keeps, lost}
use Rattle.poison.specs.State.{Entry, PoisonState, shape, shapes, entry, covers}
use Rattle.poison.specs.Report.{found, stored_runs, dropped_runs, report_entries, with_drop, after_report}
use Rattle.poison.specs.Inject.{after_inject, with_entry}
use Rattle.poison.specs.Clear.{after_clear}
use Rattle.poison.specs.Paper.{Paper, fit, unfit, paper_report, paper_inject, paper_clear}
use Rattle.poison.proofs.Counts.{Place, low, mid, high, place, inside_run, past_run, chain_low}
use Rattle.poison.proofs.RunLaws.{chain_runs_of, in_part, in_cut, length_insert_all}
use Rattle.poison.proofs.Extents.{chain_drop}
use Rattle.poison.proofs.Shapes.{shapes_entry, shapes_insert_all, shapes_cut}
use Rattle.poison.proofs.Agreement.{Consistent, same_dropped, in_lost, keep_or}

-- ---- a report
-- a line of some of the runs is a line of the runs
in_drop : (m : ℕ) (rs : List Run) (k : ℕ) → in_runs (drop m rs) k ≡ true → in_runs rs k ≡ true
in_drop zero rs k e = e
in_drop (suc m) [] k e = e
in_drop (suc m) (r ∷ rs) k e = rw (in_drop m rs k e) (or-true (in_run r k))

-- a line of the later runs of a chain lies past every line of the earlier ones
later_past : (lo hi m : ℕ) (rs : List Run) → Chain lo hi rs → (j k : ℕ) → in_runs (take m rs) j ≡ true → in_runs (drop m rs) k ≡ true → j < k
later_past lo hi zero rs c j k e f = absurd (false≢true e)
later_past lo hi (suc m) [] c j k e f = absurd (false≢true e)
later_past lo hi (suc m) (r ∷ rs) c j k e f = go (place r j) (λ g. later_past (end r) hi m rs c.2 j k g f)
  where
    past : j < end r → (b : Bool) → leb (end r) k ≡ b → j < k
    past h true u = omega (arith, leb-true (end r) k u)
    past h false u = absurd (true≢false (sym (in_drop m rs k f) ∙ chain_low (end r) hi rs c.2 k (leb-false (end r) k u)))

    go : Place r j → (in_runs (take m rs) j ≡ true → j < k) → j < k
    go (low u v) rest = rest (rw v at e)
    go (mid u w v) rest = past w (leb (end r) k) refl
    go (high u w v) rest = rest (rw v at e)

-- "ascending, each run becomes an entry .. while fewer than 256 are held; the other runs are dropped": every line dropped lies past every line stored.
pub stored_first : (es : List Entry) (a n j k : ℕ) → in_runs (stored_runs es a n) j ≡ true → in_runs (dropped_runs es a n) k ≡ true → j < k
unfolding uncovered
stored_first es a n j k e f = later_past a (a + n) (room (length es)) (found es a n) (chain_runs_of (λ i. not (covers es i)) a n) j k e f

-- a list with a run past its first m has more than m
more_than : (m : ℕ) (rs : List Run) → some_run (drop m rs) ≡ true → m < length rs
more_than zero [] e = absurd (false≢true e)
more_than zero (r ∷ rs) e = omega arith
more_than (suc m) [] e = absurd (false≢true e)
more_than (suc m) (r ∷ rs) e = let h = more_than m rs e in omega arith

some_of : (rs : List Run) (k : ℕ) → in_runs rs k ≡ true → some_run rs ≡ true
some_of [] k e = e
some_of (r ∷ rs) k e = refl

-- A report drops a line only where 256 entries are held after it.
pub dropped_when_full : (es : List Entry) (a n kind k : ℕ) → length es ≤ slots → in_runs (dropped_runs es a n) k ≡ true → length (report_entries es a n kind) ≡ slots
unfolding report_entries
dropped_when_full es a n kind k few e =
    let held : shapes (report_entries es a n kind) ≡ insert_all (stored_runs es a n) (shapes es) =
    shapes_insert_all (map (entry kind) (stored_runs es a n)) es ∙ rw (shapes_entry kind (stored_runs es a n))
    in
    let long : length (report_entries es a n kind) ≡ length (stored_runs es a n) + length (shapes es) =
    sym (length-map (report_entries es a n kind) shape) ∙ ap length held ∙ length_insert_all (stored_runs es a n) (shapes es)
    in
    omega (arith, long, length-take (room (length es)) (found es a n), length-map es shape, more_than (room (length es)) (found es a n) (some_of (dropped_runs es a n) k e))

-- ---- a clearing
-- both parts of the entry over line k are left when k is cleared, and line j is in the part after
pub record BothLeft (xs : List Run) (k j : ℕ) : Type 0 where
  pub over : Run
  pub held : Memᴰ over xs
  pub part_before : over.start < k
  pub later : k < j
  pub part_after : j < end over

some_part : (a n : ℕ) → some_run (run_if_any a n) ≡ true → 0 < n
some_part a zero e = absurd (false≢true e)
some_part a (suc n) e = omega arith

-- a line of the part after
in_after : (k j : ℕ) (r : Run) → in_runs (after k r) j ≡ true → (k < j) × (j < end r)
in_after k j r e = go (place (run (suc k) (end r - suc k)) j) (sym (in_part (suc k) (end r - suc k) j) ∙ e)
  where
    go : Place (run (suc k) (end r - suc k)) j → in_run (run (suc k) (end r - suc k)) j ≡ true → (k < j) × (j < end r)
    go (low u v) f = absurd (false≢true (sym v ∙ f))
    go (mid u w v) f = (omega arith, omega arith)
    go (high u w v) f = absurd (false≢true (sym v ∙ f))

both_left : (xs : List Run) (k j : ℕ) → some_run (before_in k xs) ≡ true → in_runs (after_in k xs) j ≡ true → BothLeft xs k j
both_left [] k j e f = absurd (false≢true e)
both_left (r ∷ rs) k j e f = go (place r k) (λ x y. both_left rs k j x y)
  where
    there : BothLeft rs k j → BothLeft (r ∷ rs) k j
    there p = record { over = p.over; held = Memᴰ.tail p.held; part_before = p.part_before; later = p.later; part_after = p.part_after }

    here : some_run (before k r) ≡ true → in_runs (after k r) j ≡ true → BothLeft (r ∷ rs) k j
    here x y =
        let t = in_after k j r y in
        let front = some_part r.start (k - r.start) x in
        record { over = r; held = Memᴰ.head refl; part_before = omega arith; later = t.0; part_after = t.1 }

    go : Place r k → (some_run (before_in k rs) ≡ true → in_runs (after_in k rs) j ≡ true → BothLeft rs k j) → BothLeft (r ∷ rs) k j
    go (low u v) rest = there (rest (rw v at e) (rw v at f))
    go (mid u w v) rest = here (rw v at e) (rw v at f)
    go (high u w v) rest = there (rest (rw v at e) (rw v at f))

-- "With 256 held and both parts left, the part after is dropped.": a clearing of line k drops line j only then,
pub dropped_by_clear : (xs : List Run) (k j : ℕ) → in_runs (lost k xs) j ≡ true → (slots ≤ length xs) × BothLeft xs k j
unfolding keeps
dropped_by_clear xs k j e = go (leb slots (length xs)) (some_run (before_in k xs)) (some_run (after_in k xs)) refl refl (sym (in_lost k xs j) ∙ e)
  where
    go : (a b c : Bool) → leb slots (length xs) ≡ a → some_run (before_in k xs) ≡ b → (not (not (a && (b && c))) && in_runs (after_in k xs) j) ≡ true → (slots ≤ length xs) × BothLeft xs k j
    go true true c f g h = (leb-true slots (length xs) f, both_left xs k j g (and_parts (not (not c)) (in_runs (after_in k xs) j) h).1)
    go true false c f g h = absurd (false≢true h)
    go false b c f g h = absurd (false≢true h)

-- the run of a chain over line k is the one that is looked at
found_over : (lo hi : ℕ) (xs : List Run) (k : ℕ) (r : Run) → Chain lo hi xs → Memᴰ r xs → in_run r k ≡ true
    → (lo ≤ k) × (before_in k xs ≡ before k r) × (after_in k xs ≡ after k r)
found_over lo hi [] k r c m e = absurd (Memᴰ.not-nil m)
found_over lo hi (x ∷ xs) k r c m e = go (Memᴰ.cases_cons m) (λ n. found_over (end x) hi xs k r c.2 n e)
  where
    start_low : Place r k → r.start ≤ k
    start_low (low u v) = absurd (false≢true (sym v ∙ e))
    start_low (mid u w v) = u
    start_low (high u w v) = u

    go : (r ≡ x) ⊎ Memᴰ r xs → (Memᴰ r xs → (end x ≤ k) × (before_in k xs ≡ before k r) × (after_in k xs ≡ after k r))
        → (lo ≤ k) × (before_in k (x ∷ xs) ≡ before k r) × (after_in k (x ∷ xs) ≡ after k r)
    go (inl q) rest =
        let f : in_run x k ≡ true = rw (← q) e in
        let s : x.start ≤ k = rw q at (start_low (place r k)) in
        (omega arith, rw (f, q), rw (f, q))
    go (inr n) rest =
        let t = rest n in
        let f : in_run x k ≡ false = past_run x k t.0 in
        (omega arith, rw f t.1, rw f t.2)

-- and then it drops every such line.
pub all_dropped_by_clear : (lo hi : ℕ) (xs : List Run) (k j : ℕ) → Chain lo hi xs → slots ≤ length xs → BothLeft xs k j → in_runs (lost k xs) j ≡ true
unfolding keeps
all_dropped_by_clear lo hi xs k j c full b =
    in_lost k xs j ∙ rw (le-leb slots (length xs) full, t.1, t.2) (go (k - b.over.start) refl (end b.over - suc k) refl)
  where
    r : Run
    r = b.over

    t : (lo ≤ k) × (before_in k xs ≡ before k r) × (after_in k xs ≡ after k r)
    t = found_over lo hi xs k r c b.held (inside_run r k (omega (arith, b.part_before)) (omega (arith, b.later, b.part_after)))

    go : (f : ℕ) → k - r.start ≡ f → (g : ℕ) → end r - suc k ≡ g
        → (not (not (some_run (run_if_any r.start f) && some_run (run_if_any (suc k) g))) && in_runs (run_if_any (suc k) g) j) ≡ true
    go zero p g q = absurd (omega (arith, b.part_before))
    go (suc f) p zero q = absurd (omega (arith, b.later, b.part_after))
    go (suc f) p (suc g) q = in_part (suc k) (suc g) j ∙ inside_run (run (suc k) (suc g)) j (omega (arith, b.later)) (omega (arith, b.part_after))

-- After a clearing of line k a line is covered exactly if it was covered, is not k and was not dropped.
pub left_by_clear : (n : ℕ) (s : PoisonState) (k time j : ℕ) → Chain 0 n (shapes s.entries)
    → covers (after_clear s k time).entries j ≡ (covers s.entries j && not (eqb j k) && not (in_runs (lost k (shapes s.entries)) j))
unfolding with_drop
left_by_clear n s k time j c =
    let E : List Run = shapes s.entries in
    ap (λ (ys : List Run). in_runs ys j) (shapes_cut (keeps k E) k s.entries)
    ∙ in_cut 0 n (keeps k E) k E c j
    ∙ rw (keep_or (keeps k E) (in_runs (after_in k E) j), in_lost k E j)

-- ---- the overflow flag
-- A change never clears the flag, and where it sets the flag, some line is in the dropped set after it. (That a line is in the dropped set only while the
-- flag is set is `never` of `Consistent`.)
pub record Flags (s t : PoisonState) (p : Paper) : Type 0 where
  pub stays : s.overflow ≡ true → t.overflow ≡ true
  pub sets : s.overflow ≡ false → t.overflow ≡ true → ((k : ℕ) × (p.dropped k ≡ true))

-- some runs of a chain have a line
has_a_line : (lo hi : ℕ) (rs : List Run) → Chain lo hi rs → some_run rs ≡ true → ((k : ℕ) × (in_runs rs k ≡ true))
has_a_line lo hi [] c e = absurd (false≢true e)
has_a_line lo hi (r ∷ rs) c e = (r.start, rw (inside_run r r.start (omega arith) (omega arith)))

-- the part after line k of the run over it, as a chain
chain_after : (k : ℕ) (xs : List Run) → Chain (suc k) (suc k + total (after_in k xs)) (after_in k xs)
chain_after k [] = omega arith
chain_after k (r ∷ rs) = go (in_run r k) (chain_after k rs)
  where
    part : (m : ℕ) → Chain (suc k) (suc k + total (run_if_any (suc k) m)) (run_if_any (suc k) m)
    part zero = omega arith
    part (suc m) = (omega arith, omega arith, omega arith)

    go : (b : Bool) → Chain (suc k) (suc k + total (after_in k rs)) (after_in k rs)
        → Chain (suc k) (suc k + total (cond b (after k r) (after_in k rs))) (cond b (after k r) (after_in k rs))
    go true c = part (end r - suc k)
    go false c = c

module _ (n : ℕ) (s : PoisonState) (p : Paper) (g : Consistent n s p) where
  pub report_flags : (a l kind time : ℕ) → Flags s (after_report s a l kind time) (paper_report p a l)
  unfolding with_drop paper_report uncovered
  report_flags a l kind time = record { stays = λ e. rw e; sets = λ e f. joins (some (rw e at f)) }
    where
      E : List Run
      E = p.entries

      some : some_run (dropped_runs s.entries a l) ≡ true → ((k : ℕ) × (in_runs (unfit E a l) k ≡ true))
      some e =
          let c = chain_drop a (a + l) (room (length E)) (uncovered E a l) (chain_runs_of (λ j. not (in_runs E j)) a l) in
          has_a_line c.0 (a + l) (unfit E a l) c.1 (sym (same_dropped s E a l g.same) ∙ e)

      -- a line that is dropped is stored by no run: it would lie past itself
      joins : ((k : ℕ) × (in_runs (unfit E a l) k ≡ true)) → ((k : ℕ) × (((p.dropped k || in_runs (unfit E a l) k) && not (in_runs (fit E a l) k)) ≡ true))
      joins (k, e) = (k, rw (e, or-true (p.dropped k)) (go (in_runs (fit E a l) k) (λ f. later_past a (a + l) (room (length E)) (uncovered E a l) (chain_runs_of (λ j. not (in_runs E j)) a l) k k f e)))
        where
          go : (b : Bool) → (b ≡ true → k < k) → not b ≡ true
          go true f = absurd (omega (arith, f refl))
          go false f = refl

  pub inject_flags : (k : ℕ) → Flags s (after_inject s k) (paper_inject p k)
  inject_flags k = go (covers s.entries k)
    where
      go : (b : Bool) → Flags s (cond b s (with_entry s k)) (paper_inject p k)
      go true = record { stays = λ e. e; sets = λ e f. absurd (false≢true (sym e ∙ f)) }
      go false = record { stays = λ e. e; sets = λ e f. absurd (false≢true (sym e ∙ f)) }

  pub clear_flags : (k time : ℕ) → Flags s (after_clear s k time) (paper_clear p k)
  unfolding with_drop paper_clear
  clear_flags k time = record { stays = λ e. rw e; sets = λ e f. joins (lost_line (rw (e, g.same) at f)) }
    where
      E : List Run
      E = p.entries

      lost_line : some_run (lost k E) ≡ true → ((j : ℕ) × (in_runs (lost k E) j ≡ true))
      lost_line e = go (keeps k E) (after_in k E) (chain_after k E) e
        where
          go : (b : Bool) (rs : List Run) → Chain (suc k) (suc k + total rs) rs → some_run (cond b [] rs) ≡ true → ((j : ℕ) × (in_runs (cond b [] rs) j ≡ true))
          go true rs c h = absurd (false≢true h)
          go false rs c h = has_a_line (suc k) (suc k + total rs) rs c h

      joins : ((j : ℕ) × (in_runs (lost k E) j ≡ true)) → ((j : ℕ) × (((p.dropped j && not (eqb j k)) || in_runs (lost k E) j) ≡ true))
      joins (j, e) = (j, rw e (or-true (p.dropped j && not (eqb j k))))
