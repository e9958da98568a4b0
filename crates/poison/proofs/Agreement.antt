-- Demand 3 at the list: what holds of the list and the paper (`Consistent`) is kept by each of the three changes, and gives what the demand asks
-- (`Agrees`). The crate `history` lifts the three `consistent-..` laws to every list of calls on a device. Assumes nothing.
use mathlib.Core.Path.{◌≡◌, refl, sym, ap, ◌∙◌}
use mathlib.Core.Bool.{Bool, true, false, not, ◌&&◌, ◌||◌, cond, true≢false, false≢true, or-false, or-true, and-true, and-false}
use mathlib.Core.List.{List, [], ◌∷◌, map}
use Prim.Native.Nat.{ℕ, zero, suc, ◌+◌, ◌≤◌, ◌<◌}
use native.Mathlib.Omega.{arith}
use borrow.Author.Tests.{ltb-true}
use lib.Dec.{ltb, eqb}
use lib.ListN.{length, take, drop, get_or, length-map, length-take, take-append-drop}
use Rattle.wire.proofs.Laws.{and_parts}
use Rattle.poison.specs.Runs.{Run, run, end, in_run, in_runs, Chain, insert, runs_of, cut, after_in, slots, room, uncovered, some_run, keeps, lost}
use Rattle.poison.specs.State.{PoisonState, empty, shape, entry, shapes, covers, kind_at}
use Rattle.poison.specs.Report.{with_drop, dropped_runs, report_entries, after_report}
use Rattle.poison.specs.LineTest.{line_test, answer_number}
use Rattle.poison.specs.Inject.{after_inject}
use Rattle.poison.specs.Clear.{after_clear}
use Rattle.poison.specs.Paper.{Paper, blank_paper, paper_report, paper_inject, paper_clear, fit, unfit, Agrees}
use Rattle.poison.specs.declared.line_test.LineTest.TheVariants.{Clean, Damaged, Unknown}
use Rattle.poison.proofs.Counts.{or_left, or_right, count_cong, count_or, count_chain, chain_low, Place, low, mid, high, place}
use Rattle.poison.proofs.RunLaws.{in_runs_of, chain_runs_of, in_insert, chain_insert, length_insert, in_insert_all, length_insert_all, chain_insert_all, in_append, chain_take, in_cut, chain_cut, few_cut, after_within}
use Rattle.poison.proofs.Shapes.{shapes_entry, shapes_insert, shapes_insert_all, shapes_cut}

-- what holds of the list and the paper after each change: the list has the paper's entries, at most 256, in a chain on the device; a line is in the
-- paper set exactly if an entry covers it or it was dropped, and never both; while the flag is clear the dropped set is empty; every line of
-- the paper set is on the device
pub record Consistent (n : ℕ) (s : PoisonState) (p : Paper) : Type 0 where
  pub same : shapes s.entries ≡ p.entries
  pub few : length p.entries ≤ slots
  pub chain : Chain 0 n p.entries
  pub split : (k : ℕ) → p.set k ≡ (in_runs p.entries k || p.dropped k)
  pub apart : (k : ℕ) → (in_runs p.entries k && p.dropped k) ≡ false
  pub never : s.overflow ≡ false → (k : ℕ) → p.dropped k ≡ false
  pub inside : (k : ℕ) → p.set k ≡ true → k < n

-- ---- what follows from it
none_at : (rs : List Run) (j k : ℕ) → j < length rs → in_runs rs k ≡ false → in_run (get_or rs j (run 0 0)) k ≡ false
none_at [] j k h e = absurd (omega arith)
none_at (r ∷ rs) zero k h e = go (in_run r k) e
  where
    go : (b : Bool) → (b || in_runs rs k) ≡ false → b ≡ false
    go true z = z
    go false z = refl
none_at (r ∷ rs) (suc j) k h e = none_at rs j k (omega arith) (go (in_run r k) e)
  where
    go : (b : Bool) → (b || in_runs rs k) ≡ false → in_runs rs k ≡ false
    go true z = absurd (true≢false z)
    go false z = z

chain_apart : (lo hi : ℕ) (rs : List Run) → Chain lo hi rs → (i j k : ℕ) → i < j → j < length rs → in_run (get_or rs i (run 0 0)) k ≡ true → in_run (get_or rs j (run 0 0)) k ≡ false
chain_apart lo hi [] c i j k h l e = absurd (omega arith)
chain_apart lo hi (r ∷ rs) c i zero k h l e = absurd (omega arith)
chain_apart lo hi (r ∷ rs) c zero (suc j) k h l e = none_at rs j k (omega arith) (go (place r k))
  where
    go : Place r k → in_runs rs k ≡ false
    go (low u v) = absurd (false≢true (sym v ∙ e))
    go (mid u w v) = chain_low (end r) hi rs c.2 k w
    go (high u w v) = absurd (false≢true (sym v ∙ e))
chain_apart lo hi (r ∷ rs) c (suc i) (suc j) k h l e = chain_apart (end r) hi rs c.2 i j k (omega arith) (omega arith) e

-- the line test says Clean of a line that is not covered, with the flag clear, and of no other
clean_is : (c o : Bool) (q : ℕ) → answer_number (cond c (Damaged q) (cond o Unknown Clean)) ≡ 0 → (c ≡ false) × (o ≡ false)
clean_is true o q e = absurd (omega arith)
clean_is false true q e = absurd (omega arith)
clean_is false false q e = (refl, refl)

pub agrees : (n : ℕ) (s : PoisonState) (p : Paper) → Consistent n s p → Agrees n s p
agrees n s p g =
    record {
      entries = g.same;
      apart = λ i j k h l e. chain_apart 0 n (shapes s.entries) (rw g.same g.chain) i j k h (rw (length-map s.entries shape) l) e;
      size =
          count_cong p.set (λ k. in_runs p.entries k || p.dropped k) n (λ k h. g.split k)
          ∙ count_or (in_runs p.entries) p.dropped n g.apart
          ∙ rw (g.same, count_chain 0 n p.entries g.chain);
      flag = flag;
      not_clean = not_clean;
      clean_else = clean_else;
      inside = g.inside;
      dropped_inside = λ k e. g.split k ∙ rw e (or-true (in_runs p.entries k));
    }
  where
    not_clean : (k : ℕ) → k < n → p.set k ≡ true → answer_number (line_test (s) k) ≡ 0 → ⊥
    not_clean k h e f =
        let t = clean_is (covers s.entries k) s.overflow (kind_at s.entries k) f in
        let u : in_runs p.entries k ≡ false = rw (← g.same) t.0 in
        true≢false (sym e ∙ g.split k ∙ rw (u, g.never t.1 k))

    flag : (k : ℕ) → p.dropped k ≡ true → s.overflow ≡ true
    flag k e = go s.overflow g.never
      where
        go : (b : Bool) → (b ≡ false → (j : ℕ) → p.dropped j ≡ false) → b ≡ true
        go true f = refl
        go false f = absurd (true≢false (sym e ∙ f refl k))

    clean_else : s.overflow ≡ false → (k : ℕ) → k < n → p.set k ≡ false → answer_number (line_test (s) k) ≡ 0
    clean_else o k h e = rw (g.same, o, uncov (in_runs p.entries k) (p.dropped k) (sym (g.split k) ∙ e))
      where
        uncov : (x y : Bool) → (x || y) ≡ false → x ≡ false
        uncov true y z = z
        uncov false y z = refl

-- ---- a report
-- line by line: s the paper set, c covered, d dropped, t newly stored, u newly dropped, x in the extent
media_split : (c t d u s x : Bool) → s ≡ (c || d) → (t || u) ≡ (x && not c) → (s || x) ≡ ((t || c) || ((d || u) && not t))
media_split true true d u s x p q = rw p
media_split true false d u s x p q = rw p
media_split false true d u s x p q = rw (p, sym (and-true x) ∙ sym q) (or-true d)
media_split false false d u s x p q = rw (p, sym (and-true x) ∙ sym q) (sym (and-true (d || u)))

media_apart : (c t d u x : Bool) → (c && d) ≡ false → (t || u) ≡ (x && not c) → ((t || c) && ((d || u) && not t)) ≡ false
media_apart c true d u x p q = and-false (d || u)
media_apart true false d u x p q = rw (p, q ∙ and-false x)
media_apart false false d u x p q = refl

-- none dropped: no run, no line
no_run : (rs : List Run) (k : ℕ) → some_run rs ≡ false → in_runs rs k ≡ false
no_run [] k e = refl
no_run (r ∷ rs) k e = absurd (true≢false e)

-- the runs stored and the runs dropped have the uncovered lines of the extent
stored_or_dropped : (xs : List Run) (a l k : ℕ) → (in_runs (fit xs a l) k || in_runs (unfit xs a l) k) ≡ (in_run (run a l) k && not (in_runs xs k))
unfolding uncovered
stored_or_dropped xs a l k =
    let rs : List Run = runs_of (λ j. not (in_runs xs j)) a l in
    sym (in_append (take (room (length xs)) rs) (drop (room (length xs)) rs) k)
    ∙ ap (λ (ys : List Run). in_runs ys k) (take-append-drop (room (length xs)) rs)
    ∙ in_runs_of (λ j. not (in_runs xs j)) a l k

chain_fit : (xs : List Run) (a l : ℕ) → Chain a (a + l) (fit xs a l)
unfolding uncovered
chain_fit xs a l = chain_take a (a + l) (room (length xs)) (runs_of (λ j. not (in_runs xs j)) a l) (chain_runs_of (λ j. not (in_runs xs j)) a l)

-- the list drops a run where the paper does
pub same_dropped : (s : PoisonState) (E : List Run) (a l : ℕ) → shapes s.entries ≡ E → some_run (dropped_runs s.entries a l) ≡ some_run (unfit E a l)
same_dropped s E a l same =
    ap (λ (m : ℕ). some_run (drop (room m) (uncovered (shapes s.entries) a l))) (sym (length-map s.entries shape))
    ∙ ap (λ (xs : List Run). some_run (unfit xs a l)) same

-- ---- an injection: x says that the line is the one injected
taken_split : (c d s x : Bool) → s ≡ (c || d) → (x ≡ true → c ≡ true) → (s || x) ≡ (c || (d && not x))
taken_split true d s x p q = rw p
taken_split false d s true p q = absurd (false≢true (q refl))
taken_split false d s false p q = rw p (or-false d ∙ sym (and-true d))

inject_split : (c d s x : Bool) → s ≡ (c || d) → (s || x) ≡ ((x || c) || (d && not x))
inject_split c d s true p = or-true s
inject_split c d s false p = or-false s ∙ p ∙ ap (λ (y : Bool). c || y) (sym (and-true d))

kept_apart : (c d y : Bool) → (c && d) ≡ false → (c && (d && y)) ≡ false
kept_apart true d y p = rw p
kept_apart false d y p = refl

inject_apart : (c d x : Bool) → (c && d) ≡ false → ((x || c) && (d && not x)) ≡ false
inject_apart c d true p = and-false d
inject_apart c d false p = kept_apart c d true p

-- ---- a clearing: e says that the line is the one cleared, l that it is lost
clear_split : (c d s e l : Bool) → s ≡ (c || d) → (l ≡ true → (c ≡ true) × (e ≡ false)) → (s && not e) ≡ ((c && not e && not l) || ((d && not e) || l))
clear_split c d s true true p q = absurd (true≢false (q refl).1)
clear_split true d s true false p q = rw (p, and-false d)
clear_split false d s true false p q = rw (p, and-false d)
clear_split true d s false false p q = rw p
clear_split false d s false false p q = rw (p, and-true d) (sym (or-false d))
clear_split c d s false true p q = rw (p, (q refl).0) (sym (or-true (d && true)))

clear_apart : (c d e l : Bool) → (c && d) ≡ false → ((c && not e && not l) && ((d && not e) || l)) ≡ false
clear_apart c d e true p = rw (and-false (c && not e))
clear_apart true d e false p = rw p (and-false (not e && true))
clear_apart false d e false p = refl

pub in_lost : (k : ℕ) (xs : List Run) (j : ℕ) → in_runs (lost k xs) j ≡ (not (keeps k xs) && in_runs (after_in k xs) j)
in_lost k xs j = go (keeps k xs)
  where
    go : (b : Bool) → in_runs (cond b [] (after_in k xs)) j ≡ (not b && in_runs (after_in k xs) j)
    go true = refl
    go false = refl

pub keep_or : (b a : Bool) → (b || not a) ≡ not (not b && a)
keep_or true a = refl
keep_or false a = refl

-- a line of a or of b
or_elim : {A : Type 0} (a b : Bool) → (a ≡ true → A) → (b ≡ true → A) → (a || b) ≡ true → A
or_elim true b f g e = f refl
or_elim false b f g e = g e

-- a line of a run that ends by n
in_run_inside : (a l k n : ℕ) → a + l ≤ n → in_run (run a l) k ≡ true → k < n
in_run_inside a l k n h e = go (place (run a l) k)
  where
    go : Place (run a l) k → k < n
    go (low u v) = absurd (false≢true (sym v ∙ e))
    go (mid u w v) = omega arith
    go (high u w v) = absurd (false≢true (sym v ∙ e))

-- the one line of an injection
one_line_is : (k j : ℕ) → in_run (run k 1) j ≡ true → j ≡ k
one_line_is k j e = go (place (run k 1) j)
  where
    go : Place (run k 1) j → j ≡ k
    go (low u v) = absurd (false≢true (sym v ∙ e))
    go (mid u w v) = omega arith
    go (high u w v) = absurd (false≢true (sym v ∙ e))

module _ (n : ℕ) (s : PoisonState) (p : Paper) (g : Consistent n s p) where
  -- a media report that is taken
  pub consistent_report : (a l kind time : ℕ) → a + l ≤ n → Consistent n (after_report s a l kind time) (paper_report p a l)
  unfolding with_drop report_entries paper_report
  consistent_report a l kind time h =
      record {
        same = shapes_insert_all (map (entry kind) (take (room (length s.entries)) (uncovered (shapes s.entries) a l))) s.entries ∙ rw (shapes_entry kind (take (room (length s.entries)) (uncovered (shapes s.entries) a l)), len, g.same);
        few = omega (arith, length_insert_all (fit E a l) E, length-take (room (length E)) (uncovered E a l), g.few);
        chain = chain_insert_all 0 n a (a + l) (fit E a l) E g.chain (chain_fit E a l) (omega arith) h free;
        split = λ k. media_split (in_runs E k) (in_runs (fit E a l) k) (p.dropped k) (in_runs (unfit E a l) k) (p.set k) (in_run (run a l) k) (g.split k) (stored_or_dropped E a l k) ∙ rw (in_insert_all (fit E a l) E k);
        apart = λ k. rw (in_insert_all (fit E a l) E k) (media_apart (in_runs E k) (in_runs (fit E a l) k) (p.dropped k) (in_runs (unfit E a l) k) (in_run (run a l) k) (g.apart k) (stored_or_dropped E a l k));
        never = λ e k. rw (g.never (or_left s.overflow (some_run (dropped_runs s.entries a l)) e) k, no_run (unfit E a l) k (sym (same_dropped s E a l g.same) ∙ or_right s.overflow (some_run (dropped_runs s.entries a l)) e));
        inside = λ k e. or_elim (p.set k) (in_run (run a l) k) (λ x. g.inside k x) (λ x. in_run_inside a l k n h x) e;
      }
    where
      E : List Run
      E = p.entries

      len : length s.entries ≡ length E
      len = sym (length-map s.entries shape) ∙ ap length g.same

      free : (k : ℕ) → in_runs (fit E a l) k ≡ true → in_runs E k ≡ false
      free k e = go (in_runs E k) (in_run (run a l) k) (in_runs (unfit E a l) k) (sym (ap (λ (t : Bool). t || in_runs (unfit E a l) k) e) ∙ stored_or_dropped E a l k)
        where
          go : (c x u : Bool) → (true || u) ≡ (x && not c) → c ≡ false
          go true x u q = absurd (true≢false (q ∙ and-false x))
          go false x u q = refl

  -- an injection that is taken
  pub consistent_inject : (k : ℕ) → k < n → (covers s.entries k || ltb (length s.entries) slots) ≡ true → Consistent n (after_inject s k) (paper_inject p k)
  unfolding paper_inject
  consistent_inject k h t = go (in_runs E k) refl (rw (g.same, len) at t)
    where
      E : List Run
      E = p.entries

      D : ℕ → Bool
      D = p.dropped

      X : ℕ → Bool
      X j = in_run (run k 1) j

      len : length s.entries ≡ length E
      len = sym (length-map s.entries shape) ∙ ap length g.same

      never : s.overflow ≡ false → (j : ℕ) → (D j && not (X j)) ≡ false
      never e j = rw (g.never e j)

      inside : (j : ℕ) → (p.set j || X j) ≡ true → j < n
      inside j e = or_elim (p.set j) (X j) (λ x. g.inside j x) (λ x. in_run_inside k 1 j n (omega arith) x) e

      go : (c : Bool) → in_runs E k ≡ c → (in_runs E k || ltb (length E) slots) ≡ true → Consistent n (after_inject s k) (paper_inject p k)
      go true c t =
          rw (g.same, c)
          (record {
            same = g.same;
            few = g.few;
            chain = g.chain;
            split = λ j. taken_split (in_runs E j) (D j) (p.set j) (X j) (g.split j) (λ x. rw (one_line_is k j x) c);
            apart = λ j. kept_apart (in_runs E j) (D j) (not (X j)) (g.apart j);
            never = never;
            inside = inside;
          })
      go false c t =
          rw (g.same, c)
          (record {
            same = shapes_insert (entry 3 (run k 1)) s.entries ∙ ap (insert (run k 1)) g.same;
            few = omega (arith, length_insert (run k 1) E, ltb-true (length E) slots (sym (rw c refl) ∙ t));
            chain = chain_insert 0 n (run k 1) E g.chain (omega arith) (omega arith) (omega arith) (λ j x. rw (one_line_is k j x) c);
            split = λ j. inject_split (in_runs E j) (D j) (p.set j) (X j) (g.split j) ∙ rw (in_insert (run k 1) E j);
            apart = λ j. rw (in_insert (run k 1) E j) (inject_apart (in_runs E j) (D j) (X j) (g.apart j));
            never = never;
            inside = inside;
          })

  -- a clearing
  pub consistent_clear : (k time : ℕ) → Consistent n (after_clear s k time) (paper_clear p k)
  unfolding with_drop paper_clear
  consistent_clear k time =
      record {
        same = shapes_cut (keeps k (shapes s.entries)) k s.entries ∙ rw g.same;
        few = few_cut k E g.few;
        chain = chain_cut 0 n (keeps k E) k E g.chain;
        split = λ j. clear_split (in_runs E j) (D j) (p.set j) (eqb j k) (in_runs (lost k E) j) (g.split j) (gone j) ∙ rw (cutting j);
        apart = λ j. rw (cutting j) (clear_apart (in_runs E j) (D j) (eqb j k) (in_runs (lost k E) j) (g.apart j));
        never = λ e j. rw (g.never (or_left s.overflow (some_run (lost k (shapes s.entries))) e) j, no_run (lost k E) j (rw g.same at (or_right s.overflow (some_run (lost k (shapes s.entries))) e)));
        inside = λ j e. g.inside j (and_parts (p.set j) (not (eqb j k)) e).0;
      }
    where
      E : List Run
      E = p.entries

      D : ℕ → Bool
      D = p.dropped

      cutting : (j : ℕ) → in_runs (cut (keeps k E) k E) j ≡ (in_runs E j && not (eqb j k) && not (in_runs (lost k E) j))
      cutting j = in_cut 0 n (keeps k E) k E g.chain j ∙ rw (keep_or (keeps k E) (in_runs (after_in k E) j), in_lost k E j)

      gone : (j : ℕ) → in_runs (lost k E) j ≡ true → (in_runs E j ≡ true) × (eqb j k ≡ false)
      gone j e = after_within k E j (and_parts (not (keeps k E)) (in_runs (after_in k E) j) (sym (in_lost k E j) ∙ e)).1

-- a new list and a blank paper
pub consistent_blank : (n : ℕ) → Consistent n empty blank_paper
consistent_blank n =
    record { same = refl; few = omega arith; chain = omega arith; split = λ k. refl; apart = λ k. refl; never = λ e k. refl; inside = λ k e. absurd (false≢true e) }
