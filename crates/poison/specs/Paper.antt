-- The paper of demand 3 (document 01, "Promises and how they are tried"): a set of damaged lines, paper entries and a dropped set, fed the changes
-- alone; what the list and the paper must have to do with each other; and every list of changes.
use Rattle.std.specs.Prelude.{◌≡◌, Bool, true, false, not, ◌&&◌, ◌||◌, cond, List, [], ◌∷◌, ℕ, ◌+◌, ◌<◌, leb, ltb, eqb, length, take, drop, get_or}
use Rattle.poison.specs.Runs.{Run, run, in_run, in_runs, count, insert, insert_all, cut, room, uncovered, keeps, lost}
use Rattle.poison.specs.State.{PoisonState, empty, shapes, damage_total}
use Rattle.poison.specs.Report.{reportable, after_report}
use Rattle.poison.specs.Inject.{after_inject, injects}
use Rattle.poison.specs.Clear.{after_clear}
use Rattle.poison.specs.LineTest.{line_test, answer_number}

-- The paper shares the rules on runs (`uncovered`, `room`, `keeps`, `lost`, `cut`) with the list: both are document 01's one rule. That each is that rule
-- is said line by line by proofs/Laws.antt: `found_lines`, `found_ascending`, `found_maximal`, `stored_first`, `dropped_when_full`, `dropped_by_clear`,
-- `left_by_clear`.
-- "It has the paper set, paper entries (start and length, ascending) and a dropped set, all empty at first."
pub record Paper : Type 0 where
  pub set : ℕ → Bool
  pub entries : List Run
  pub dropped : ℕ → Bool

abbrev pub blank_paper : Paper
blank_paper = record { set = λ k. false; entries = []; dropped = λ k. false }

-- "its lines in no paper entry form maximal runs; ascending, each becomes a paper entry while there are fewer than 256; the others are dropped."
abbrev pub fit : List Run → ℕ → ℕ → List Run
fit xs a n = take (room (length xs)) (uncovered xs a n)

abbrev pub unfit : List Run → ℕ → ℕ → List Run
unfit xs a n = drop (room (length xs)) (uncovered xs a n)

-- a media report answered 0000h. "Lines dropped join the dropped set; lines that a paper entry takes leave it."
unfoldable pub paper_report : Paper → ℕ → ℕ → Paper
paper_report p a n =
    record {
      set = λ k. p.set k || in_run (run a n) k;
      entries = insert_all (fit p.entries a n) p.entries;
      dropped = λ k. (p.dropped k || in_runs (unfit p.entries a n) k) && not (in_runs (fit p.entries a n) k);
    }

-- an Inject Poison answered 0000h. "its line, if in no paper entry, becomes one."
unfoldable pub paper_inject : Paper → ℕ → Paper
paper_inject p k =
    record {
      set = λ j. p.set j || in_run (run k 1) j;
      entries = cond (in_runs p.entries k) p.entries (insert (run k 1) p.entries);
      dropped = λ j. p.dropped j && not (in_run (run k 1) j);
    }

-- a Clear Poison answered 0000h. "its line leaves the dropped set; a paper entry over it is replaced by its parts before and after, each if not
-- empty; with 256 there and both left, the part after is dropped."
unfoldable pub paper_clear : Paper → ℕ → Paper
paper_clear p k =
    record {
      set = λ j. p.set j && not (eqb j k);
      entries = cut (keeps k p.entries) k p.entries;
      dropped = λ j. (p.dropped j && not (eqb j k)) || in_runs (lost k p.entries) j;
    }

-- what the list and the paper have to do with each other, on a device of n lines: demand 3 at this layer
pub record Agrees (n : ℕ) (s : PoisonState) (p : Paper) : Type 0 where
  pub entries : shapes s.entries ≡ p.entries
  pub apart : (i j k : ℕ) → i < j → j < length s.entries → in_run (get_or (shapes s.entries) i (run 0 0)) k ≡ true → in_run (get_or (shapes s.entries) j (run 0 0)) k ≡ false
  pub size : count p.set n ≡ damage_total s + count p.dropped n
  pub flag : (k : ℕ) → p.dropped k ≡ true → s.overflow ≡ true
  pub not_clean : (k : ℕ) → k < n → p.set k ≡ true → answer_number (line_test s k) ≡ 0 → ⊥
  pub inside : (k : ℕ) → p.set k ≡ true → k < n
  pub dropped_inside : (k : ℕ) → p.dropped k ≡ true → p.set k ≡ true
  pub clean_else : s.overflow ≡ false → (k : ℕ) → k < n → p.set k ≡ false → answer_number (line_test s k) ≡ 0

-- ---- every list of changes at this layer, refused ones included
pub data Change : Type 0 where
  report : (start lines kind time : ℕ) → Change
  inject : (line : ℕ) → Change
  clear : (line time : ℕ) → Change

-- whether a list on a device of n lines takes a change, and answers Success
abbrev pub takes : ℕ → PoisonState → Change → Bool
takes n s (report a l kind time) = reportable kind && (ltb 0 l && leb (a + l) n)
takes n s (inject k) = ltb k n && injects s k
takes n s (clear k time) = ltb k n

-- what a change that is taken does to the list, and to the paper
abbrev pub changed : PoisonState → Change → PoisonState
changed s (report a n kind time) = after_report s a n kind time
changed s (inject k) = after_inject s k
changed s (clear k time) = after_clear s k time

abbrev pub written : Paper → Change → Paper
written p (report a n kind time) = paper_report p a n
written p (inject k) = paper_inject p k
written p (clear k time) = paper_clear p k

pub record Pair : Type 0 where
  pub list : PoisonState
  pub paper : Paper

abbrev pub blank : Pair
blank = record { list = empty; paper = blank_paper }

-- a refused change alters neither
abbrev pub step : ℕ → Pair → Change → Pair
step n b c = cond (takes n b.list c) (record { list = changed b.list c; paper = written b.paper c }) b

abbrev pub run_changes : ℕ → Pair → List Change → Pair
run_changes n b [] = b
run_changes n b (c ∷ cs) = run_changes n (step n b c) cs
