-- Lines, sets of lines and runs of lines: what document 01, "Poison list", is stated over. A line is a number; a set of lines
-- says of each number whether it is in. The last part has the rules that the list and the paper of demand 3 share; nothing here knows of types or of a
-- device.
use Rattle.std.specs.Prelude.{Bool, true, false, not, ◌&&◌, ◌||◌, cond, List, [], ◌∷◌, ◌++◌, ℕ, zero, suc, ◌+◌, ◌-◌, ◌≤◌, ◌<◌, leb, ltb, eqb, length}

-- a run of `lines` lines from `start` on
pub record Run : Type 0 where
  pub start : ℕ
  pub lines : ℕ

abbrev pub run : ℕ → ℕ → Run
run a n = record { start = a; lines = n }

-- the line past a run
abbrev pub end : Run → ℕ
end r = r.start + r.lines

-- whether line k is in a run
unfoldable pub in_run : Run → ℕ → Bool
in_run r k = leb r.start k && ltb k (end r)

-- whether line k is in one of some runs
abbrev pub in_runs : List Run → ℕ → Bool
in_runs [] k = false
in_runs (r ∷ rs) k = in_run r k || in_runs rs k

-- how many lines runs have together
abbrev pub total : List Run → ℕ
total [] = 0
total (r ∷ rs) = r.lines + total rs

abbrev pub one_if : Bool → ℕ
one_if true = 1
one_if false = 0

-- how many lines below n a set of lines has
abbrev pub count : (ℕ → Bool) → ℕ → ℕ
count f zero = 0
count f (suc n) = one_if (f n) + count f n

-- runs in ascending order from `lo` to `hi`, none empty, no line in two
abbrev pub Chain : ℕ → ℕ → List Run → Type 0
Chain lo hi [] = lo ≤ hi
Chain lo hi (r ∷ rs) = (lo ≤ r.start) × (0 < r.lines) × Chain (end r) hi rs

-- line a put before the runs of the lines after it
abbrev pub joined : ℕ → List Run → List Run
joined a [] = run a 1 ∷ []
joined a (r ∷ rs) = cond (eqb r.start (suc a)) (run a (suc r.lines) ∷ rs) (run a 1 ∷ r ∷ rs)

-- the maximal runs, ascending, of the lines of a set among the n lines from a on
abbrev pub runs_of : (ℕ → Bool) → ℕ → ℕ → List Run
runs_of p a zero = []
runs_of p a (suc n) = cond (p a) (joined a (runs_of p (suc a) n)) (runs_of p (suc a) n)

-- a run put in its place among others, in address order
abbrev pub insert : Run → List Run → List Run
insert r [] = r ∷ []
insert r (x ∷ xs) = cond (ltb r.start x.start) (r ∷ x ∷ xs) (x ∷ insert r xs)

abbrev pub insert_all : List Run → List Run → List Run
insert_all [] xs = xs
insert_all (r ∷ rs) xs = insert_all rs (insert r xs)

-- n lines from a on as a run, if there are any
abbrev pub run_if_any : ℕ → ℕ → List Run
run_if_any a zero = []
run_if_any a (suc n) = run a (suc n) ∷ []

-- the part of a run before line k, and the part after it, each if not empty
abbrev pub before : ℕ → Run → List Run
before k r = run_if_any r.start (k - r.start)

abbrev pub after : ℕ → Run → List Run
after k r = run_if_any (suc k) (end r - suc k)

-- the run over line k replaced by its part before and, if `keep`, its part after
abbrev pub cut : Bool → ℕ → List Run → List Run
cut keep k [] = []
cut keep k (r ∷ rs) = cond (in_run r k) (before k r ++ (cond keep (after k r) [] ++ rs)) (r ∷ cut keep k rs)

-- the part before, and the part after, line k of the run over it
abbrev pub before_in : ℕ → List Run → List Run
before_in k [] = []
before_in k (r ∷ rs) = cond (in_run r k) (before k r) (before_in k rs)

abbrev pub after_in : ℕ → List Run → List Run
after_in k [] = []
after_in k (r ∷ rs) = cond (in_run r k) (after k r) (after_in k rs)

-- ---- the rules of the list, at runs: the list and the paper of demand 3 share them
-- the poison entries (document 01, "Numbers")
abbrev pub slots : ℕ
slots = 256

-- how many more entries a list of n has room for
abbrev pub room : ℕ → ℕ
room n = slots - n

-- the maximal runs of the n lines from a on that no run of the list covers
unfoldable pub uncovered : List Run → ℕ → ℕ → List Run
uncovered xs a n = runs_of (λ k. not (in_runs xs k)) a n

abbrev pub some_run : List Run → Bool
some_run [] = false
some_run (r ∷ rs) = true

-- whether the run over line k keeps its part after k when k is cleared: it goes only with 256 held and both parts left
unfoldable pub keeps : ℕ → List Run → Bool
keeps k xs = not (leb slots (length xs) && (some_run (before_in k xs) && some_run (after_in k xs)))

-- what is dropped when line k is cleared
abbrev pub lost : ℕ → List Run → List Run
lost k xs = cond (keeps k xs) [] (after_in k xs)
