-- The type of each line after a change, line by line: a line that a report stores has the report's type, one that an injection stores has type 3, and a line that a
-- clearing leaves covered keeps its type. (That a line which was covered before a report or an injection keeps its type is `report_kind` and `inject_kind` of
-- Laws.) Assumes nothing.
use mathlib.Core.Path.{◌≡◌, refl, sym, ap, ◌∙◌}
use mathlib.Core.Bool.{Bool, true, false, not, ◌||◌, cond, false≢true, or-false}
use mathlib.Core.List.{List, [], ◌∷◌, ◌++◌, map}
use Prim.Native.Nat.{ℕ, zero, suc, ◌+◌, ◌-◌, ◌≤◌, ◌<◌}
use native.Mathlib.Omega.{arith}
use lib.Dec.{ltb}
use lib.ListN.{length}
use Rattle.poison.specs.Runs.{Run, run, end, in_run, in_runs, Chain, run_if_any, before, after, uncovered, room, keeps}
use Rattle.poison.specs.State.{Entry, PoisonState, shape, shapes, entry, covers, kind_at, insert_entry, insert_entries}
use Rattle.poison.specs.Report.{found, stored_runs, report_entries, with_drop, after_report}
use Rattle.poison.specs.Inject.{after_inject}
use Rattle.poison.specs.Clear.{cut_entries, after_clear}
use Rattle.poison.proofs.Counts.{or_left, or_right, Place, low, mid, high, place, inside_run, chain_low}
use Rattle.poison.proofs.RunLaws.{chain_runs_of, chain_take, in_insert, in_part}
use Rattle.poison.proofs.Shapes.{shapes_insert}

-- ---- one entry more
-- a line of the entry, which was uncovered, has the entry's type
kind_in : (e : Entry) (es : List Entry) (k : ℕ) → in_run (shape e) k ≡ true → covers es k ≡ false → kind_at (insert_entry e es) k ≡ e.kind
kind_in e [] k h u = rw h
kind_in e (x ∷ es) k h u = go (ltb e.start x.start) (kind_in e es k h (or_right (in_run (shape x) k) (covers es k) u))
  where
    go : (b : Bool) → kind_at (insert_entry e es) k ≡ e.kind → kind_at (cond b (e ∷ x ∷ es) (x ∷ insert_entry e es)) k ≡ e.kind
    go true i = rw h
    go false i = rw (or_left (in_run (shape x) k) (covers es k) u) i

-- any other line has the type that it had
kind_out : (e : Entry) (es : List Entry) (k : ℕ) → in_run (shape e) k ≡ false → kind_at (insert_entry e es) k ≡ kind_at es k
kind_out e [] k h = rw h
kind_out e (x ∷ es) k h = go (ltb e.start x.start) (kind_out e es k h)
  where
    go : (b : Bool) → kind_at (insert_entry e es) k ≡ kind_at es k → kind_at (cond b (e ∷ x ∷ es) (x ∷ insert_entry e es)) k ≡ cond (in_run (shape x) k) x.kind (kind_at es k)
    go true i = rw h
    go false i = rw i

-- ---- several entries of one type
kinds_out : (kind : ℕ) (rs : List Run) (es : List Entry) (k : ℕ) → in_runs rs k ≡ false → kind_at (insert_entries (map (entry kind) rs) es) k ≡ kind_at es k
kinds_out kind [] es k h = refl
kinds_out kind (r ∷ rs) es k h =
    kinds_out kind rs (insert_entry (entry kind r) es) k (or_right (in_run r k) (in_runs rs k) h)
    ∙ kind_out (entry kind r) es k (or_left (in_run r k) (in_runs rs k) h)

kinds_in : (lo hi kind : ℕ) (rs : List Run) (es : List Entry) (k : ℕ) → Chain lo hi rs → in_runs rs k ≡ true → covers es k ≡ false
    → kind_at (insert_entries (map (entry kind) rs) es) k ≡ kind
kinds_in lo hi kind [] es k c h u = absurd (false≢true h)
kinds_in lo hi kind (r ∷ rs) es k c h u = go (place r k) (λ g v. kinds_in (end r) hi kind rs (insert_entry (entry kind r) es) k c.2 g v)
  where
    still : in_run r k ≡ false → covers (insert_entry (entry kind r) es) k ≡ false
    still v = ap (λ (ys : List Run). in_runs ys k) (shapes_insert (entry kind r) es) ∙ in_insert r (shapes es) k ∙ rw (v, u)

    go : Place r k → (in_runs rs k ≡ true → covers (insert_entry (entry kind r) es) k ≡ false → kind_at (insert_entries (map (entry kind) rs) (insert_entry (entry kind r) es)) k ≡ kind)
        → kind_at (insert_entries (map (entry kind) rs) (insert_entry (entry kind r) es)) k ≡ kind
    go (low p v) rest = rest (rw v at h) (still v)
    go (mid p q v) rest = kinds_out kind rs (insert_entry (entry kind r) es) k (chain_low (end r) hi rs c.2 k q) ∙ kind_in (entry kind r) es k v u
    go (high p q v) rest = rest (rw v at h) (still v)

-- "each run becomes an entry of that type": a line that a report stores, which was uncovered before it, has the report's type.
pub report_type : (s : PoisonState) (a n kind time k : ℕ) → in_runs (stored_runs s.entries a n) k ≡ true → covers s.entries k ≡ false
    → kind_at (after_report s a n kind time).entries k ≡ kind
unfolding report_entries with_drop uncovered
report_type s a n kind time k h u =
    kinds_in a (a + n) kind (stored_runs s.entries a n) s.entries k
    (chain_take a (a + n) (room (length s.entries)) (found s.entries a n) (chain_runs_of (λ j. not (covers s.entries j)) a n)) h u

-- "else a one-line entry of type 3"
pub inject_type : (s : PoisonState) (k : ℕ) → covers s.entries k ≡ false → kind_at (after_inject s k).entries k ≡ 3
inject_type s k u = rw u (kind_in (entry 3 (run k 1)) s.entries k (inside_run (run k 1) k (omega arith) (omega arith)) u)

-- ---- a clearing
-- the type of a line of a part of an entry, before other entries
kind_of_part : (kind a n : ℕ) (es : List Entry) (j : ℕ) → kind_at (map (entry kind) (run_if_any a n) ++ es) j ≡ cond (in_runs (run_if_any a n) j) kind (kind_at es j)
kind_of_part kind a zero es j = refl
kind_of_part kind a (suc n) es j = rw (or-false (in_run (run a (suc n)) j))

covers_part : (kind a n : ℕ) (es : List Entry) (j : ℕ) → covers (map (entry kind) (run_if_any a n) ++ es) j ≡ (in_runs (run_if_any a n) j || covers es j)
covers_part kind a zero es j = refl
covers_part kind a (suc n) es j = rw (or-false (in_run (run a (suc n)) j))

-- a line of a part of a run is a line of the run
part_in : (r : Run) (a n j : ℕ) → r.start ≤ a → a + n ≤ end r → in_runs (run_if_any a n) j ≡ true → in_run r j ≡ true
part_in r a n j low_end high_end e = go (place (run a n) j) (sym (in_part a n j) ∙ e)
  where
    go : Place (run a n) j → in_run (run a n) j ≡ true → in_run r j ≡ true
    go (low u v) f = absurd (false≢true (sym v ∙ f))
    go (mid u w v) f = inside_run r j (omega arith) (omega arith)
    go (high u w v) f = absurd (false≢true (sym v ∙ f))

-- the entry over line k, cut: of its two parts (b: in the part before; a: in the part after, which may be dropped), of the line j (x: in the entry; t: in a later one)
cut_kinds : (kind rest : ℕ) (keep b a x t : Bool) → (b ≡ true → x ≡ true) → (a ≡ true → x ≡ true) → (x ≡ true → t ≡ false)
    → (b || (cond keep a false || t)) ≡ true → cond b kind (cond (cond keep a false) kind rest) ≡ cond x kind rest
cut_kinds kind rest keep true a x t f g h e = rw (f refl)
cut_kinds kind rest true false true x t f g h e = rw (g refl)
cut_kinds kind rest true false false true t f g h e = absurd (false≢true (sym (h refl) ∙ e))
cut_kinds kind rest true false false false t f g h e = refl
cut_kinds kind rest false false a true t f g h e = absurd (false≢true (sym (h refl) ∙ e))
cut_kinds kind rest false false a false t f g h e = refl

-- "same type": a line that a clearing of line k leaves covered has the type that it had.
kind_cut : (lo hi : ℕ) (keep : Bool) (k : ℕ) (es : List Entry) (j : ℕ) → Chain lo hi (shapes es) → covers (cut_entries keep k es) j ≡ true
    → kind_at (cut_entries keep k es) j ≡ kind_at es j
kind_cut lo hi keep k [] j c h = refl
kind_cut lo hi keep k (e ∷ es) j c h = go (place (shape e) k) (λ f. kind_cut (end (shape e)) hi keep k es j c.2 f)
  where
    r : Run
    r = shape e

    apart : in_run r j ≡ true → covers es j ≡ false
    apart x = at_most (place r j)
      where
        at_most : Place r j → covers es j ≡ false
        at_most (low u v) = absurd (false≢true (sym v ∙ x))
        at_most (mid u w v) = chain_low (end r) hi (shapes es) c.2 j w
        at_most (high u w v) = absurd (false≢true (sym v ∙ x))

    later : (b : Bool) → kind_at (cond b (map (entry e.kind) (after k r)) [] ++ es) j ≡ cond (cond b (in_runs (after k r) j) false) e.kind (kind_at es j)
    later true = kind_of_part e.kind (suc k) (end r - suc k) es j
    later false = refl

    later_covers : (b : Bool) → covers (cond b (map (entry e.kind) (after k r)) [] ++ es) j ≡ (cond b (in_runs (after k r) j) false || covers es j)
    later_covers true = covers_part e.kind (suc k) (end r - suc k) es j
    later_covers false = refl

    -- line k is in the entry: its parts
    parts : r.start ≤ k → k < end r → in_run r k ≡ true → kind_at (cut_entries keep k (e ∷ es)) j ≡ kind_at (e ∷ es) j
    parts u w v =
        rw v
        (kind_of_part e.kind r.start (k - r.start) (cond keep (map (entry e.kind) (after k r)) [] ++ es) j
        ∙ rw (later keep)
        (cut_kinds e.kind (kind_at es j) keep (in_runs (before k r) j) (in_runs (after k r) j) (in_run r j) (covers es j)
        (part_in r r.start (k - r.start) j (omega arith) (omega arith))
        (part_in r (suc k) (end r - suc k) j (omega arith) (omega arith))
        apart
        (sym (ap (λ (b : Bool). in_runs (before k r) j || b) (later_covers keep)) ∙ sym (covers_part e.kind r.start (k - r.start) (cond keep (map (entry e.kind) (after k r)) [] ++ es) j) ∙ (rw v at h))))

    -- it is not: the entry stays
    stays : in_run r k ≡ false → (covers (cut_entries keep k es) j ≡ true → kind_at (cut_entries keep k es) j ≡ kind_at es j)
        → kind_at (cut_entries keep k (e ∷ es)) j ≡ kind_at (e ∷ es) j
    stays v rest = rw v (here (in_run r j) (rw v at h))
      where
        here : (b : Bool) → (b || covers (cut_entries keep k es) j) ≡ true → cond b e.kind (kind_at (cut_entries keep k es) j) ≡ cond b e.kind (kind_at es j)
        here true f = refl
        here false f = rest f

    go : Place r k → (covers (cut_entries keep k es) j ≡ true → kind_at (cut_entries keep k es) j ≡ kind_at es j)
        → kind_at (cut_entries keep k (e ∷ es)) j ≡ kind_at (e ∷ es) j
    go (low u v) rest = stays v rest
    go (mid u w v) rest = parts u w v
    go (high u w v) rest = stays v rest

pub clear_type : (n : ℕ) (s : PoisonState) (k time j : ℕ) → Chain 0 n (shapes s.entries) → covers (after_clear s k time).entries j ≡ true
    → kind_at (after_clear s k time).entries j ≡ kind_at s.entries j
unfolding with_drop
clear_type n s k time j c h = kind_cut 0 n (keeps k (shapes s.entries)) k s.entries j c h
