-- The laws of the poison list, each with its sentence in words. This is the one file of proofs/ that a crate above may cite (`tests/layers`): these laws, the
-- definitions of specs/ and the functions' contracts are the layer's stated behaviour. The other files of proofs/ may change at any time. Assumes nothing.
use mathlib.Core.Path.{◌≡◌, refl, sym, ap, ◌∙◌}
use mathlib.Core.Bool.{Bool, true, false, not, ◌&&◌, ◌||◌, cond, true≢false, false≢true, and-false}
use mathlib.Core.List.Memᴰ
use mathlib.Core.List.{List, [], ◌∷◌, ◌++◌, map, Memᴰ}
use mathlib.Core.Logic.{◌⊎◌, inl, inr}
use Prim.Native.Nat.{ℕ, ◌+◌, ◌≤◌, ◌<◌}
use native.Mathlib.Omega.{arith}
use lib.Dec.{ltb}
use borrow.Author.Tests.{ltb-true}
use lib.ListN.{length, take, drop, take-append-drop, length-map, length-take}
use Rattle.poison.specs.declared.list.PoisonList.{PoisonList}
use Rattle.poison.specs.Runs.{Run, run, end, in_run, in_runs, count, Chain, cut, slots, uncovered, room, keeps, before, after}
use Rattle.poison.specs.State.{Entry, PoisonState, shape, shapes, entry, covers, kind_at, insert_entry, insert_entries, entries_of, Typed, ValidList, runs_in, ValidSlots}
use Rattle.poison.specs.Report.{found, stored_runs, report_entries, lines_stored, lines_dropped, with_drop, after_report}
use Rattle.poison.specs.Inject.{with_entry, injects, adds, after_inject}
use Rattle.poison.specs.Clear.{cut_entries, after_clear}
use Rattle.poison.proofs.Moves.{nought}
use Rattle.poison.proofs.Counts.{or_left, or_right, Place, low, mid, high, place, count_chain, count_cong}
use Rattle.poison.proofs.RunLaws.{chain_runs_of, chain_take, chain_higher, chain_insert_all, chain_insert, chain_cut, few_cut, in_append, in_runs_of}
use Rattle.poison.proofs.Shapes.{length_insert_entry, shapes_entry, shapes_insert, shapes_insert_all, shapes_cut}
use Rattle.poison.proofs.Extents.{total_take_drop, gaps_runs_of}
-- ---- laws that are proved in other files, and passed on
-- `Gaps`: between any two of some runs there is a line.
pub use Rattle.poison.proofs.Extents.{Gaps}
-- An entry counts as sharing a line with a range exactly if some line is in both.
pub use Rattle.poison.proofs.Sharing.{shares_some, some_shares}
-- The entries that share a line with a range, cut to it: they cover what the list covers of the range, line by line with the same type, in ascending order.
pub use Rattle.poison.proofs.Sharing.{covers_sharing, kind_sharing, chain_sharing}
-- A line is below a run, in it or past it, and is in the run in the second case alone (`place` gives the case). A run and the runs past it share no line.
pub use Rattle.poison.proofs.Counts.{Place, low, mid, high, place, below_run, inside_run, past_run, apart}
-- Records have 16 bytes each; the type, the zero bits and the line are read back from a record's address.
pub use Rattle.poison.proofs.Records.{length_records, unpacked}
-- `Consistent`: what holds of a list and the paper of demand 3 after any changes. It holds of a new list and a blank paper,
pub use Rattle.poison.proofs.Agreement.{Consistent, consistent_blank}
-- it is kept by a media report, by an injection that is taken, and by a clear,
pub use Rattle.poison.proofs.Agreement.{consistent_report, consistent_inject, consistent_clear}
-- and it gives what demand 3 asks of the list (`Agrees`).
pub use Rattle.poison.proofs.Agreement.{agrees}
-- What is dropped, line by line: by a report only lines past every line stored, and only where 256 entries are held after it; by a clearing the part after
-- the line, exactly with 256 held and both parts left. After a clearing every other line is covered as before.
pub use Rattle.poison.proofs.Drops.{stored_first, dropped_when_full, BothLeft, dropped_by_clear, all_dropped_by_clear, left_by_clear}
-- `Flags`: a change never clears the overflow flag, and where it sets the flag, some line is in the dropped set after it. So for each of the three.
pub use Rattle.poison.proofs.Drops.{Flags, report_flags, inject_flags, clear_flags}
-- `Sized`: the arrays of a list have 256 slots each. A valid list's arrays hold runs in order and apart (`ValidRuns`), as the search asks.
pub use Rattle.poison.proofs.Views.{Sized, valid_runs}
-- The arrays of a valid list, lent, and the list that they make up with any flag and time.
pub use Rattle.poison.proofs.Views.{valid_shapes, valid_slots, slots_sized, slots_valid}
-- Slots past the new last entry keep what they held (document 02, W-203).
pub use Rattle.poison.proofs.Moves.{past_kept}
-- The sum of the first `count` lengths is the damage total of the list.
pub use Rattle.poison.proofs.ListChanges.{total_is}
-- A line that a report stores has the report's type, one that an injection stores has type 3, one that a clearing leaves covered keeps its type.
pub use Rattle.poison.proofs.Types.{report_type, inject_type, clear_type}

-- ---- the runs of a report
-- The runs are exactly the uncovered lines of the extent.
pub found_lines : (es : List Entry) (a n k : ℕ) → in_runs (found es a n) k ≡ (in_run (run a n) k && not (covers es k))
unfolding uncovered
found_lines es a n k = in_runs_of (λ j. not (covers es j)) a n k

-- They are ascending, none empty, no line in two, all inside the extent.
pub found_ascending : (es : List Entry) (a n : ℕ) → Chain a (a + n) (found es a n)
unfolding uncovered
found_ascending es a n = chain_runs_of (λ j. not (covers es j)) a n

-- They are maximal: between any two of them there is a line, which by `found_lines` is a covered one.
pub found_maximal : (es : List Entry) (a n : ℕ) → Gaps a (found es a n)
unfolding uncovered
found_maximal es a n = gaps_runs_of (λ j. not (covers es j)) a n

-- The lines stored and the lines dropped are together the extent's lines that were uncovered before.
pub stored_and_dropped_lines : (es : List Entry) (a n m : ℕ) → a + n ≤ m → lines_stored es a n + lines_dropped es a n ≡ count (λ k. in_run (run a n) k && not (covers es k)) m
unfolding lines_stored lines_dropped
stored_and_dropped_lines es a n m h =
    total_take_drop (room (length es)) (found es a n)
    ∙ sym (count_chain a m (found es a n) (chain_higher a (a + n) m (found es a n) h (found_ascending es a n)))
    ∙ count_cong (in_runs (found es a n)) (λ k. in_run (run a n) k && not (covers es k)) m (λ k l. found_lines es a n k)

-- a line of a run that is stored was uncovered
stored_free : (es : List Entry) (a n k : ℕ) → in_runs (stored_runs es a n) k ≡ true → covers es k ≡ false
stored_free es a n k e =
    go (covers es k) (in_run (run a n) k) (in_runs (drop m (found es a n)) k)
    (sym (ap (λ (t : Bool). t || in_runs (drop m (found es a n)) k) e) ∙ sym (in_append (take m (found es a n)) (drop m (found es a n)) k) ∙ ap (λ (ys : List Run). in_runs ys k) (take-append-drop m (found es a n)) ∙ found_lines es a n k)
  where
    m : ℕ
    m = room (length es)

    go : (c x u : Bool) → (true || u) ≡ (x && not c) → c ≡ false
    go true x u q = absurd (true≢false (q ∙ and-false x))
    go false x u q = refl

-- ---- entries stay in ascending order, no line in two, none empty, all inside the device
-- After a report.
pub chain_report : (n a l kind : ℕ) (es : List Entry) → Chain 0 n (shapes es) → a + l ≤ n → Chain 0 n (shapes (report_entries es a l kind))
unfolding report_entries
chain_report n a l kind es c h =
    rw (shapes_insert_all (map (entry kind) (stored_runs es a l)) es, shapes_entry kind (stored_runs es a l))
    (chain_insert_all 0 n a (a + l) (stored_runs es a l) (shapes es) c (chain_take a (a + l) (room (length es)) (found es a l) (found_ascending es a l)) (omega arith) h (stored_free es a l))

-- With an entry more, whose lines were uncovered.
pub chain_insert_entry : (n a m kind : ℕ) (es : List Entry) → Chain 0 n (shapes es) → 0 < m → a + m ≤ n → ((k : ℕ) → a ≤ k → k < a + m → covers es k ≡ false) → Chain 0 n (shapes (insert_entry (entry kind (run a m)) es))
chain_insert_entry n a m kind es c p h f = rw (shapes_insert (entry kind (run a m)) es) (chain_insert 0 n (run a m) (shapes es) c (omega arith) p h free)
  where
    free : (k : ℕ) → in_run (run a m) k ≡ true → covers es k ≡ false
    free k e = go (place (run a m) k)
      where
        go : Place (run a m) k → covers es k ≡ false
        go (low u v) = absurd (false≢true (sym v ∙ e))
        go (mid u w v) = f k u w
        go (high u w v) = absurd (false≢true (sym v ∙ e))

-- After an injection at an uncovered line.
pub chain_inject : (n k kind : ℕ) (es : List Entry) → Chain 0 n (shapes es) → k < n → covers es k ≡ false → Chain 0 n (shapes (insert_entry (entry kind (run k 1)) es))
chain_inject n k kind es c h e = chain_insert_entry n k 1 kind es c (omega arith) (omega arith) (λ j u w. let z : j ≡ k = omega arith in rw z e)

-- After a clear.
pub chain_clear : (n k : ℕ) (keep : Bool) (es : List Entry) → Chain 0 n (shapes es) → Chain 0 n (shapes (cut_entries keep k es))
chain_clear n k keep es c = rw (shapes_cut keep k es) (chain_cut 0 n keep k (shapes es) c)

-- They have a line each.
pub chain_length : (lo hi : ℕ) (es : List Entry) → Chain lo hi (shapes es) → lo + length es ≤ hi
chain_length lo hi [] c = omega arith
chain_length lo hi (e ∷ es) c = let i = chain_length (end (shape e)) hi es c.2 in omega arith

-- ---- an injection that adds an entry, and one that adds none (document 02, W-204)
-- One that adds an entry is taken,
pub adds_taken : (s : PoisonState) (k : ℕ) → adds s k ≡ true → injects s k ≡ true
adds_taken s k e = go (covers s.entries k) (ltb (length s.entries) slots) e
  where
    go : (c b : Bool) → (not c && b) ≡ true → (c || b) ≡ true
    go true b e = refl
    go false b e = e

-- and the list has that entry after it.
pub adds_entry : (s : PoisonState) (k : ℕ) → adds s k ≡ true → after_inject s k ≡ with_entry s k
adds_entry s k e = go (covers s.entries k) (ltb (length s.entries) slots) e
  where
    go : (c b : Bool) → (not c && b) ≡ true → cond c s (with_entry s k) ≡ with_entry s k
    go true b e = absurd (false≢true e)
    go false b e = refl

-- One that is taken and adds none is at a covered line: nothing changes.
pub adds_none : (s : PoisonState) (k : ℕ) → injects s k ≡ true → adds s k ≡ false → after_inject s k ≡ s
adds_none s k i e = go (covers s.entries k) (ltb (length s.entries) slots) i e
  where
    go : (c b : Bool) → (c || b) ≡ true → (not c && b) ≡ false → cond c s (with_entry s k) ≡ s
    go true b i e = refl
    go false b i e = absurd (true≢false (sym i ∙ e))

-- ---- at most 256 entries
-- as many entries more as are put in
length_insert_entries : (es xs : List Entry) → length (insert_entries es xs) ≡ length es + length xs
length_insert_entries [] xs = omega arith
length_insert_entries (e ∷ es) xs = length_insert_entries es (insert_entry e xs) ∙ omega (arith, length_insert_entry e xs)

-- After a report,
pub few_report : (s : PoisonState) (a l kind time : ℕ) → length s.entries ≤ slots → length (after_report s a l kind time).entries ≤ slots
unfolding with_drop report_entries
few_report s a l kind time few = rw (length_insert_entries, length-map, length-take) (omega arith)

-- after an injection that is taken,
pub few_inject : (s : PoisonState) (k : ℕ) → length s.entries ≤ slots → injects s k ≡ true → length (after_inject s k).entries ≤ slots
few_inject s k few i = go (covers s.entries k) refl
  where
    go : (b : Bool) → covers s.entries k ≡ b → length (after_inject s k).entries ≤ slots
    go true c = rw c few
    go false c = rw c (rw length_insert_entry (ltb-true (length s.entries) slots (sym (rw c refl) ∙ i)))

-- after a clear.
pub few_clear : (s : PoisonState) (k time : ℕ) → length s.entries ≤ slots → length (after_clear s k time).entries ≤ slots
unfolding with_drop
few_clear s k time few =
    let E : List Run = shapes s.entries in
    let long : length (cut_entries (keeps k E) k s.entries) ≡ length (cut (keeps k E) k E) =
    sym (length-map (cut_entries (keeps k E) k s.entries) shape) ∙ ap length (shapes_cut (keeps k E) k s.entries)
    in
    let same : length E ≡ length s.entries = length-map s.entries shape in
    rw long (few_cut k E (rw same few))

-- ---- every type has three bits
pub typed_insert : (e : Entry) (es : List Entry) → e.kind < 8 → Typed es → Typed (insert_entry e es)
typed_insert e [] h t = (h, tt)
typed_insert e (x ∷ es) h t = go (ltb e.start x.start) (typed_insert e es h t.1)
  where
    go : (b : Bool) → Typed (insert_entry e es) → Typed (cond b (e ∷ x ∷ es) (x ∷ insert_entry e es))
    go true i = (h, t)
    go false i = (t.0, i)

typed_runs : (kind : ℕ) (rs : List Run) (es : List Entry) → kind < 8 → Typed es → Typed (insert_entries (map (entry kind) rs) es)
typed_runs kind [] es h t = t
typed_runs kind (r ∷ rs) es h t = typed_runs kind rs (insert_entry (entry kind r) es) h (typed_insert (entry kind r) es h t)

-- After a report.
pub typed_report : (a n kind : ℕ) (es : List Entry) → kind < 8 → Typed es → Typed (report_entries es a n kind)
unfolding report_entries
typed_report a n kind es h t = typed_runs kind (stored_runs es a n) es h t

typed_append : (es fs : List Entry) → Typed es → Typed fs → Typed (es ++ fs)
typed_append [] fs t u = u
typed_append (e ∷ es) fs t u = (t.0, typed_append es fs t.1 u)

typed_map : (kind : ℕ) (rs : List Run) → kind < 8 → Typed (map (entry kind) rs)
typed_map kind [] h = tt
typed_map kind (r ∷ rs) h = (h, typed_map kind rs h)

-- After a clear.
pub typed_clear : (keep : Bool) (k : ℕ) (es : List Entry) → Typed es → Typed (cut_entries keep k es)
typed_clear keep k [] t = tt
typed_clear keep k (e ∷ es) t = go (in_run (shape e) k) (typed_clear keep k es t.1)
  where
    F : List Entry
    F = map (entry e.kind) (before k (shape e))

    B : List Entry
    B = map (entry e.kind) (after k (shape e))

    part : (b : Bool) → Typed (cond b B [])
    part true = typed_map e.kind (after k (shape e)) t.0
    part false = tt

    go : (b : Bool) → Typed (cut_entries keep k es) → Typed (cond b (F ++ (cond keep B [] ++ es)) (e ∷ cut_entries keep k es))
    go true i = typed_append F (cond keep B [] ++ es) (typed_map e.kind (before k (shape e)) t.0) (typed_append (cond keep B []) es (part keep) t.1)
    go false i = (t.0, i)

-- ---- valid lists
-- A list that is valid on a device is valid on a larger one.
pub valid_more : {n m : ℕ} {l : PoisonList} → n ≤ m → ValidList n l → ValidList m l
valid_more {n} {m} {l} h v = record { few = v.few; chain = chain_higher 0 n m (shapes (entries_of l)) h v.chain; typed = v.typed }

pub slots_more : {n m count : ℕ} {starts lengths kinds : List ℕ} → n ≤ m → ValidSlots n count starts lengths kinds → ValidSlots m count starts lengths kinds
slots_more {n} {m} {count} {starts} {lengths} h v =
    record {
      runs =
          record {
            few = v.runs.few;
            starts_slots = v.runs.starts_slots;
            lengths_slots = v.runs.lengths_slots;
            chain = chain_higher 0 n m (runs_in count starts lengths) h v.runs.chain;
          };
      kinds_slots = v.kinds_slots;
      typed = v.typed;
    }

-- ---- entries are never merged
-- an entry held before another is put in is still there after it
insert_holds : (e x : Entry) (es : List Entry) → Memᴰ x es → Memᴰ x (insert_entry e es)
insert_holds e x [] m = Memᴰ.tail m
insert_holds e x (y ∷ es) m = go (ltb e.start y.start) (Memᴰ.cases_cons m) (λ q. insert_holds e x es q)
  where
    go : (b : Bool) → (x ≡ y) ⊎ Memᴰ x es → (Memᴰ x es → Memᴰ x (insert_entry e es)) → Memᴰ x (cond b (e ∷ y ∷ es) (y ∷ insert_entry e es))
    go true o i = Memᴰ.tail m
    go false (inl q) i = Memᴰ.head q
    go false (inr q) i = Memᴰ.tail (i q)

insert_all_holds : (fs : List Entry) (x : Entry) (es : List Entry) → Memᴰ x es → Memᴰ x (insert_entries fs es)
insert_all_holds [] x es m = m
insert_all_holds (f ∷ fs) x es m = insert_all_holds fs x (insert_entry f es) (insert_holds f x es m)

-- Every entry held before a report is still there after it, the very same.
pub report_holds : (s : PoisonState) (a n kind time : ℕ) (x : Entry) → Memᴰ x s.entries → Memᴰ x (after_report s a n kind time).entries
unfolding report_entries with_drop
report_holds s a n kind time x m = insert_all_holds (map (entry kind) (stored_runs s.entries a n)) x s.entries m

-- The same for an injection.
pub inject_holds : (s : PoisonState) (k : ℕ) (x : Entry) → Memᴰ x s.entries → Memᴰ x (after_inject s k).entries
inject_holds s k x m = go (covers s.entries k)
  where
    go : (b : Bool) → Memᴰ x (cond b s (with_entry s k)).entries
    go true = m
    go false = insert_holds (entry 3 (run k 1)) x s.entries m

-- ---- covered lines keep their entry
-- the entry over line k
abbrev pub entry_over : List Entry → ℕ → Entry
entry_over [] k = nought
entry_over (e ∷ es) k = cond (in_run (shape e) k) e (entry_over es k)

pub kind_over : (es : List Entry) (k : ℕ) → kind_at es k ≡ (entry_over es k).kind
kind_over [] k = refl
kind_over (e ∷ es) k = go (in_run (shape e) k) (kind_over es k)
  where
    go : (b : Bool) → kind_at es k ≡ (entry_over es k).kind → cond b e.kind (kind_at es k) ≡ (cond b e (entry_over es k)).kind
    go true i = refl
    go false i = i

-- an entry that does not cover a line leaves the entry over it as it was
insert_over : (e : Entry) (es : List Entry) (k : ℕ) → in_run (shape e) k ≡ false → entry_over (insert_entry e es) k ≡ entry_over es k
insert_over e [] k h = rw h
insert_over e (x ∷ es) k h = go (ltb e.start x.start) (insert_over e es k h)
  where
    go : (b : Bool) → entry_over (insert_entry e es) k ≡ entry_over es k → entry_over (cond b (e ∷ x ∷ es) (x ∷ insert_entry e es)) k ≡ cond (in_run (shape x) k) x (entry_over es k)
    go true i = rw h
    go false i = rw i

insert_all_over : (kind : ℕ) (rs : List Run) (es : List Entry) (k : ℕ) → in_runs rs k ≡ false → entry_over (insert_entries (map (entry kind) rs) es) k ≡ entry_over es k
insert_all_over kind [] es k h = refl
insert_all_over kind (r ∷ rs) es k h =
    insert_all_over kind rs (insert_entry (entry kind r) es) k (or_right (in_run r k) (in_runs rs k) h)
    ∙ insert_over (entry kind r) es k (or_left (in_run r k) (in_runs rs k) h)

-- A line that was covered before a report has the very same entry over it after the report, and so the same type (`kind_over`).
pub report_over : (s : PoisonState) (a n kind time k : ℕ) → covers s.entries k ≡ true → entry_over (after_report s a n kind time).entries k ≡ entry_over s.entries k
unfolding report_entries with_drop
report_over s a n kind time k h = insert_all_over kind (stored_runs s.entries a n) s.entries k (go (in_runs (stored_runs s.entries a n) k) (stored_free s.entries a n k))
  where
    go : (b : Bool) → (b ≡ true → covers s.entries k ≡ false) → b ≡ false
    go true f = absurd (true≢false (sym h ∙ f refl))
    go false f = refl

-- The same for an injection.
pub inject_over : (s : PoisonState) (j k : ℕ) → covers s.entries k ≡ true → entry_over (after_inject s j).entries k ≡ entry_over s.entries k
inject_over s j k h = go (covers s.entries j) refl
  where
    other : covers s.entries j ≡ false → Place (run j 1) k → in_run (run j 1) k ≡ false
    other u (low p e) = e
    other u (mid p q e) = let z : k ≡ j = omega arith in absurd (true≢false (sym h ∙ rw z u))
    other u (high p q e) = e

    go : (b : Bool) → covers s.entries j ≡ b → entry_over (cond b s (with_entry s j)).entries k ≡ entry_over s.entries k
    go true u = refl
    go false u = insert_over (entry 3 (run j 1)) s.entries k (other u (place (run j 1) k))

-- The type of a covered line is as before, after a report and after an injection.
pub report_kind : (s : PoisonState) (a n kind time k : ℕ) → covers s.entries k ≡ true → kind_at (after_report s a n kind time).entries k ≡ kind_at s.entries k
report_kind s a n kind time k h = kind_over (after_report s a n kind time).entries k ∙ ap (λ (e : Entry). e.kind) (report_over s a n kind time k h) ∙ sym (kind_over s.entries k)

pub inject_kind : (s : PoisonState) (j k : ℕ) → covers s.entries k ≡ true → kind_at (after_inject s j).entries k ≡ kind_at s.entries k
inject_kind s j k h = kind_over (after_inject s j).entries k ∙ ap (λ (e : Entry). e.kind) (inject_over s j k h) ∙ sym (kind_over s.entries k)
