-- Clearing a line, by the place of the entry over it and by what is left of that entry: taken away, replaced by one part, or replaced by
-- the part before with the part after put behind it or dropped. Assumes nothing.
use mathlib.Core.Path.{◌≡◌, refl, sym, ap, ◌∙◌}
use mathlib.Core.Bool.{Bool, true, false, not, ◌&&◌, cond, and-false}
use mathlib.Core.List.{List, [], ◌∷◌, ◌++◌, map, append_assoc}
use Prim.Native.Nat.{ℕ, zero, suc, ◌+◌, ◌-◌, ◌≤◌, ◌<◌}
use native.Mathlib.Numerals.{add-one}
use native.Mathlib.Omega.{arith}
use borrow.Author.Tests.{le-leb, lt-leb}
use lib.Dec.{leb}
use lib.ListN.{length, take, drop, set, get_or, length-map, length-append, length-take, get_or-map}
use lib.Seq.{set_split, take_at, drop_at}
use Rattle.poison.specs.declared.list.PoisonList.{PoisonList}
use Rattle.poison.specs.Runs.{Run, run, end, in_run, run_if_any, before, after, before_in, after_in, keeps, slots, some_run}
use Rattle.poison.specs.State.{Entry, PoisonState, shape, entry, shapes, entries_of, state_of}
use Rattle.poison.proofs.ListChanges.{with_entries, ReplacedAt, inserted_at, removed_at, replaced_by, replaced_at, shortened, shortened_sized, shortened_at, flagged}
use Rattle.poison.specs.Moved.{EntryAdded, EntryRemoved}
use Rattle.poison.specs.Report.{with_drop, dropped_at}
use Rattle.poison.specs.Search.{cover_at}
use Rattle.poison.specs.Clear.{after_clear, cut_entries, Clears}
use Rattle.poison.proofs.Moves.{nought}
use Rattle.poison.proofs.Overflow.{drop_none, drop_some}
use Rattle.poison.proofs.Covering.{no_run, cover_bounds, Searched, place_over}
use Rattle.poison.proofs.Validity.{valid_clear}
use Rattle.poison.proofs.Views.{length_entries, entry_at}

-- what an entry over a line leaves: its parts, as entries of its type
abbrev parts : Bool → List Run → List Run → ℕ → List Entry → List Entry
parts keep F B q rest = map (entry q) F ++ (cond keep (map (entry q) B) [] ++ rest)

some_part : (a n : ℕ) → 0 < n → run_if_any a n ≡ run a n ∷ []
some_part a zero h = absurd (omega arith)
some_part a (suc n) h = refl

-- ---- the entry over line k, by its place
module _ (k : ℕ) where
  abbrev over : List Entry → Entry
  over es = get_or es (cover_at (shapes es) k) nought

  cut_is : (keep : Bool) (es : List Entry) → cover_at (shapes es) k < length es → cut_entries keep k es ≡ take (cover_at (shapes es) k) es ++ parts keep (before k (shape (over es))) (after k (shape (over es))) (over es).kind (drop (suc (cover_at (shapes es) k)) es)
  cut_is keep [] h = absurd (omega arith)
  cut_is keep (e ∷ es) h = go (in_run (shape e) k) h (cut_is keep es)
    where
      c : ℕ
      c = cover_at (shapes es) k

      go : (b : Bool) → cond b 0 (suc c) < suc (length es) → (c < length es → cut_entries keep k es ≡ take c es ++ parts keep (before k (shape (get_or es c nought))) (after k (shape (get_or es c nought))) (get_or es c nought).kind (drop (suc c) es)) → cond b (parts keep (before k (shape e)) (after k (shape e)) e.kind es) (e ∷ cut_entries keep k es) ≡ take (cond b 0 (suc c)) (e ∷ es) ++ parts keep (before k (shape (get_or (e ∷ es) (cond b 0 (suc c)) nought))) (after k (shape (get_or (e ∷ es) (cond b 0 (suc c)) nought))) (get_or (e ∷ es) (cond b 0 (suc c)) nought).kind (drop (suc (cond b 0 (suc c))) (e ∷ es))
      go true h i = refl
      go false h i = ap (λ (l : List Entry). e ∷ l) (i (omega arith))

  -- what is taken from the run over the line, for `before_in` and `after_in`
  part_is : (f : Run → List Run) (g : List Run → List Run) → ((r : Run) (rs : List Run) → g (r ∷ rs) ≡ cond (in_run r k) (f r) (g rs)) → (rs : List Run) → cover_at rs k < length rs → g rs ≡ f (get_or rs (cover_at rs k) no_run)
  part_is f g q [] h = absurd (omega arith)
  part_is f g q (r ∷ rs) h = q r rs ∙ go (in_run r k) h (part_is f g q rs)
    where
      c : ℕ
      c = cover_at rs k

      go : (b : Bool) → cond b 0 (suc c) < suc (length rs) → (c < length rs → g rs ≡ f (get_or rs c no_run)) → cond b (f r) (g rs) ≡ f (get_or (r ∷ rs) (cond b 0 (suc c)) no_run)
      go true h i = refl
      go false h i = i (omega arith)

-- no entry over the line: nothing changes
cut_same : (k : ℕ) (keep : Bool) (es : List Entry) → cover_at (shapes es) k ≡ length es → cut_entries keep k es ≡ es
cut_same k keep [] h = refl
cut_same k keep (x ∷ es) h = go (in_run (shape x) k) h (cut_same k keep es)
  where
    go : (b : Bool) → cond b 0 (suc (cover_at (shapes es) k)) ≡ suc (length es) → (cover_at (shapes es) k ≡ length es → cut_entries keep k es ≡ es) → cond b (parts keep (before k (shape x)) (after k (shape x)) x.kind es) (x ∷ cut_entries keep k es) ≡ x ∷ es
    go true h i = absurd (omega arith)
    go false h i = ap (λ (l : List Entry). x ∷ l) (i (omega arith))

no_after : (k : ℕ) (rs : List Run) → cover_at rs k ≡ length rs → after_in k rs ≡ []
no_after k [] h = refl
no_after k (r ∷ rs) h = go (in_run r k) h (no_after k rs)
  where
    go : (b : Bool) → cond b 0 (suc (cover_at rs k)) ≡ suc (length rs) → (cover_at rs k ≡ length rs → after_in k rs ≡ []) → cond b (after k r) (after_in k rs) ≡ []
    go true h i = absurd (omega arith)
    go false h i = i (omega arith)

pub clear_none : (s : PoisonState) (k time : ℕ) → cover_at (shapes s.entries) k ≡ length s.entries → s ≡ after_clear s k time
clear_none s k time e =
    sym (rw (no_after k (shapes s.entries) (e ∙ sym (length-map s.entries shape)), cut_same k (keeps k (shapes s.entries)) s.entries e, same_if (keeps k (shapes s.entries))) (drop_none s s.entries [] time refl))
  where
    same_if : (b : Bool) → ◌≡◌ {A = List Run} (cond b [] []) []
    same_if true = refl
    same_if false = refl

-- ---- entry e, at place `at`, over line k
module _ (s : PoisonState) (k time at : ℕ) (is : at ≡ cover_at (shapes s.entries) k) (inn : at < length s.entries) (e : Entry) (got : get_or s.entries at nought ≡ e) where
  -- the lines of the entry before line k, and after it
  abbrev front : ℕ
  front = k - e.start

  abbrev back : ℕ
  back = e.lines - (k - e.start) - 1

  here : cover_at (shapes s.entries) k < length s.entries
  here = rw (← is) inn

  run_here : get_or (shapes s.entries) (cover_at (shapes s.entries) k) no_run ≡ shape e
  run_here = get_or-map shape s.entries (cover_at (shapes s.entries) k) nought ∙ rw (← is) (ap shape got)

  pub entry_bounds : (e.start ≤ k) × (k < e.start + e.lines)
  entry_bounds = rw run_here at (cover_bounds (shapes s.entries) k (rw (length-map s.entries shape) here))

  back_is : end (shape e) - suc k ≡ back
  back_is = omega (arith, entry_bounds)

  before_here : before_in k (shapes s.entries) ≡ run_if_any e.start front
  before_here = part_is k (before k) (before_in k) (λ r rs. refl) (shapes s.entries) (rw (length-map s.entries shape) here) ∙ ap (before k) run_here

  after_here : after_in k (shapes s.entries) ≡ run_if_any (k + 1) back
  after_here = part_is k (after k) (after_in k) (λ r rs. refl) (shapes s.entries) (rw (length-map s.entries shape) here) ∙ ap (after k) run_here ∙ rw (back_is, add-one k)

  -- whether the part after is kept, by the parts that are left
  abbrev kept : List Run → List Run → Bool
  kept F B = not (leb slots (length s.entries) && (some_run F && some_run B))

  cut_here : (keep : Bool) (F B : List Run) → run_if_any e.start front ≡ F → run_if_any (k + 1) back ≡ B → cut_entries keep k s.entries ≡ take at s.entries ++ parts keep F B e.kind (drop (suc at) s.entries)
  cut_here keep F B f b =
      let o : get_or s.entries (cover_at (shapes s.entries) k) nought ≡ e = rw (← is) got in
      cut_is k keep s.entries here ∙ rw (o, back_is, rw (add-one k) at b, f, ← is)

  clear_is : (F B : List Run) → run_if_any e.start front ≡ F → run_if_any (k + 1) back ≡ B → with_drop s (take at s.entries ++ parts (kept F B) F B e.kind (drop (suc at) s.entries)) (cond (kept F B) [] B) time ≡ after_clear s k time
  unfolding keeps
  clear_is F B f b = rw (before_here ∙ f, after_here ∙ b, length-map s.entries shape, cut_here (kept F B) F B f b)

  -- another entry at the place
  replaced : (x : Entry) → set s.entries at x ≡ take at s.entries ++ (x ∷ drop (suc at) s.entries)
  replaced x = set_split s.entries at x inn

  no_front : front ≡ 0 → run_if_any e.start front ≡ []
  no_front f = rw f

  no_back : back ≡ 0 → run_if_any (k + 1) back ≡ []
  no_back b = rw b

  some_front : (front ≡ 0 → ⊥) → run_if_any e.start front ≡ run e.start front ∷ []
  some_front f = some_part e.start front (omega arith)

  some_back : (back ≡ 0 → ⊥) → run_if_any (k + 1) back ≡ run (k + 1) back ∷ []
  some_back b = some_part (k + 1) back (omega arith)

  -- nothing is left: the entry goes
  pub clear_whole : front ≡ 0 → back ≡ 0 → with_entries s (take at s.entries ++ drop (at + 1) s.entries) ≡ after_clear s k time
  clear_whole f b =
      rw (add-one at) (sym (drop_none s (take at s.entries ++ drop (suc at) s.entries) [] time refl) ∙ rw (and-false (leb slots (length s.entries))) at (clear_is [] [] (no_front f) (no_back b)))

  -- the part after is left
  pub clear_front : front ≡ 0 → (back ≡ 0 → ⊥) → with_entries s (set s.entries at (entry e.kind (run (k + 1) back))) ≡ after_clear s k time
  clear_front f b =
      rw (replaced (entry e.kind (run (k + 1) back))) (sym (drop_none s _ [] time refl) ∙ rw (and-false (leb slots (length s.entries))) at (clear_is [] (run (k + 1) back ∷ []) (no_front f) (some_back b)))

  -- the part before is left
  pub clear_back : (front ≡ 0 → ⊥) → back ≡ 0 → with_entries s (set s.entries at (entry e.kind (run e.start front))) ≡ after_clear s k time
  clear_back f b =
      rw (replaced (entry e.kind (run e.start front))) (sym (drop_none s _ [] time refl) ∙ rw (and-false (leb slots (length s.entries))) at (clear_is (run e.start front ∷ []) [] (some_front f) (no_back b)))

  -- both are left, with 256 held: the part after is dropped
  pub clear_lost : (front ≡ 0 → ⊥) → (back ≡ 0 → ⊥) → length s.entries ≡ slots → record { entries = set s.entries at (entry e.kind (run e.start front)); overflow = true; overflow_time = cond s.overflow s.overflow_time time } ≡ after_clear s k time
  clear_lost f b n =
      rw (replaced (entry e.kind (run e.start front))) (sym (drop_some s _ (run (k + 1) back ∷ []) time refl) ∙ rw (le-leb slots (length s.entries) (omega arith)) at (clear_is (run e.start front ∷ []) (run (k + 1) back ∷ []) (some_front f) (some_back b)))

  -- both are left, with fewer held: the part after is put behind the part before
  pub clear_both : (front ≡ 0 → ⊥) → (back ≡ 0 → ⊥) → length s.entries < slots → (kept : List Entry) → kept ≡ set s.entries at (entry e.kind (run e.start front)) → with_entries s (take (at + 1) kept ++ (entry e.kind (run (k + 1) back) ∷ drop (at + 1) kept)) ≡ after_clear s k time
  clear_both f b n kept h =
      rw (h, replaced F) (rw both (sym (drop_none s _ [] time refl) ∙ rw (lt-leb slots (length s.entries) n) at (clear_is (run e.start front ∷ []) (run (k + 1) back ∷ []) (some_front f) (some_back b))))
    where
      F : Entry
      F = entry e.kind (run e.start front)

      B : Entry
      B = entry e.kind (run (k + 1) back)

      head : List Entry
      head = take at s.entries ++ (F ∷ [])

      rest : List Entry
      rest = drop (suc at) s.entries

      len : length head ≡ at + 1
      len = simp (length-append, length-take) (omega arith)

      both : take (at + 1) (take at s.entries ++ (F ∷ rest)) ++ (B ∷ drop (at + 1) (take at s.entries ++ (F ∷ rest))) ≡ take at s.entries ++ (F ∷ B ∷ rest)
      both =
          rw (← append_assoc (take at s.entries) (F ∷ []) rest)
          (rw (take_at head rest (at + 1) len, drop_at head rest (at + 1) len) (append_assoc (take at s.entries) (F ∷ []) (B ∷ rest)))

-- ---- a list in memory, by what the search answers: what the code does in each case is the clear
-- none found: the list stays
pub stays : {l : PoisonList} {k time : ℕ} → Searched l k l.count → Clears l k time l
stays {l} {k} {time} o =
    record { state = clear_none (state_of l) k time (omega (arith, place_over o, length_entries l o.sized o.few)); valid = λ m v. v }

-- the entry over line k: at place `at`, of `lines` lines from `start` on
pub record Over (l : PoisonList) (k at start lines kind : ℕ) : Type 0 where
  pub searched : Searched l k at
  pub inside : at < l.count
  pub start_is : start ≡ get_or l.starts at 0
  pub lines_is : lines ≡ get_or l.lengths at 0
  pub kind_is : kind ≡ get_or l.kinds at 0

module _ {l : PoisonList} {k at start lines kind : ℕ} (o : Over l k at start lines kind) where
  abbrev found : Entry
  found = entry kind (run start lines)

  abbrev head : ℕ
  head = k - start

  abbrev tail : ℕ
  tail = lines - (k - start) - 1

  held : length (entries_of l) ≡ l.count
  held = length_entries l o.searched.sized o.searched.few

  within : at < length (entries_of l)
  within = omega (arith, held, o.inside)

  got_is : get_or (entries_of l) at nought ≡ found
  got_is = rw (o.start_is, o.lines_is, o.kind_is) (entry_at l o.searched.sized at o.inside)

  pub found_bounds : (start ≤ k) × (k < start + lines)
  found_bounds = entry_bounds (state_of l) k 0 at (place_over o.searched) within found got_is

  -- the part before, in its place
  abbrev short : PoisonList
  short = shortened l at head

  short_is : ReplacedAt l at start head kind short
  short_is = rw (o.start_is, o.kind_is) (shortened_at l o.searched.sized at _ o.inside)

  module _ {time : ℕ} where
    cleared : (r : PoisonList) → r.count ≤ slots → state_of r ≡ after_clear (state_of l) k time → Clears l k time r
    cleared r n e = record { state = e; valid = λ m v. valid_clear l r n m v k time e }

    -- nothing is left of it: it is taken away
    pub removes : {r : PoisonList} → head ≡ 0 → tail ≡ 0 → EntryRemoved l at r → Clears l k time r
    removes {r} f b e =
        let i = removed_at l o.searched.sized o.inside o.searched.few e in
        cleared r (omega (arith, i.count, o.searched.few)) (i.state ∙ clear_whole (state_of l) k time at (place_over o.searched) within found got_is f b)

    -- the part after is left
    pub keeps_after : head ≡ 0 → (tail ≡ 0 → ⊥) → Clears l k time (replaced_by l at (k + 1) tail)
    keeps_after f b =
        let i : ReplacedAt l at (k + 1) tail kind (replaced_by l at (k + 1) tail) = rw o.kind_is (replaced_at l o.searched.sized at (k + 1) tail o.inside) in
        cleared (replaced_by l at (k + 1) tail) o.searched.few (i.state ∙ clear_front (state_of l) k time at (place_over o.searched) within found got_is f b)

    module _ (f : head ≡ 0 → ⊥) where
      -- the part before is left
      pub keeps_before : tail ≡ 0 → Clears l k time short
      keeps_before b = cleared short o.searched.few (short_is.state ∙ clear_back (state_of l) k time at (place_over o.searched) within found got_is f b)

      -- both are left, with 256 held: the part after is dropped
      pub drops_after : {r : PoisonList} → (tail ≡ 0 → ⊥) → l.count ≡ slots → r ≡ dropped_at short time → Clears l k time r
      drops_after {r} b n e =
          let j = flagged short time e in
          cleared r (omega (arith, j.count, o.searched.few))
          (j.state ∙ ap (λ (s : PoisonState). record { entries = s.entries; overflow = true; overflow_time = cond s.overflow s.overflow_time time }) short_is.state ∙ clear_lost (state_of l) k time at (place_over o.searched) within found got_is f b (held ∙ n))

      -- both are left, with fewer held: the part after is put behind the part before
      pub keeps_both : {r : PoisonList} → (tail ≡ 0 → ⊥) → l.count < slots → EntryAdded short (at + 1) (k + 1) tail kind r → Clears l k time r
      keeps_both {r} b n e =
          let j = inserted_at short (shortened_sized l o.searched.sized at head) (omega (arith, o.inside)) n e in
          cleared r (omega (arith, j.count))
          (j.state ∙ ap (λ (s : PoisonState). with_entries s (take (at + 1) s.entries ++ (entry kind (run (k + 1) tail) ∷ drop (at + 1) s.entries))) short_is.state ∙ clear_both (state_of l) k time at (place_over o.searched) within found got_is f b (omega (arith, held)) (set (entries_of l) at (entry kind (run start head))) refl)
