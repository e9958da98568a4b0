-- The entries that share a line with a range are neighbours in the list: where the first stands and how many they are, in a list in
-- order and in a list in memory; and the writing of their records meets its contract. Assumes nothing.
use mathlib.Core.Path.{◌≡◌, refl, sym, ap, ◌∙◌}
use mathlib.Core.Bool.{Bool, true, false, cond}
use mathlib.Core.List.{List, [], ◌∷◌, map}
use Prim.Native.Nat.{ℕ, zero, suc, ◌+◌, ◌-◌, ◌≤◌, ◌<◌, min}
use native.Mathlib.Omega.{arith}
use borrow.Author.Tests.{lt-ltb, le-ltb, ltb-true, ltb-false}
use lib.Dec.{ltb}
use lib.ListN.{length, take, drop, get_or, length-map, length-take, length-drop}
use lib.Seq.{take-take, take_all, take-nil}
use Rattle.wire.specs.Wire.{splice}
use Rattle.poison.specs.declared.list.PoisonList.{PoisonList}
use Rattle.poison.specs.Runs.{Run, run, end, Chain}
use Rattle.poison.specs.Shift.{zip}
use Rattle.poison.specs.State.{Entry, shape, shapes, entry, capacity, runs_in, entries_in, entries_of, Typed, ValidRuns, ValidList}
use Rattle.poison.specs.Search.{cover_at, place_of}
use Rattle.poison.specs.Range.{kept, shared_start, shared_end, shares, cut_to, sharing, records_bytes, first_past, Cuttable, Writable, Wrote}
use Rattle.poison.proofs.Moves.{nought, drop_take}
use Rattle.poison.proofs.Counts.{Place, low, mid, high, place, below_run, chain_le}
use Rattle.poison.proofs.Sharing.{none_in_none}
use Rattle.poison.proofs.Records.{records_end}
use Rattle.poison.proofs.Views.{Sized, length_runs, shapes_of, length_entries, entry_at}

-- ---- where they stand: the entries that share a line with the n lines from a on are those from place f up to place l
pub record Neighbours (a n : ℕ) (es : List Entry) (f l : ℕ) : Type 0 where
  pub ordered : f ≤ l
  pub within : l ≤ length es
  pub are : sharing a n es ≡ map (cut_to a n) (take (l - f) (drop f es))
  pub share : (i : ℕ) → f ≤ i → i < l → shares a n (get_or es i nought) ≡ true

module _ (a n : ℕ) where
  -- entries past the range share no line with it
  none_past : (lo hi : ℕ) (es : List Entry) → Chain lo hi (shapes es) → a + n ≤ lo → sharing a n es ≡ []
  unfolding sharing kept
  none_past lo hi [] c h = refl
  none_past lo hi (e ∷ es) c h = rw (le-ltb (shared_start a e) (shared_end a n e) (omega arith)) (none_past (end (shape e)) hi es c.2 (omega arith))

  -- the first of entries that lie past a line ends past it
  past_first : (lo hi : ℕ) (es : List Entry) → Chain lo hi (shapes es) → a < lo → first_past (shapes es) a ≡ 0
  past_first lo hi [] c h = refl
  past_first lo hi (e ∷ es) c h = rw (lt-ltb a (end (shape e)) (omega arith))

  -- an entry lies under the range, over it, or has a line of it
  data Lies (e : Entry) : Type 0 where
    under : end (shape e) ≤ a → Lies e
    over : a + n ≤ e.start → Lies e
    meets : a < end (shape e) → e.start < a + n → Lies e

  lies : (e : Entry) → Lies e
  lies e = go (ltb a (end (shape e))) (ltb e.start (a + n)) refl refl
    where
      go : (x y : Bool) → ltb a (end (shape e)) ≡ x → ltb e.start (a + n) ≡ y → Lies e
      go false y p q = under (ltb-false _ _ p)
      go true false p q = over (ltb-false _ _ q)
      go true true p q = meets (ltb-true _ _ p) (ltb-true _ _ q)

  -- the entries of a list in order that share a line with the range are neighbours: from the first that ends past the range's first
  -- line up to the first that starts past its last line, z
  pub neighbours : (z lo hi : ℕ) (es : List Entry) → Chain lo hi (shapes es) → suc z ≡ a + n → 0 < n → Neighbours a n es (first_past (shapes es) a) (place_of (shapes es) z)
  unfolding sharing kept
  neighbours z lo hi [] c last some = record { ordered = omega arith; within = omega arith; are = refl; share = λ i p q. absurd (omega arith) }
  neighbours z lo hi (e ∷ es) c last some = go (lies e) (neighbours z (end (shape e)) hi es c.2 last some)
    where
      F : ℕ
      F = first_past (shapes es) a

      P : ℕ
      P = place_of (shapes es) z

      L : List Entry
      L = e ∷ es

      at_place : (f l : ℕ) → cond (ltb a (end (shape e))) 0 (suc F) ≡ f → cond (ltb z e.start) 0 (suc P) ≡ l → Neighbours a n L f l → Neighbours a n L (first_past (shapes L) a) (place_of (shapes L) z)
      at_place f l p q h = rw (p, q) h

      go : Lies e → Neighbours a n es F P → Neighbours a n L (first_past (shapes L) a) (place_of (shapes L) z)
      go (under u) i =
          let d : suc P - suc F ≡ P - F = omega arith in
          at_place (suc F) (suc P) (rw (le-ltb a (end (shape e)) u)) (rw (le-ltb z e.start (omega arith)))
          (record {
            ordered = omega arith;
            within = omega arith;
            are = rw (d, le-ltb (shared_start a e) (shared_end a n e) (omega arith)) i.are;
            share = later;
          })
        where
          later : (j : ℕ) → suc F ≤ j → j < suc P → shares a n (get_or L j nought) ≡ true
          later zero p q = absurd (omega arith)
          later (suc j) p q = i.share j (omega arith) (omega arith)
      go (over u) i =
          at_place 0 0 (rw (lt-ltb a (end (shape e)) (omega arith))) (rw (lt-ltb z e.start (omega arith)))
          (record {
            ordered = omega arith;
            within = omega arith;
            are = rw (le-ltb (shared_start a e) (shared_end a n e) (omega arith)) (none_past (end (shape e)) hi es c.2 (omega arith));
            share = λ j p q. absurd (omega arith);
          })
      go (meets u w) i =
          let none : F ≡ 0 = past_first (end (shape e)) hi es c.2 u in
          let d : suc P - 0 ≡ suc P = omega arith in
          let t : P - 0 ≡ P = omega arith in
          at_place 0 (suc P) (rw (lt-ltb a (end (shape e)) u)) (rw (le-ltb z e.start (omega arith)))
          (record {
            ordered = omega arith;
            within = omega arith;
            are = rw (d, meet) (ap (λ (l : List Entry). cut_to a n e ∷ l) (rw (none, t) at i.are));
            share = later none;
          })
        where
          meet : shares a n e ≡ true
          meet = lt-ltb (shared_start a e) (shared_end a n e) (omega arith)

          later : F ≡ 0 → (j : ℕ) → 0 ≤ j → j < suc P → shares a n (get_or L j nought) ≡ true
          later none zero p q = meet
          later none (suc j) p q = i.share j (omega arith) (omega arith)

-- ---- the first run that ends past a line: the one over it, or else the first that starts past it
-- no run covers a line that lies below all of them
cover_low : (lo hi k : ℕ) (rs : List Run) → Chain lo hi rs → k < lo → cover_at rs k ≡ length rs
cover_low lo hi k [] c h = refl
cover_low lo hi k (r ∷ rs) c h = rw (below_run r k (omega arith), cover_low (end r) hi k rs c.2 (omega arith))

-- where a run covers the line, it is the first that ends past it
pub past_cover : (lo hi k : ℕ) (rs : List Run) → Chain lo hi rs → cover_at rs k < length rs → cover_at rs k ≡ first_past rs k
past_cover lo hi k [] c h = absurd (omega arith)
past_cover lo hi k (r ∷ rs) c h = go (place r k) (past_cover (end r) hi k rs c.2)
  where
    go : Place r k → (cover_at rs k < length rs → cover_at rs k ≡ first_past rs k) → cover_at (r ∷ rs) k ≡ first_past (r ∷ rs) k
    go (low u v) i = absurd (omega (arith, cover_low (end r) hi k rs c.2 (omega arith), rw v at h))
    go (mid u w v) i = rw (v, lt-ltb k (end r) w)
    go (high u w v) i = rw (v, le-ltb k (end r) w) (ap suc (i (omega (arith, rw v at h))))

-- where none covers the line, the first that starts past it is the first that ends past it
pub past_place : (lo hi k : ℕ) (rs : List Run) → Chain lo hi rs → length rs ≤ cover_at rs k → place_of rs k ≡ first_past rs k
past_place lo hi k [] c h = refl
past_place lo hi k (r ∷ rs) c h = go (place r k) (past_place (end r) hi k rs c.2)
  where
    go : Place r k → (length rs ≤ cover_at rs k → place_of rs k ≡ first_past rs k) → place_of (r ∷ rs) k ≡ first_past (r ∷ rs) k
    go (low u v) i = rw (lt-ltb k r.start u, lt-ltb k (end r) (omega arith))
    go (mid u w v) i = absurd (omega (arith, rw v at h))
    go (high u w v) i = rw (le-ltb k r.start u, le-ltb k (end r) w) (ap suc (i (omega (arith, rw v at h))))

-- the same of runs in arrays, by what the two searches find
module _ {n count : ℕ} {starts lengths : List ℕ} (v : ValidRuns n count starts lengths) (k : ℕ) where
  abbrev R : List Run
  R = runs_in count starts lengths

  many : length R ≡ count
  many = length_runs count starts lengths (v.starts_slots ∙ sym v.lengths_slots) (omega (arith, v.few, v.starts_slots))

  pub past_over : (i : ℕ) → i ≡ cover_at R k → i < count → i ≡ first_past R k
  past_over i e h = e ∙ past_cover 0 n k R v.chain (omega (arith, many))

  pub past_none : (i j : ℕ) → i ≡ cover_at R k → count ≤ i → j ≡ place_of R k → j ≡ first_past R k
  past_none i j e h f = f ∙ past_place 0 n k R v.chain (omega (arith, many))

-- ---- a range of 0 lines: nothing is written
pub wrote_none : (es : List Entry) (a n limit at : ℕ) (xs : List ℕ) → n ≡ 0 → at ≤ length xs → Wrote es a n limit at 0 xs xs
wrote_none es a n limit at xs e h =
    let none : sharing a n es ≡ [] = rw e (none_in_none a es) in
    record { number = rw none; bytes = rw (none, take-nil limit) (sym (records_end at xs h)) }

-- ---- an entry of a list in order, by its place
-- it ends where the list may reach, or before
chain_at : (lo hi : ℕ) (es : List Entry) (i : ℕ) → Chain lo hi (shapes es) → i < length es → end (shape (get_or es i nought)) ≤ hi
chain_at lo hi [] i c h = absurd (omega arith)
chain_at lo hi (e ∷ es) zero c h = chain_le (end (shape e)) hi (shapes es) c.2
chain_at lo hi (e ∷ es) (suc i) c h = chain_at (end (shape e)) hi es i c.2 (omega arith)

-- its type has three bits
typed_at : (es : List Entry) (i : ℕ) → Typed es → i < length es → (get_or es i nought).kind < 8
typed_at [] i t h = absurd (omega arith)
typed_at (e ∷ es) zero t h = t.0
typed_at (e ∷ es) (suc i) t h = typed_at es i t.1 (omega arith)

-- ---- parts of a list
take_map : {A B : Type 0} (g : A → B) (n : ℕ) (xs : List A) → take n (map g xs) ≡ map g (take n xs)
take_map g zero xs = refl
take_map g (suc n) [] = refl
take_map {A} {B} g (suc n) (x ∷ xs) = ap (λ (ys : List B). g x ∷ ys) (take_map g n xs)

-- the first i of the first j
take_both : {A : Type 0} (i j m : ℕ) (xs : List A) → m ≡ min j i → take i (take j xs) ≡ take m xs
take_both i j m xs e = go (ltb j i) refl
  where
    go : (b : Bool) → ltb j i ≡ b → take i (take j xs) ≡ take m xs
    go true h =
        let z : m ≡ j = omega (arith, ltb-true j i h) in
        rw z (take_all i (take j xs) (simp length-take (omega (arith, ltb-true j i h))))
    go false h =
        let z : m ≡ i = omega (arith, ltb-false j i h) in
        rw z (take-take i j xs (ltb-false j i h))

-- ---- a list in memory: f and p are what the searches find for the n lines from a on
module _ (l : PoisonList) (sized : Sized l) (v : ValidList capacity l) (a n f p : ℕ) (some : n ≡ 0 → ⊥) (isf : f ≡ first_past (runs_in l.count l.starts l.lengths) a) (isp : p ≡ place_of (runs_in l.count l.starts l.lengths) (a + n - 1)) where
  abbrev es : List Entry
  es = entries_of l

  near : Neighbours a n es f p
  near = rw (isf, isp, ← shapes_of l sized) (neighbours a n (a + n - 1) 0 capacity es v.chain (omega arith) (omega arith))

  held : length es ≡ l.count
  held = length_entries l sized v.few

  -- the difference of the places is their number
  pub ordered : f ≤ p
  ordered = near.ordered

  -- the first m of them can be written
  pub writable : (m : ℕ) → m ≤ p - f → a + n ≤ capacity → Writable a n f m l.starts l.lengths l.kinds
  writable m few fits =
      record {
        starts_slots = sized.starts;
        lengths_slots = sized.lengths;
        kinds_slots = sized.kinds;
        inside = omega (arith, near, held, v.few);
        range = fits;
        each = each;
      }
    where
      each : (i : ℕ) → i < m → Cuttable a n (get_or l.starts (f + i) 0) (get_or l.lengths (f + i) 0) (get_or l.kinds (f + i) 0)
      each i h =
          let in_list : f + i < length es = omega (arith, near) in
          let is = entry_at l sized (f + i) (omega (arith, held)) in
          record {
            shared = ltb-true _ _ (rw is at (near.share (f + i) (omega arith) (omega arith)));
            bounded = rw is at (chain_at 0 capacity es (f + i) v.chain in_list);
            typed = rw is at (typed_at es (f + i) v.typed in_list);
          }

  -- the answer and the bytes
  pub wrote : (limit at r m : ℕ) (before after : List ℕ) → r ≡ p - f → m ≡ min (p - f) limit → after ≡ splice at (records_bytes (map (cut_to a n) (drop f (entries_in (f + m) l.starts l.lengths l.kinds)))) before → Wrote (entries_of l) a n limit at r before after
  wrote limit at r m before after er em e =
      record {
        number = omega (arith, ap length near.are, length-map (take (p - f) (drop f es)) (cut_to a n), length-take (p - f) (drop f es), length-drop f es, near, held);
        bytes = e ∙ ap (λ (xs : List Entry). splice at (records_bytes xs) before) (sym cut_is);
      }
    where
      slots_of : List Entry
      slots_of = zip (λ (r : Run) (k : ℕ). entry k r) (zip run l.starts l.lengths) l.kinds

      front : take m (drop f es) ≡ drop f (entries_in (f + m) l.starts l.lengths l.kinds)
      front =
          let z : f + m - f ≡ m = omega arith in
          ap (take m) (drop_take f l.count slots_of) ∙ take-take m (l.count - f) (drop f slots_of) (omega (arith, near, held))
          ∙ sym (drop_take f (f + m) slots_of ∙ ap (λ (i : ℕ). take i (drop f slots_of)) z)

      cut_is : take limit (sharing a n es) ≡ map (cut_to a n) (drop f (entries_in (f + m) l.starts l.lengths l.kinds))
      cut_is =
          ap (take limit) near.are ∙ take_map (cut_to a n) limit (take (p - f) (drop f es))
          ∙ ap (map (cut_to a n)) (take_both limit (p - f) m (drop f es) em ∙ front)
