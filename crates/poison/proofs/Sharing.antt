-- What the records of Get Poison List say (document 01, "Poison list"): an entry shares a line with the range exactly if some line is in
-- both; the entries cut to the range cover exactly the covered lines of the range, with the type of the entry over each, ascending and
-- apart, none empty; a range of 0 lines has none. Assumes nothing.
use mathlib.Core.Path.{◌≡◌, refl, sym, ◌∙◌}
use mathlib.Core.Bool.{Bool, true, false, ◌&&◌, ◌||◌, cond, true≢false, false≢true, and-true, and-or_distrib_right}
use mathlib.Core.List.{List, [], ◌∷◌}
use Prim.Native.Nat.{ℕ, ◌+◌, ◌≤◌, ◌<◌, max}
use native.Mathlib.Omega.{arith}
use borrow.Author.Tests.{lt-ltb, le-ltb, ltb-true}
use Rattle.poison.specs.Runs.{run, end, in_run, Chain}
use Rattle.poison.specs.State.{Entry, shape, shapes, covers, kind_at}
use Rattle.poison.specs.Range.{kept, shared_start, shared_end, shares, cut_to, sharing}
use Rattle.poison.proofs.Counts.{Place, low, mid, high, place, below_run, past_run, inside_run}

module _ (a n : ℕ) where
  -- ---- an entry and the range
  -- an entry that shares a line with the range: there is a line in both
  pub shares_some : (e : Entry) → shares a n e ≡ true → (k : ℕ) × (in_run (run a n) k ≡ true) × (in_run (shape e) k ≡ true)
  shares_some e h =
      let s : shared_start a e < shared_end a n e = ltb-true _ _ h in
      (shared_start a e, inside_run (run a n) (shared_start a e) (omega arith) (omega arith), inside_run (shape e) (shared_start a e) (omega arith) (omega arith))

  -- a line in both: the entry shares a line with the range
  pub some_shares : (e : Entry) (k : ℕ) → in_run (run a n) k ≡ true → in_run (shape e) k ≡ true → shares a n e ≡ true
  some_shares e k p q = go (place (run a n) k) (place (shape e) k)
    where
      go : Place (run a n) k → Place (shape e) k → shares a n e ≡ true
      go (low u v) y = absurd (false≢true (sym v ∙ p))
      go (high u w v) y = absurd (false≢true (sym v ∙ p))
      go (mid u w v) (low x y) = absurd (false≢true (sym y ∙ q))
      go (mid u w v) (high x z y) = absurd (false≢true (sym y ∙ q))
      go (mid u w v) (mid x z y) = lt-ltb (shared_start a e) (shared_end a n e) (omega arith)

  -- no line in both: the entry shares none
  shares_none : (e : Entry) (k : ℕ) → shares a n e ≡ false → (in_run (shape e) k && in_run (run a n) k) ≡ false
  shares_none e k h = go (in_run (shape e) k) (in_run (run a n) k) refl refl
    where
      go : (x y : Bool) → in_run (shape e) k ≡ x → in_run (run a n) k ≡ y → (x && y) ≡ false
      go true true p q = absurd (true≢false (sym (some_shares e k q p) ∙ h))
      go true false p q = refl
      go false y p q = refl

  -- what is left of an entry has its lines that are in the range
  in_cut_to : (e : Entry) (k : ℕ) → shares a n e ≡ true → in_run (shape (cut_to a n e)) k ≡ (in_run (shape e) k && in_run (run a n) k)
  in_cut_to e k h = go (ltb-true (shared_start a e) (shared_end a n e) h) (place (run a n) k) (place (shape e) k)
    where
      Goal : Type 0
      Goal = in_run (shape (cut_to a n e)) k ≡ (in_run (shape e) k && in_run (run a n) k)

      go : shared_start a e < shared_end a n e → Place (run a n) k → Place (shape e) k → Goal
      go s (low u v) (low x y) = rw (y, below_run (shape (cut_to a n e)) k (omega arith))
      go s (low u v) (mid x z y) = rw (y, v, below_run (shape (cut_to a n e)) k (omega arith))
      go s (low u v) (high x z y) = rw (y, below_run (shape (cut_to a n e)) k (omega arith))
      go s (high u w v) (low x y) = rw (y, past_run (shape (cut_to a n e)) k (omega arith))
      go s (high u w v) (mid x z y) = rw (y, v, past_run (shape (cut_to a n e)) k (omega arith))
      go s (high u w v) (high x z y) = rw (y, past_run (shape (cut_to a n e)) k (omega arith))
      go s (mid u w v) (low x y) = rw (y, below_run (shape (cut_to a n e)) k (omega arith))
      go s (mid u w v) (mid x z y) = rw (y, v, inside_run (shape (cut_to a n e)) k (omega arith) (omega arith))
      go s (mid u w v) (high x z y) = rw (y, past_run (shape (cut_to a n e)) k (omega arith))

  -- ---- what the records say
  -- they cover exactly the covered lines of the range
  pub covers_sharing : (es : List Entry) (k : ℕ) → covers (sharing a n es) k ≡ (covers es k && in_run (run a n) k)
  unfolding sharing kept
  covers_sharing [] k = refl
  covers_sharing (e ∷ es) k = go (shares a n e) refl (covers_sharing es k) ∙ sym (and-or_distrib_right (in_run (shape e) k) (covers es k) (in_run (run a n) k))
    where
      go : (b : Bool) → shares a n e ≡ b → covers (sharing a n es) k ≡ (covers es k && in_run (run a n) k) → covers (cond b (cut_to a n e ∷ sharing a n es) (sharing a n es)) k ≡ ((in_run (shape e) k && in_run (run a n) k) || (covers es k && in_run (run a n) k))
      go true h i = rw (in_cut_to e k h, i)
      go false h i = rw (shares_none e k h) i

  -- with the type of the entry over the line
  pub kind_sharing : (es : List Entry) (k : ℕ) → in_run (run a n) k ≡ true → kind_at (sharing a n es) k ≡ kind_at es k
  unfolding sharing kept
  kind_sharing [] k p = refl
  kind_sharing (e ∷ es) k p = go (shares a n e) refl (kind_sharing es k p)
    where
      is : (b : Bool) → (b && in_run (run a n) k) ≡ b
      is b = rw p (and-true b)

      go : (b : Bool) → shares a n e ≡ b → kind_at (sharing a n es) k ≡ kind_at es k → kind_at (cond b (cut_to a n e ∷ sharing a n es) (sharing a n es)) k ≡ cond (in_run (shape e) k) e.kind (kind_at es k)
      go true h i = rw (in_cut_to e k h, is (in_run (shape e) k), i)
      go false h i = rw (sym (is (in_run (shape e) k)) ∙ shares_none e k h) i

  -- the same from any line b of the range on, up to which no entry has a line
  chain_from : (b lo hi : ℕ) (es : List Entry) → Chain lo hi (shapes es) → b ≤ a + n → b ≤ max a lo → Chain b (a + n) (shapes (sharing a n es))
  unfolding sharing kept
  chain_from b lo hi [] c p q = p
  chain_from b lo hi (e ∷ es) c p q = go (shares a n e) refl (λ d u w. chain_from d (end (shape e)) hi es c.2 u w)
    where
      go : (t : Bool) → shares a n e ≡ t → ((d : ℕ) → d ≤ a + n → d ≤ max a (end (shape e)) → Chain d (a + n) (shapes (sharing a n es))) → Chain b (a + n) (shapes (cond t (cut_to a n e ∷ sharing a n es) (sharing a n es)))
      go true h i =
          let s : shared_start a e < shared_end a n e = ltb-true _ _ h in
          (omega arith, omega arith, i (end (shape (cut_to a n e))) (omega arith) (omega arith))
      go false h i = i b p (omega arith)

  -- they are ascending, apart, in the range, and none is empty
  pub chain_sharing : (lo hi : ℕ) (es : List Entry) → Chain lo hi (shapes es) → Chain a (a + n) (shapes (sharing a n es))
  chain_sharing lo hi es c = chain_from a lo hi es c (omega arith) (omega arith)

-- a range of 0 lines has none
pub none_in_none : (a : ℕ) (es : List Entry) → sharing a 0 es ≡ []
unfolding sharing kept
none_in_none a [] = refl
none_in_none a (e ∷ es) = rw (le-ltb (shared_start a e) (shared_end a 0 e) (omega arith)) (none_in_none a es)
