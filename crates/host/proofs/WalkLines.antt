-- What the walk gives over a list in order (document 02, W-202): "each covered line of the range once with its type and no other line, ascending", whatever the most
-- records of a reply are, as long as there is one. Assumes nothing.
use mathlib.Core.Path.{◌≡◌, refl, sym, ap, ap₂, ◌∙◌, subst}
use mathlib.Core.Bool.{Bool, true, false, ◌&&◌, ◌||◌, cond, true≢false, false≢true, or_assoc}
use mathlib.Core.List.{List, [], ◌∷◌, ◌++◌}
use Prim.Native.Nat.{ℕ, zero, suc, ◌+◌, ◌-◌, ◌/◌, ◌≤◌, ◌<◌}
use native.Mathlib.Omega.{arith}
use lib.Dec.{ltb}
use lib.ListN.{length}
use lib.Seq.{take_all}
use borrow.Author.Tests.{ltb-false}
use Rattle.poison.specs.Runs.{run, end, in_run, one_if, Chain}
use Rattle.poison.specs.State.{Entry, shape, shapes, covers, kind_at}
use Rattle.poison.specs.Range.{sharing}
use Rattle.poison.proofs.Laws.{Place, low, mid, high, place, below_run, past_run, inside_run, apart, covers_sharing, kind_sharing, chain_sharing, chain_length}
use Rattle.host.specs.Walk.{halves, walk, times, Lists}
use Rattle.host.proofs.WalkLaws.{two_lines, walk_halved, walk_whole}

-- ---- entries in order
-- those after others
chain_append : (lo m hi : ℕ) (xs ys : List Entry) → Chain lo m (shapes xs) → Chain m hi (shapes ys) → Chain lo hi (shapes (xs ++ ys))
chain_append lo m hi [] [] c d = omega arith
chain_append lo m hi [] (y ∷ ys) c d = (omega arith, d.1, d.2)
chain_append lo m hi (x ∷ xs) ys c d = (c.0, c.1, chain_append (end (shape x)) m hi xs ys c.2 d)

covers_append : (xs ys : List Entry) (k : ℕ) → covers (xs ++ ys) k ≡ (covers xs k || covers ys k)
covers_append [] ys k = refl
covers_append (x ∷ xs) ys k = ap (λ (b : Bool). in_run (shape x) k || b) (covers_append xs ys k) ∙ sym (or_assoc (in_run (shape x) k) (covers xs k) (covers ys k))

kind_append : (xs ys : List Entry) (k : ℕ) → kind_at (xs ++ ys) k ≡ cond (covers xs k) (kind_at xs k) (kind_at ys k)
kind_append [] ys k = refl
kind_append (x ∷ xs) ys k = go (in_run (shape x) k) (kind_append xs ys k)
  where
    go : (b : Bool) → kind_at (xs ++ ys) k ≡ cond (covers xs k) (kind_at xs k) (kind_at ys k)
        → cond b x.kind (kind_at (xs ++ ys) k) ≡ cond (b || covers xs k) (cond b x.kind (kind_at xs k)) (kind_at ys k)
    go true i = refl
    go false i = i

-- ---- a range and its parts
in_parts : (a m n k : ℕ) → in_run (run a (m + n)) k ≡ (in_run (run a m) k || in_run (run (a + m) n) k)
in_parts a m n k = go (place (run a m) k) (place (run (a + m) n) k)
  where
    go : Place (run a m) k → Place (run (a + m) n) k → in_run (run a (m + n)) k ≡ (in_run (run a m) k || in_run (run (a + m) n) k)
    go (low u v) (low x y) = rw (v, y, below_run (run a (m + n)) k (omega arith))
    go (low u v) (mid x z y) = absurd (omega arith)
    go (low u v) (high x z y) = absurd (omega arith)
    go (mid u w v) q = rw (v, inside_run (run a (m + n)) k (omega arith) (omega arith))
    go (high u w v) (low x y) = absurd (omega arith)
    go (high u w v) (mid x z y) = rw (v, y, inside_run (run a (m + n)) k (omega arith) (omega arith))
    go (high u w v) (high x z y) = rw (v, y, past_run (run a (m + n)) k (omega arith))

parts_apart : (a m n k : ℕ) → (in_run (run a m) k && in_run (run (a + m) n) k) ≡ false
parts_apart a m n k = go (place (run a m) k)
  where
    go : Place (run a m) k → (in_run (run a m) k && in_run (run (a + m) n) k) ≡ false
    go (low u v) = rw v
    go (mid u w v) = rw (v, below_run (run (a + m) n) k (omega arith))
    go (high u w v) = rw v

-- ---- how often a line is in some entries
times_append : (xs ys : List Entry) (k : ℕ) → times (xs ++ ys) k ≡ times xs k + times ys k
times_append [] ys k = omega arith
times_append (x ∷ xs) ys k = let i = times_append xs ys k in omega arith

-- in entries in order, once where one covers it
times_chain : (lo hi : ℕ) (es : List Entry) (k : ℕ) → Chain lo hi (shapes es) → times es k ≡ one_if (covers es k)
times_chain lo hi [] k c = refl
times_chain lo hi (e ∷ es) k c =
    ap (λ (n : ℕ). one_if (in_run (shape e) k) + n) (times_chain (end (shape e)) hi es k c.2)
    ∙ go (in_run (shape e) k) (covers es k) (apart (shape e) hi (shapes es) c.2 k)
  where
    go : (x y : Bool) → (x && y) ≡ false → one_if x + one_if y ≡ one_if (x || y)
    go true true h = absurd (true≢false h)
    go true false h = refl
    go false y h = omega arith

-- ---- the entries that share a line with a range, cut to it; and those of two ranges side by side
module _ (es : List Entry) (hi : ℕ) (c : Chain 0 hi (shapes es)) where
  -- the entries that share a line with the range, cut to it
  sharing_lists : (a n : ℕ) → Lists es a n (sharing a n es)
  sharing_lists a n =
      record {
        once = λ k. times_chain a (a + n) (sharing a n es) k (chain_sharing a n 0 hi es c) ∙ ap one_if (covers_sharing a n es k);
        kinds = λ k h. kind_sharing a n es k (right (covers es k) (in_run (run a n) k) (sym (covers_sharing a n es k) ∙ h));
        ascending = chain_sharing a n 0 hi es c;
      }
    where
      right : (x y : Bool) → (x && y) ≡ true → y ≡ true
      right true y h = h
      right false y h = absurd (false≢true h)

  -- those of a range, and those of a range after it
  joined_lists : (a m n : ℕ) (xs ys : List Entry) → Lists es a m xs → Lists es (a + m) n ys → Lists es a (m + n) (xs ++ ys)
  joined_lists a m n xs ys p q =
      record {
        once = λ k. times_append xs ys k ∙ ap₂ ◌+◌ (p.once k) (q.once k) ∙ in_either k;
        kinds = λ k h. kind_append xs ys k ∙ go k (covers xs k) refl (sym (covers_append xs ys k) ∙ h);
        ascending = let e : a + m + n ≡ a + (m + n) = omega arith in chain_append a (a + m) (a + (m + n)) xs ys p.ascending (rw e at q.ascending);
      }
    where
      in_either : (k : ℕ) → one_if (covers es k && in_run (run a m) k) + one_if (covers es k && in_run (run (a + m) n) k) ≡ one_if (covers es k && in_run (run a (m + n)) k)
      in_either k = rw (in_parts a m n k) (or (covers es k) (in_run (run a m) k) (in_run (run (a + m) n) k) (parts_apart a m n k))
        where
          or : (x y z : Bool) → (y && z) ≡ false → one_if (x && y) + one_if (x && z) ≡ one_if (x && (y || z))
          or true true true h = absurd (true≢false h)
          or true true false h = refl
          or true false z h = omega arith
          or false y z h = refl

      go : (k : ℕ) (b : Bool) → covers xs k ≡ b → (covers xs k || covers ys k) ≡ true → cond b (kind_at xs k) (kind_at ys k) ≡ kind_at es k
      go k true e h = p.kinds k e
      go k false e h = q.kinds k (rw e at h)

  -- ---- the walk, by replies that can hold a record
  -- there is at most a record to a line
  short : (a n : ℕ) → length (sharing a n es) ≤ n
  short a n = let l = chain_length a (a + n) (sharing a n es) (chain_sharing a n 0 hi es c) in omega arith

  module _ (most : ℕ) (some : 0 < most) where
    -- the records of a range that is not halved are all there are
    pub whole : (a n : ℕ) → halves most es a n ≡ false → walk most es a n ≡ sharing a n es
    unfolding halves
    whole a n h = walk_whole most es a n h ∙ take_all most (sharing a n es) (go (ltb most (length (sharing a n es))) refl h)
      where
        go : (b : Bool) → ltb most (length (sharing a n es)) ≡ b → (b && ltb 1 n) ≡ false → length (sharing a n es) ≤ most
        go true e h = let u = ltb-false 1 n h in let s = short a n in omega arith
        go false e h = ltb-false most (length (sharing a n es)) e

    -- what holds of the entries of every range, and of two ranges side by side, holds of the walk
    module _ (P : ℕ → ℕ → List Entry → Type 0) (one : (a n : ℕ) → P a n (sharing a n es))
        (two : (a m n : ℕ) (xs ys : List Entry) → P a m xs → P (a + m) n ys → P a (m + n) (xs ++ ys)) where
      holds_within : (depth a n : ℕ) → n ≤ depth → P a n (walk most es a n)
      holds_within zero a n u = go (halves most es a n) refl
        where
          go : (b : Bool) → halves most es a n ≡ b → P a n (walk most es a n)
          go true h = let t = two_lines most es a n h in absurd (omega arith)
          go false h = rw (whole a n h) (one a n)
      holds_within (suc depth) a n u = go (halves most es a n) refl (λ b m w. holds_within depth b m w)
        where
          go : (b : Bool) → halves most es a n ≡ b → ((b m : ℕ) → m ≤ depth → P b m (walk most es b m)) → P a n (walk most es a n)
          go true h i =
              let t = two_lines most es a n h in
              let e : n / 2 + (n - n / 2) ≡ n = omega arith in
              rw (walk_halved most es a n h)
              (subst (λ (m : ℕ). P a m (walk most es a (n / 2) ++ walk most es (a + n / 2) (n - n / 2))) e
              (two a (n / 2) (n - n / 2) (walk most es a (n / 2)) (walk most es (a + n / 2) (n - n / 2)) (i a (n / 2) (omega arith)) (i (a + n / 2) (n - n / 2) (omega arith))))
          go false h i = rw (whole a n h) (one a n)

      pub holds : (a n : ℕ) → P a n (walk most es a n)
      holds a n = holds_within n a n (omega arith)

    -- Over an unchanging list the walk gives each covered line of the range once with its type and no other line, ascending.
    pub walk_lists : (a n : ℕ) → Lists es a n (walk most es a n)
    walk_lists a n = holds (Lists es) sharing_lists joined_lists a n

    -- it has no more records than the range has lines
    pub length_walk : (a n : ℕ) → length (walk most es a n) ≤ n
    length_walk a n = let l = chain_length a (a + n) (walk most es a n) (walk_lists a n).ascending in omega arith
