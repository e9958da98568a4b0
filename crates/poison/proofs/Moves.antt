-- Laws of `put_at`, `pullAt` and `first_at`: what moving elements up and down leaves, and a search from the front. Assumes nothing.
use mathlib.Core.Path.{◌≡◌, refl, sym, ap, ◌∙◌}
use mathlib.Core.Bool.{Bool, true, false, cond}
use mathlib.Core.List.{List, [], ◌∷◌, ◌++◌, append_assoc}
use Prim.Native.Nat.{ℕ, zero, suc, ◌+◌, ◌-◌, ◌≤◌, ◌<◌}
use native.Mathlib.Numerals.{add-one}
use native.Mathlib.Omega.{arith}
use lib.ListN.{length, take, drop, get_or, set, length-append, length-take, length-drop}
use lib.Seq.{take_at, take-take, take-nil, take-suc, set_at, length-take-le}
use Rattle.std.specs.List.{copy_within}
use Rattle.poison.specs.State.{Entry}
use Rattle.poison.specs.Shift.{put_at, pullAt, first_at, EntryPut}

-- what is read past the end of a list of entries
abbrev pub nought : Entry
nought = record { start = 0; lines = 0; kind = 0 }

-- what moves the elements from a place on up by one slot, and stores one there, puts that one in at the place: where they are taken from, how many, where they come to and where that ends
-- are equal to the right numbers, however the code spells them
pub put_moved : {A : Type 0} (l : List A) (at n : ℕ) (v : A) {r : List A} {from many to past : ℕ} → r ≡ (take to l ++ take many (drop from l)) ++ drop past l → at ≤ n → n < length l → from ≡ at → many ≡ n - at → to ≡ at + 1 → past ≡ n + 1 → set r at v ≡ put_at at n v l
unfolding put_at
put_moved l at n v m h k f c t p =
    let b : at < length l = omega arith in
    let o : take (at + 1) l ≡ take at l ++ (get_or l at v ∷ []) = rw (add-one at) (take-suc l at v b) in
    rw (m, f, c, t, p, o) (simp append_assoc (set_at (take at l) (get_or l at v) _ v at (length-take-le at l (omega arith))))

-- what moves the elements past a place down by one slot takes the one at the place away
pub pull_moved : {A : Type 0} (l : List A) (at last : ℕ) → at ≤ last → copy_within l (at + 1) (last + 1) at ≡ pullAt at last l
unfolding pullAt
pull_moved l at last h =
    let y : last + 1 - (at + 1) ≡ last - at = omega arith in
    let z : at + (last - at) ≡ last = omega arith in
    rw (y, z) (append_assoc (take at l) _ _)

pub drop_take : {A : Type 0} (m n : ℕ) (l : List A) → drop m (take n l) ≡ take (n - m) (drop m l)
drop_take zero n l = let e : n - 0 ≡ n = omega arith in rw e
drop_take (suc m) zero l = let e : 0 - suc m ≡ 0 = omega arith in rw e
drop_take (suc m) (suc n) [] = sym (take-nil (suc n - suc m))
drop_take (suc m) (suc n) (x ∷ l) = let e : suc n - suc m ≡ n - m = omega arith in rw e (drop_take m n l)

-- the first n + 1 slots after the insertion, and the others
module _ {A : Type 0} (l : List A) (at n : ℕ) (e : A) (h : at ≤ n) (k : n < length l) where
  len_at : length (take at l) ≡ at
  len_at = length-take-le at l (omega arith)

  len_mid : length (take (n - at) (drop at l)) ≡ n - at
  len_mid = length-take-le (n - at) (drop at l) (simp length-drop (omega arith))

  head : List A
  head = take at l ++ (e ∷ take (n - at) (drop at l))

  len_head : length head ≡ n + 1
  unfolding head
  len_head = simp length-append (omega (arith, len_at, len_mid))

  put_split : put_at at n e l ≡ head ++ drop (n + 1) l
  unfolding put_at head
  put_split = sym (append_assoc (take at l) (e ∷ take (n - at) (drop at l)) (drop (n + 1) l))

  pub take_put : take (n + 1) (put_at at n e l) ≡ take at (take n l) ++ (e ∷ drop at (take n l))
  unfolding head
  take_put = rw put_split (take_at head (drop (n + 1) l) (n + 1) len_head ∙ rw (take-take at n l h, drop_take at n l))

  pub length_put : length (put_at at n e l) ≡ length l
  unfolding put_at
  length_put = simp (length-append, length-take, length-drop) (omega arith)

-- the slots past the new last element, after an insertion among the first n
past_front : {A : Type 0} (n : ℕ) (l : List A) → drop n (take n l ++ drop (suc n) l) ≡ drop (suc n) l
past_front zero l = refl
past_front (suc n) [] = refl
past_front (suc n) (x ∷ l) = past_front n l

past_any : {A : Type 0} (l : List A) (at n : ℕ) (e : A) → at ≤ n → drop (suc n) (take at l ++ (e ∷ (take (n - at) (drop at l) ++ drop (suc n) l))) ≡ drop (suc n) l
past_any l zero n e h = let z : n - 0 ≡ n = omega arith in rw z (past_front n l)
past_any {A} [] (suc at) n e h = rw (take-nil (n - suc at)) (ap (λ (l : List A). drop n (l ++ [])) (sym (take-nil n)) ∙ past_front n [])
past_any (x ∷ l) (suc at) zero e h = absurd (omega arith)
past_any (x ∷ l) (suc at) (suc n) e h = let z : suc n - suc at ≡ n - at = omega arith in rw z (past_any l at n e (omega arith))

-- "slots past the new last entry keep what they held" (document 02, W-203): of any slots, any number held and any element put in at a place among them
pub past_kept : {A : Type 0} (l : List A) (at n : ℕ) (e : A) → at ≤ n → drop (n + 1) (put_at at n e l) ≡ drop (n + 1) l
unfolding put_at
past_kept l at n e h = rw (add-one n) (past_any l at n e h)

-- an entry's parts put in at one place, each among as many as are held
pub entry_put : {at a b d n start lines kind : ℕ} {s l k s' l' k' : List ℕ} → at ≤ n → s' ≡ put_at at a start s → a ≡ n → l' ≡ put_at at b lines l → b ≡ n → k' ≡ put_at at d kind k → d ≡ n → EntryPut at n start lines kind s l k s' l' k'
entry_put {at} {a} {b} {d} {n} {start} {lines} {kind} {s} {l} {k} {s'} {l'} {k'} h p e q f r g =
    let starts : s' ≡ put_at at n start s = rw (← e) p in
    let lengths : l' ≡ put_at at n lines l = rw (← f) q in
    let kinds : k' ≡ put_at at n kind k = rw (← g) r in
    record {
      starts = starts;
      lengths = lengths;
      kinds = kinds;
      past_starts = rw starts (past_kept s at n start h);
      past_lengths = rw lengths (past_kept l at n lines h);
      past_kinds = rw kinds (past_kept k at n kind h);
    }

-- ---- a search from the front, among the first n
module _ {A : Type 0} (p : A → Bool) (d : A) where
  pub first_is : (l : List A) (n i : ℕ) → i < n → n ≤ length l → ((j : ℕ) → j < i → p (get_or l j d) ≡ false) → p (get_or l i d) ≡ true → first_at p (take n l) ≡ i
  first_is [] n i h k f e = absurd (omega arith)
  first_is (x ∷ l) zero i h k f e = absurd (omega arith)
  first_is (x ∷ l) (suc n) zero h k f e = rw e
  first_is (x ∷ l) (suc n) (suc i) h k f e = rw (f 0 (omega arith)) (ap suc (first_is l n i (omega arith) (omega arith) (λ j q. f (suc j) (omega arith)) e))

  pub first_none : (l : List A) (n : ℕ) → n ≤ length l → ((j : ℕ) → j < n → p (get_or l j d) ≡ false) → first_at p (take n l) ≡ n
  first_none l zero k f = refl
  first_none [] (suc n) k f = absurd (omega arith)
  first_none (x ∷ l) (suc n) k f = rw (f 0 (omega arith)) (ap suc (first_none l n (omega arith) (λ j q. f (suc j) (omega arith))))

pub first_le : {A : Type 0} (p : A → Bool) (l : List A) → first_at p l ≤ length l
first_le p [] = omega arith
first_le p (x ∷ l) = go (p x) (first_le p l)
  where
    go : (b : Bool) → first_at p l ≤ length l → cond b 0 (suc (first_at p l)) ≤ suc (length l)
    go true i = omega arith
    go false i = omega arith

-- ---- taking an element away
module _ {A : Type 0} (l : List A) where
  kept : ℕ → ℕ → List A
  kept at i = take at l ++ take (i - at) (drop (at + 1) l)

  len_kept : (at i : ℕ) → at ≤ i → i < length l → length (kept at i) ≡ i
  unfolding kept
  len_kept at i h k = simp (length-append, length-take, length-drop) (omega arith)

  pull_split : (at i : ℕ) → pullAt at i l ≡ kept at i ++ drop i l
  unfolding pullAt kept
  pull_split at i = sym (append_assoc (take at l) (take (i - at) (drop (at + 1) l)) (drop i l))

  pub take_pull : (at n : ℕ) → at ≤ n → n < length l → take n (pullAt at n l) ≡ take at (take (n + 1) l) ++ drop (at + 1) (take (n + 1) l)
  unfolding kept
  take_pull at n h k =
      let z : n + 1 - (at + 1) ≡ n - at = omega arith in
      rw (pull_split at n) (take_at (kept at n) (drop n l) n (len_kept at n h k) ∙ rw (take-take at (n + 1) l (omega arith), drop_take (at + 1) (n + 1) l, z))

pub first_holds : {A : Type 0} (p : A → Bool) (d : A) (l : List A) → first_at p l < length l → p (get_or l (first_at p l) d) ≡ true
first_holds p d [] h = absurd (omega arith)
first_holds p d (x ∷ l) h = go (p x) refl h (first_holds p d l)
  where
    go : (b : Bool) → p x ≡ b → cond b 0 (suc (first_at p l)) < suc (length l) → (first_at p l < length l → p (get_or l (first_at p l) d) ≡ true) → p (get_or (x ∷ l) (cond b 0 (suc (first_at p l))) d) ≡ true
    go true e h i = e
    go false e h i = i (omega arith)
