-- Laws of the runs of a set, of insertion and of cutting: which lines they have, and that they are chains. Assumes nothing.
use mathlib.Core.Path.{◌≡◌, refl, sym, ap, ◌∙◌}
use mathlib.Core.Bool.{Bool, true, false, not, ◌&&◌, ◌||◌, cond, true≢false, false≢true, or_assoc, or-false, or-true, and-false, and-true}
use mathlib.Core.List.{List, [], ◌∷◌, ◌++◌}
use Prim.Native.Nat.{ℕ, zero, suc, ◌+◌, ◌-◌, ◌≤◌, ◌<◌}
use native.Mathlib.Omega.{arith}
use borrow.Author.Tests.{ltb-true, ltb-false, leb-false, eqb-true, eqb-false, eq-eqb, ne_eqb}
use lib.Dec.{leb, ltb, eqb}
use lib.ListN.{length, take, length-append}
use Rattle.poison.specs.Runs.{one_if, some_run, keeps, slots, Run, run, end, in_run, in_runs, Chain, joined, runs_of, insert, insert_all, run_if_any, before, after, cut, before_in, after_in}
use Rattle.poison.proofs.Counts.{Place, low, mid, high, place, below_run, past_run, inside_run, chain_le, chain_low}

-- ---- the runs of a set
-- a run that is one line longer in front
longer : (a n k : ℕ) → in_run (run a (suc n)) k ≡ (eqb k a || in_run (run (suc a) n) k)
longer a n k = go (place (run a (suc n)) k)
  where
    go : Place (run a (suc n)) k → in_run (run a (suc n)) k ≡ (eqb k a || in_run (run (suc a) n) k)
    go (low h e) = rw (e, ne_eqb k a (λ q. omega arith), below_run (run (suc a) n) k (omega arith))
    go (high h g e) = rw (e, ne_eqb k a (λ q. omega arith), past_run (run (suc a) n) k (omega arith))
    go (mid h g e) = rw e (at (eqb k a) refl)
      where
        at : (b : Bool) → eqb k a ≡ b → true ≡ (eqb k a || in_run (run (suc a) n) k)
        at true q = rw q
        at false q =
            let d = eqb-false k a q in
            rw (q, inside_run (run (suc a) n) k (omega arith) (omega arith))

one_line : (a k : ℕ) → in_run (run a 1) k ≡ eqb k a
one_line a k = longer a 0 k ∙ rw (none k) (or-false (eqb k a))
  where
    none : (j : ℕ) → in_run (run (suc a) 0) j ≡ false
    none j = go (place (run (suc a) 0) j)
      where
        go : Place (run (suc a) 0) j → in_run (run (suc a) 0) j ≡ false
        go (low h e) = e
        go (mid h g e) = absurd (omega arith)
        go (high h g e) = e

in_joined : (a : ℕ) (rs : List Run) (k : ℕ) → in_runs (joined a rs) k ≡ (eqb k a || in_runs rs k)
in_joined a [] k = ap (λ (b : Bool). b || false) (one_line a k)
in_joined a (r ∷ rs) k = go (eqb r.start (suc a)) refl
  where
    go : (b : Bool) → eqb r.start (suc a) ≡ b → in_runs (cond (eqb r.start (suc a)) (run a (suc r.lines) ∷ rs) (run a 1 ∷ r ∷ rs)) k ≡ (eqb k a || (in_run r k || in_runs rs k))
    go true e = rw (e, longer a r.lines k, ← eqb-true r.start (suc a) e) (or_assoc (eqb k a) (in_run r k) (in_runs rs k))
    go false e = rw (e, one_line a k)

-- the lines of the runs are those of the set in the window
pub in_runs_of : (p : ℕ → Bool) (a n k : ℕ) → in_runs (runs_of p a n) k ≡ (in_run (run a n) k && p k)
in_runs_of p a zero k = go (place (run a 0) k)
  where
    go : Place (run a 0) k → false ≡ (in_run (run a 0) k && p k)
    go (low h e) = rw e
    go (mid h g e) = absurd (omega arith)
    go (high h g e) = rw e
in_runs_of p a (suc n) k = go (p a) (eqb k a) refl refl (in_runs_of p (suc a) n k)
  where
    go : (b c : Bool) → p a ≡ b → eqb k a ≡ c → in_runs (runs_of p (suc a) n) k ≡ (in_run (run (suc a) n) k && p k) → in_runs (cond (p a) (joined a (runs_of p (suc a) n)) (runs_of p (suc a) n)) k ≡ (in_run (run a (suc n)) k && p k)
    go true true e f i = rw (e, in_joined a (runs_of p (suc a) n) k, f, longer a n k, f) (sym (ap p (eqb-true k a f) ∙ e))
    go true false e f i = rw (e, in_joined a (runs_of p (suc a) n) k, f, longer a n k, f) i
    go false true e f i =
        let q : p k ≡ false = ap p (eqb-true k a f) ∙ e in
        rw (e, i, q) (and-false (in_run (run (suc a) n) k) ∙ sym (and-false (in_run (run a (suc n)) k)))
    go false false e f i = rw (e, longer a n k, f) i

chain_lower : (lo lo' hi : ℕ) (rs : List Run) → lo' ≤ lo → Chain lo hi rs → Chain lo' hi rs
chain_lower lo lo' hi [] h c = omega arith
chain_lower lo lo' hi (r ∷ rs) h c = (omega arith, c.1, c.2)

pub chain_higher : (lo hi hi' : ℕ) (rs : List Run) → hi ≤ hi' → Chain lo hi rs → Chain lo hi' rs
chain_higher lo hi hi' [] h c = omega arith
chain_higher lo hi hi' (r ∷ rs) h c = (c.0, c.1, chain_higher (end r) hi hi' rs h c.2)

chain_joined : (a hi : ℕ) (rs : List Run) → Chain (suc a) hi rs → Chain a hi (joined a rs)
chain_joined a hi [] c = omega arith
chain_joined a hi (r ∷ rs) c = go (eqb r.start (suc a)) refl
  where
    go : (b : Bool) → eqb r.start (suc a) ≡ b → Chain a hi (cond (eqb r.start (suc a)) (run a (suc r.lines) ∷ rs) (run a 1 ∷ r ∷ rs))
    go true e =
        let q = eqb-true r.start (suc a) e in
        rw e (omega arith, omega arith, chain_lower (end r) (a + suc r.lines) hi rs (omega arith) c.2)
    go false e = rw e (omega arith, omega arith, (omega arith, c.1, c.2))

pub chain_runs_of : (p : ℕ → Bool) (a n : ℕ) → Chain a (a + n) (runs_of p a n)
chain_runs_of p a zero = omega arith
chain_runs_of p a (suc n) = go (p a) (rw e at (chain_runs_of p (suc a) n))
  where
    e : suc a + n ≡ a + suc n
    e = omega arith

    go : (b : Bool) → Chain (suc a) (a + suc n) (runs_of p (suc a) n) → Chain a (a + suc n) (cond b (joined a (runs_of p (suc a) n)) (runs_of p (suc a) n))
    go true c = chain_joined a (a + suc n) (runs_of p (suc a) n) c
    go false c = chain_lower (suc a) a (a + suc n) (runs_of p (suc a) n) (omega arith) c

-- ---- insertion
pub in_insert : (r : Run) (xs : List Run) (k : ℕ) → in_runs (insert r xs) k ≡ (in_run r k || in_runs xs k)
in_insert r [] k = refl
in_insert r (x ∷ xs) k = go (ltb r.start x.start) (in_insert r xs k)
  where
    swap : (a b c : Bool) → (a || (b || c)) ≡ (b || (a || c))
    swap true true c = refl
    swap true false c = refl
    swap false b c = refl

    go : (b : Bool) → in_runs (insert r xs) k ≡ (in_run r k || in_runs xs k) → in_runs (cond b (r ∷ x ∷ xs) (x ∷ insert r xs)) k ≡ (in_run r k || (in_run x k || in_runs xs k))
    go true i = refl
    go false i = rw i (swap (in_run x k) (in_run r k) (in_runs xs k))

pub chain_insert : (lo hi : ℕ) (r : Run) (xs : List Run) → Chain lo hi xs → lo ≤ r.start → 0 < r.lines → end r ≤ hi → ((k : ℕ) → in_run r k ≡ true → in_runs xs k ≡ false) → Chain lo hi (insert r xs)
chain_insert lo hi r [] c h p q d = (h, p, q)
chain_insert lo hi r (x ∷ xs) c h p q d = go (ltb r.start x.start) refl (λ w g. chain_insert (end x) hi r xs c.2 w p q g)
  where
    free : (k : ℕ) → in_run r k ≡ true → in_run x k ≡ true → ⊥
    free k e f = true≢false (sym (rw f refl) ∙ d k e)

    rest : (k : ℕ) → in_run r k ≡ true → in_runs xs k ≡ false
    rest k e = at (in_run x k) (d k e)
      where
        at : (b : Bool) → (b || in_runs xs k) ≡ false → in_runs xs k ≡ false
        at true z = absurd (true≢false z)
        at false z = z

    go : (b : Bool) → ltb r.start x.start ≡ b → (end x ≤ r.start → ((k : ℕ) → in_run r k ≡ true → in_runs xs k ≡ false) → Chain (end x) hi (insert r xs)) → Chain lo hi (cond (ltb r.start x.start) (r ∷ x ∷ xs) (x ∷ insert r xs))
    go true e i =
        rw e (h, p, (sep (place r x.start), c.1, c.2))
      where
        sep : Place r x.start → end r ≤ x.start
        sep (low u v) = let l = ltb-true r.start x.start e in absurd (omega arith)
        sep (mid u w v) = absurd (free x.start v (inside_run x x.start (omega arith) (omega arith)))
        sep (high u w v) = w
    go false e i = rw e (c.0, c.1, i (sep (place x r.start)) rest)
      where
        sep : Place x r.start → end x ≤ r.start
        sep (low u v) = let l = ltb-false r.start x.start e in absurd (omega arith)
        sep (mid u w v) = absurd (free r.start (inside_run r r.start (omega arith) (omega arith)) v)
        sep (high u w v) = w

pub length_insert : (r : Run) (xs : List Run) → length (insert r xs) ≡ suc (length xs)
length_insert r [] = refl
length_insert r (x ∷ xs) = go (ltb r.start x.start) (length_insert r xs)
  where
    go : (b : Bool) → length (insert r xs) ≡ suc (length xs) → length (cond b (r ∷ x ∷ xs) (x ∷ insert r xs)) ≡ suc (suc (length xs))
    go true i = refl
    go false i = ap suc i

-- ---- several runs inserted one after another
pub in_insert_all : (rs xs : List Run) (k : ℕ) → in_runs (insert_all rs xs) k ≡ (in_runs rs k || in_runs xs k)
in_insert_all [] xs k = refl
in_insert_all (r ∷ rs) xs k = in_insert_all rs (insert r xs) k ∙ rw (in_insert r xs k) (turn (in_run r k) (in_runs rs k) (in_runs xs k))
  where
    turn : (a b c : Bool) → (b || (a || c)) ≡ ((a || b) || c)
    turn true true c = refl
    turn true false c = refl
    turn false b c = refl

pub length_insert_all : (rs xs : List Run) → length (insert_all rs xs) ≡ length rs + length xs
length_insert_all [] xs = omega arith
length_insert_all (r ∷ rs) xs =
    let i = length_insert_all rs (insert r xs) in
    let j = length_insert r xs in
    omega arith

-- runs of a chain whose lines the list has not
pub chain_insert_all : (lo hi a b : ℕ) (rs xs : List Run) → Chain lo hi xs → Chain a b rs → lo ≤ a → b ≤ hi → ((k : ℕ) → in_runs rs k ≡ true → in_runs xs k ≡ false) → Chain lo hi (insert_all rs xs)
chain_insert_all lo hi a b [] xs c d h g f = c
chain_insert_all lo hi a b (r ∷ rs) xs c d h g f =
    let q = chain_le (end r) b rs d.2 in
    chain_insert_all lo hi (end r) b rs (insert r xs)
    (chain_insert lo hi r xs c (omega arith) d.1 (omega arith) (λ k e. f k (rw e refl)))
    d.2
    (omega arith)
    g
    (λ k e. in_insert r xs k ∙ free k e (place r k))
  where
    free : (k : ℕ) → in_runs rs k ≡ true → Place r k → (in_run r k || in_runs xs k) ≡ false
    free k e (low u v) = rw v (f k (rw v e))
    free k e (mid u w v) = absurd (true≢false (sym e ∙ chain_low (end r) b rs d.2 k w))
    free k e (high u w v) = rw v (f k (rw v e))

pub in_append : (xs ys : List Run) (k : ℕ) → in_runs (xs ++ ys) k ≡ (in_runs xs k || in_runs ys k)
in_append [] ys k = refl
in_append (x ∷ xs) ys k = ap (λ (b : Bool). in_run x k || b) (in_append xs ys k) ∙ sym (or_assoc (in_run x k) (in_runs xs k) (in_runs ys k))

pub chain_take : (lo hi m : ℕ) (rs : List Run) → Chain lo hi rs → Chain lo hi (take m rs)
chain_take lo hi zero rs c = chain_le lo hi rs c
chain_take lo hi (suc m) [] c = c
chain_take lo hi (suc m) (r ∷ rs) c = (c.0, c.1, chain_take (end r) hi m rs c.2)

-- ---- cutting a line out
-- n lines from a on, whether or not there are any
pub in_part : (a n k : ℕ) → in_runs (run_if_any a n) k ≡ in_run (run a n) k
in_part a zero k = go (place (run a 0) k)
  where
    go : Place (run a 0) k → false ≡ in_run (run a 0) k
    go (low h e) = sym e
    go (mid h g e) = absurd (omega arith)
    go (high h g e) = sym e
in_part a (suc n) k = or-false (in_run (run a (suc n)) k)

chain_part : (lo hi a n : ℕ) (rs : List Run) → lo ≤ a → Chain (a + n) hi rs → Chain lo hi (run_if_any a n ++ rs)
chain_part lo hi a zero rs h c = chain_lower (a + 0) lo hi rs (omega arith) c
chain_part lo hi a (suc n) rs h c = (h, omega arith, c)

-- the part after line k lies past k, in the run over it
pub in_after_low : (lo hi k : ℕ) (xs : List Run) → Chain lo hi xs → (j : ℕ) → j < lo → in_runs (after_in k xs) j ≡ false
in_after_low lo hi k [] c j h = refl
in_after_low lo hi k (r ∷ rs) c j h = go (place r k) (in_after_low (end r) hi k rs c.2 j (omega arith))
  where
    go : Place r k → in_runs (after_in k rs) j ≡ false → in_runs (cond (in_run r k) (after k r) (after_in k rs)) j ≡ false
    go (low u v) i = rw v i
    go (mid u w v) i = rw (v, in_part (suc k) (end r - suc k) j) (below_run (run (suc k) (end r - suc k)) j (omega arith))
    go (high u w v) i = rw v i

pub after_within : (k : ℕ) (xs : List Run) (j : ℕ) → in_runs (after_in k xs) j ≡ true → (in_runs xs j ≡ true) × (eqb j k ≡ false)
after_within k [] j e = absurd (false≢true e)
after_within k (r ∷ rs) j e = go (in_run r k) refl e (after_within k rs j)
  where
    go : (b : Bool) → in_run r k ≡ b → in_runs (cond b (after k r) (after_in k rs)) j ≡ true → (in_runs (after_in k rs) j ≡ true → (in_runs rs j ≡ true) × (eqb j k ≡ false)) → ((in_run r j || in_runs rs j) ≡ true) × (eqb j k ≡ false)
    go true b f i = at (place r k) (place (run (suc k) (end r - suc k)) j) (sym (in_part (suc k) (end r - suc k) j) ∙ f)
      where
        at : Place r k → Place (run (suc k) (end r - suc k)) j → in_run (run (suc k) (end r - suc k)) j ≡ true → ((in_run r j || in_runs rs j) ≡ true) × (eqb j k ≡ false)
        at (low p q) y z = absurd (false≢true (sym q ∙ b))
        at (high p p' q) y z = absurd (false≢true (sym q ∙ b))
        at (mid p p' q) (low y y') z = absurd (false≢true (sym y' ∙ z))
        at (mid p p' q) (high y y'' y') z = absurd (false≢true (sym y' ∙ z))
        at (mid p p' q) (mid y y'' y') z = (rw (inside_run r j (omega arith) (omega arith)) refl, ne_eqb j k (λ w. omega arith))
    go false b f i = let g = i f in (rw g.0 (or-true (in_run r j)), g.1)

-- line j against the run over line k: the parts before and after, the run, the runs past it, line k itself
data Spot : Bool → Bool → Bool → Bool → Bool → Type 0 where
  off : {t : Bool} → Spot false false false t false
  front : Spot true false true false false
  here : Spot false false true false true
  back : Spot false true true false false

spot_cut : (keep : Bool) {b a x t e : Bool} → Spot b a x t e → (b || ((keep && a) || t)) ≡ ((x || t) && not e && (keep || not a))
spot_cut true (off {t}) = sym (and-true t ∙ refl) ∙ ap (λ (u : Bool). u && true) (sym (and-true t))
spot_cut false (off {t}) = sym (and-true t ∙ refl) ∙ ap (λ (u : Bool). u && true) (sym (and-true t))
spot_cut true front = refl
spot_cut false front = refl
spot_cut true here = refl
spot_cut false here = refl
spot_cut true back = refl
spot_cut false back = refl

module _ (hi : ℕ) (r : Run) (rs : List Run) (c : Chain (end r) hi rs) (k j : ℕ) where
  spot : r.start ≤ k → k < end r → Spot (in_run (run r.start (k - r.start)) j) (in_run (run (suc k) (end r - suc k)) j) (in_run r j) (in_runs rs j) (eqb j k)
  spot u w = go (place r j)
    where
      F : Run
      F = run r.start (k - r.start)

      B : Run
      B = run (suc k) (end r - suc k)

      inr : r.start ≤ j → j < end r → in_run r j ≡ true → (x y : Bool) → ltb j k ≡ x → ltb k j ≡ y → Spot (in_run F j) (in_run B j) (in_run r j) (in_runs rs j) (eqb j k)
      inr p q e true y f g =
          let h = ltb-true j k f in
          rw (e, chain_low (end r) hi rs c j q, inside_run F j (omega arith) (omega arith), below_run B j (omega arith), ne_eqb j k (λ z. omega arith)) front
      inr p q e false true f g =
          let h = ltb-true k j g in
          rw (e, chain_low (end r) hi rs c j q, past_run F j (omega arith), inside_run B j (omega arith) (omega arith), ne_eqb j k (λ z. omega arith)) back
      inr p q e false false f g =
          let h = ltb-false j k f in
          let i = ltb-false k j g in
          rw (e, chain_low (end r) hi rs c j q, past_run F j (omega arith), below_run B j (omega arith), eq-eqb j k (omega arith)) here

      go : Place r j → Spot (in_run F j) (in_run B j) (in_run r j) (in_runs rs j) (eqb j k)
      go (low p e) = rw (e, below_run F j p, below_run B j (omega arith), ne_eqb j k (λ z. omega arith)) off
      go (mid p q e) = inr p q e (ltb j k) (ltb k j) refl refl
      go (high p q e) = rw (e, past_run F j (omega arith), past_run B j (omega arith), ne_eqb j k (λ z. omega arith)) off

in_kept : (keep : Bool) (xs : List Run) (j : ℕ) → in_runs (cond keep xs []) j ≡ (keep && in_runs xs j)
in_kept true xs j = refl
in_kept false xs j = refl

-- the lines of a cut: those that were there but for k, and but for the part after it where that goes
pub in_cut : (lo hi : ℕ) (keep : Bool) (k : ℕ) (xs : List Run) → Chain lo hi xs → (j : ℕ) → in_runs (cut keep k xs) j ≡ (in_runs xs j && not (eqb j k) && (keep || not (in_runs (after_in k xs) j)))
in_cut lo hi keep k [] c j = refl
in_cut lo hi keep k (r ∷ rs) c j = go (place r k) (in_cut (end r) hi keep k rs c.2 j)
  where
    Goal : Type 0
    Goal = in_runs (cond (in_run r k) (before k r ++ (cond keep (after k r) [] ++ rs)) (r ∷ cut keep k rs)) j ≡ ((in_run r j || in_runs rs j) && not (eqb j k) && (keep || not (in_runs (cond (in_run r k) (after k r) (after_in k rs)) j)))

    IH : Type 0
    IH = in_runs (cut keep k rs) j ≡ (in_runs rs j && not (eqb j k) && (keep || not (in_runs (after_in k rs) j)))

    away : in_run r k ≡ false → IH → Place r j → Goal
    away v i (low p e) = rw (v, e) i
    away v i (high p q e) = rw (v, e) i
    away v i (mid p q e) = rw (v, e, ne_eqb j k (λ z. true≢false (sym (rw z at e) ∙ v)), in_after_low (end r) hi k rs c.2 j q) (sym (or-true keep))

    go : Place r k → IH → Goal
    go (low u v) i = away v i (place r j)
    go (high u w v) i = away v i (place r j)
    go (mid u w v) i =
        rw (v, in_append (before k r) (cond keep (after k r) [] ++ rs) j, in_append (cond keep (after k r) []) rs j, in_kept keep (after k r) j, in_part r.start (k - r.start) j, in_part (suc k) (end r - suc k) j)
        (spot_cut keep (spot hi r rs c.2 k j u w))

pub chain_cut : (lo hi : ℕ) (keep : Bool) (k : ℕ) (xs : List Run) → Chain lo hi xs → Chain lo hi (cut keep k xs)
chain_cut lo hi keep k [] c = c
chain_cut lo hi keep k (r ∷ rs) c = go (place r k) (chain_cut (end r) hi keep k rs c.2)
  where
    Goal : Type 0
    Goal = Chain lo hi (cond (in_run r k) (before k r ++ (cond keep (after k r) [] ++ rs)) (r ∷ cut keep k rs))

    tail : (b : Bool) → k < end r → Chain k hi (cond b (after k r) [] ++ rs)
    tail true w =
        let e : suc k + (end r - suc k) ≡ end r = omega arith in
        chain_part k hi (suc k) (end r - suc k) rs (omega arith) (rw e c.2)
    tail false w = chain_lower (end r) k hi rs (omega arith) c.2

    go : Place r k → Chain (end r) hi (cut keep k rs) → Goal
    go (low u v) i = rw v (c.0, c.1, i)
    go (high u w v) i = rw v (c.0, c.1, i)
    go (mid u w v) i =
        let e : r.start + (k - r.start) ≡ k = omega arith in
        rw v (chain_part lo hi r.start (k - r.start) (cond keep (after k r) [] ++ rs) c.0 (rw e (tail keep w)))

one_if_le : (b : Bool) → one_if b ≤ 1
one_if_le true = omega arith
one_if_le false = omega arith

-- ---- how many runs a cut leaves
length_part : (a n : ℕ) → length (run_if_any a n) ≡ one_if (some_run (run_if_any a n))
length_part a zero = refl
length_part a (suc n) = refl

length_kept : (keep : Bool) (a n : ℕ) → length (cond keep (run_if_any a n) []) ≡ one_if (keep && some_run (run_if_any a n))
length_kept true a n = length_part a n
length_kept false a n = refl

length_cut : (keep : Bool) (k : ℕ) (xs : List Run) → length (cut keep k xs) + one_if (in_runs xs k) ≤ length xs + (one_if (some_run (before_in k xs)) + one_if (keep && some_run (after_in k xs)))
length_cut keep k [] = omega arith
length_cut keep k (r ∷ rs) = go (in_run r k) (length_cut keep k rs)
  where
    go : (b : Bool) → length (cut keep k rs) + one_if (in_runs rs k) ≤ length rs + (one_if (some_run (before_in k rs)) + one_if (keep && some_run (after_in k rs))) → length (cond b (before k r ++ (cond keep (after k r) [] ++ rs)) (r ∷ cut keep k rs)) + one_if (b || in_runs rs k) ≤ suc (length rs) + (one_if (some_run (cond b (before k r) (before_in k rs))) + one_if (keep && some_run (cond b (after k r) (after_in k rs))))
    go true i = omega (arith, length-append (before k r) (cond keep (after k r) [] ++ rs), length-append (cond keep (after k r) []) rs, length_part r.start (k - r.start), length_kept keep (suc k) (end r - suc k))
    go false i = omega arith

-- a part that is left is a part of a run over k
before_covered : (k : ℕ) (xs : List Run) → one_if (some_run (before_in k xs)) ≤ one_if (in_runs xs k)
before_covered k [] = omega arith
before_covered k (r ∷ rs) = go (in_run r k) (before_covered k rs)
  where
    go : (b : Bool) → one_if (some_run (before_in k rs)) ≤ one_if (in_runs rs k) → one_if (some_run (cond b (before k r) (before_in k rs))) ≤ one_if (b || in_runs rs k)
    go true i = one_if_le (some_run (before k r))
    go false i = i

after_covered : (k : ℕ) (xs : List Run) → one_if (some_run (after_in k xs)) ≤ one_if (in_runs xs k)
after_covered k [] = omega arith
after_covered k (r ∷ rs) = go (in_run r k) (after_covered k rs)
  where
    go : (b : Bool) → one_if (some_run (after_in k rs)) ≤ one_if (in_runs rs k) → one_if (some_run (cond b (after k r) (after_in k rs))) ≤ one_if (b || in_runs rs k)
    go true i = one_if_le (some_run (after k r))
    go false i = i

pub few_cut : (k : ℕ) (xs : List Run) → length xs ≤ slots → length (cut (keeps k xs) k xs) ≤ slots
unfolding keeps
few_cut k xs h = go (leb slots (length xs)) (some_run (before_in k xs)) (some_run (after_in k xs)) refl (λ keep. length_cut keep k xs) (before_covered k xs) (after_covered k xs)
  where
    go : (f b a : Bool) → leb slots (length xs) ≡ f → ((keep : Bool) → length (cut keep k xs) + one_if (in_runs xs k) ≤ length xs + (one_if b + one_if (keep && a))) → one_if b ≤ one_if (in_runs xs k) → one_if a ≤ one_if (in_runs xs k) → length (cut (not (f && (b && a))) k xs) ≤ slots
    go true true true e l p q = omega (arith, l false)
    go true true false e l p q = omega (arith, l true)
    go true false a e l p q = omega (arith, l true)
    go false b a e l p q = omega (arith, l true, leb-false slots (length xs) e, one_if_le a)
