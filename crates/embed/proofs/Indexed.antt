-- One element of an array of structs that is a field of a struct in memory, read and stored in place: what a walk of `s.a[k]` behind a pointer needs beside the logic's `types.Part`.
--     item     element k of an array's cell that p finds, as `sub` is field k of a struct's: `item ! us k d lt len (sub ! 4 refl (whole !))` is `.4[k]`. It lies at `k * size + o`, where MIR's `offset` points
--     element_in   the same at an array of structs: element k is the value of the struct that the list has there. After a store of the value of y the array is at `set (values xs) k` of it, which `values_set` makes `values (set xs k y)`
--     big      the operand `int_big w n`, as which a constant above 1023 is written (1056, the size of a log): it is that number, where it fits. `types.Run` has `lit`, for those below
--     put_field    a struct's value with another at field k: spells the family of that rewrite
--     values   the machine values of a list of structs, as the field holds them
--     value_at, values_set     the value of element k, and the values with another there
--     element, with_element    what the array owns tells of element k, and what it owns with another there
--     count    how many there are
--     numbers  what an array of numbers owns, at the list itself where it is had at a `map` that changes nothing
-- `item` assumes `Logic` (of it `at_elems` and `elems_at`); the rest assumes nothing.
use mathlib.Core.Path.{◌≡◌, refl, sym, ◌∙◌, ap, subst}
use Prim.Native.Nat.{ℕ, zero, suc, ◌+◌, ◌*◌, ◌<◌}
use native.Mathlib.Nat.{not-suc-le-zero, le_of_suc-le-suc}
use mathlib.Core.List.{List, [], ◌∷◌, map, map-id}
use lib.ListN.{length, get_or, set, length-set}
use seplogic.Ra.Ura.{Ura}
use mir.Syntax.{Width, Ty, ty_array, int_big}
use mir.Val.{Val, vunit, vbool, vint, vfloat, vptr, vstruct, vcode, of_list, Fits}
use mir.Fields.{set_v}
use base.Logic.{SProp, ent, sep, wand, all, via, apply∗, all_e, guard_i}
use base.Fml.{Share, fat}
use prog.Memory.{size}
use prog.Model.{elems}
use prog.Wp.{Env}
use types.Logic.{Logic}
use types.Kit.{Item, ‵, raw, ◌⊛◌, mean, ◌$◌, ◌∵◌, !, qed, move, use1, use2, split, assume, frame, each as every, done}
use types.Run.{Opd}
use types.Part.{Part}
use denote.Shadow.{shadow}
use denote.Laws.{Is}
use denote.Array.{Array, array_val, each}
use denote.Struct.Declared as D
use denote.Struct.Laws as LL
use borrow.Table.Elements.{at, at_mul}

abbrev pub put_field : Val → ℕ → Val → Val
put_field vunit k u = vunit
put_field (vbool x) k u = vbool x
put_field (vint w x) k u = vint w x
put_field (vfloat f x) k u = vfloat f x
put_field (vptr b o) k u = vptr b o
put_field (vstruct vs) k u = vstruct (set_v vs k u)
put_field (vcode c) k u = vcode c

pub numbers : (R : denote.RattleType.RattleType) (n : ℕ) (xs : List R.Denot) (vs : List Val) → Is (Array R n) (map (λ v. v) xs) vs → Is (Array R n) xs vs
numbers R n xs vs is = subst (λ (ys : List R.Denot). Is (Array R n) ys vs) (map-id xs) is

-- ---- in memory
set_same : (us : List Val) (k : ℕ) (d : Val) → set us k (get_or us k d) ≡ us
set_same [] k d = refl
set_same (u ∷ us) zero d = refl
set_same (u ∷ us) (suc k) d = ap (λ (ws : List Val). u ∷ ws) (set_same us k d)

module _ {M : Type 1} {𝓤 : Ura M} (𝓛 : Logic 𝓤) (q : Share) (τ : Ty) (b : ℕ) where
  -- the element's cell with u gives back the elements, with u there
  open 𝓛 use {H}

  abbrev Slot : ℕ → ℕ → ℕ → List Val → Val → SProp 𝓤
  Slot p o k us u = wand 𝓤 (H.at q τ b p u) (elems 𝓤 H q τ b o (set us k u))

  -- element k comes out of the elements, and any value goes back in its place
  slot : (k : ℕ) (us : List Val) (d : Val) (o : ℕ) → k < length us → ent 𝓤 (elems 𝓤 H q τ b o us) (sep 𝓤 (H.at q τ b (at o (size τ) k) (get_or us k d)) (all 𝓤 (Slot (at o (size τ) k) o k us)))
  slot k [] d o lt = absurd (not-suc-le-zero lt)
  slot zero (x ∷ us) d o lt = qed 𝓛 (‵ (fat q τ b o x) ∷ raw (elems 𝓤 H q τ b (o + size τ) us) ∷ []) ∵ frame ! $ every ! (Slot o o zero (x ∷ us)) (λ u. assume ! (‵ (fat q τ b o u)) $ done !)
  slot (suc k) (x ∷ us) d o lt =
      qed 𝓛 (‵ (fat q τ b o x) ∷ raw (elems 𝓤 H q τ b (o + size τ) us) ∷ []) ∵ move ! (1 ∷ []) $
      use1 𝓛 (‵ (fat q τ b (at (o + size τ) (size τ) k) (get_or us k d)) ⊛ raw (all 𝓤 (Slot (at (o + size τ) (size τ) k) (o + size τ) k us))) (slot k us d (o + size τ) (le_of_suc-le-suc lt)) $ split ! $ frame ! $
      every ! (Slot (at (o + size τ) (size τ) k) o (suc k) (x ∷ us)) (λ u. assume ! (‵ (fat q τ b (at (o + size τ) (size τ) k) u)) $
      -- [the element's cell with u; the way back to the elements after the first; the first]
      move ! (1 ∷ []) $ use1 𝓛 (raw (Slot (at (o + size τ) (size τ) k) (o + size τ) k us u)) (all_e 𝓤 (Slot (at (o + size τ) (size τ) k) (o + size τ) k us) u) $ move ! (1 ∷ 0 ∷ []) $
      use2 𝓛 (raw (elems 𝓤 H q τ b (o + size τ) (set us k u))) (apply∗ 𝓤 (H.at q τ b (at (o + size τ) (size τ) k) u) (elems 𝓤 H q τ b (o + size τ) (set us k u))) $ move ! (1 ∷ 0 ∷ []) $ done !)

  -- the same, where the element is counted as MIR counts it
  slot_at : (k : ℕ) (us : List Val) (d : Val) (o : ℕ) → k < length us → ent 𝓤 (elems 𝓤 H q τ b o us) (sep 𝓤 (H.at q τ b (k * size τ + o) (get_or us k d)) (all 𝓤 (Slot (k * size τ + o) o k us)))
  slot_at k us d o lt = subst (λ (p : ℕ). ent 𝓤 (elems 𝓤 H q τ b o us) (sep 𝓤 (H.at q τ b p (get_or us k d)) (all 𝓤 (Slot p o k us)))) (at_mul o (size τ) k) (slot k us d o lt)

module _ {M : Type 1} {𝓤 : Ura M} {𝓛 : Logic 𝓤} {K : Type 0} where
  open 𝓛 use {H}

  pub item : K → {i : Item 𝓤} {q : Share} {τ : Ty} {n b o : ℕ} {back : Val → Item 𝓤} (us : List Val) (k : ℕ) (d : Val) → k < n → length us ≡ n
      → Part K 𝓛 i q (ty_array τ n) b o (vstruct (of_list us)) back → Part K 𝓛 i q τ b (k * size τ + o) (get_or us k d) (λ u. back (vstruct (of_list (set us k u))))
  item t {i} {q} {τ} {n} {b} {o} {back} us k d lt len p = record {
    out = qed 𝓛 (i ∷ []) ∵ use1 𝓛 (‵ (fat q (ty_array τ n) b o (vstruct (of_list us))) ⊛ raw (all 𝓤 Entry)) p.out $ split ! $
        use1 𝓛 (raw (elems 𝓤 H q τ b o us)) (𝓛.laws.at_elems q τ n b o us) $
        use1 𝓛 (‵ (fat q τ b (k * size τ + o) (get_or us k d)) ⊛ raw (all 𝓤 (Slot 𝓛 q τ b (k * size τ + o) o k us))) (slot_at 𝓛 q τ b k us d o (subst (λ (m : ℕ). k < m) (sym len) lt)) $ split ! $ frame ! $
        every ! (λ (u : Val). wand 𝓤 (H.at q τ b (k * size τ + o) u) (mean 𝓛 (back (vstruct (of_list (set us k u)))))) (λ u. assume {P = mean 𝓛 (back (vstruct (of_list (set us k u))))} ! (‵ (fat q τ b (k * size τ + o) u)) $
        -- [the element's cell with u; the way back to the elements; the way back to the entry]
        move ! (1 ∷ []) $ use1 𝓛 (raw (Slot 𝓛 q τ b (k * size τ + o) o k us u)) (all_e 𝓤 (Slot 𝓛 q τ b (k * size τ + o) o k us) u) $ move ! (1 ∷ 0 ∷ []) $
        use2 𝓛 (raw (elems 𝓤 H q τ b o (set us k u))) (apply∗ 𝓤 (H.at q τ b (k * size τ + o) u) (elems 𝓤 H q τ b o (set us k u))) $
        use1 𝓛 (‵ (fat q (ty_array τ n) b o (vstruct (of_list (set us k u))))) (subst (λ (m : ℕ). ent 𝓤 (elems 𝓤 H q τ b o (set us k u)) (H.at q (ty_array τ m) b o (vstruct (of_list (set us k u))))) (length-set us k u ∙ len) (𝓛.laws.elems_at q τ b o (set us k u))) $
        move ! (1 ∷ []) $ use1 𝓛 (raw (Entry (vstruct (of_list (set us k u))))) (all_e 𝓤 Entry (vstruct (of_list (set us k u)))) $ move ! (1 ∷ 0 ∷ []) $
        use2 𝓛 (back (vstruct (of_list (set us k u)))) (apply∗ 𝓤 (H.at q (ty_array τ n) b o (vstruct (of_list (set us k u)))) (mean 𝓛 (back (vstruct (of_list (set us k u)))))) $ done !);
    same = ap (λ (ws : List Val). back (vstruct (of_list ws))) (set_same us k d) ∙ p.same;
  }
    where
      Entry : Val → SProp 𝓤
      Entry w = wand 𝓤 (H.at q (ty_array τ n) b o w) (mean 𝓛 (back w))

  pub big : K → {Γ : List (Item 𝓤)} {E : Env 𝓤 H} {w : Width} {n : ℕ} → Fits w n → Opd K 𝓛 Γ E (int_big w n) (vint w n)
  big t {Γ} {E} {w} {n} z = record { go = λ Kt h. via 𝓤 (Kt (vint w n)) h (guard_i 𝓤 (Fits w n) (Kt (vint w n)) z) }

-- ---- the values of a list of structs
module _ (T : D.Declared) (L : LL.Laws T) where
  abbrev pub values : List T.D → List Val
  values xs = map (LL.val T L) xs

  pub value_at : (xs : List T.D) (k : ℕ) (d : T.D) → get_or (values xs) k (LL.val T L d) ≡ LL.val T L (get_or xs k d)
  value_at [] k d = refl
  value_at (x ∷ xs) zero d = refl
  value_at (x ∷ xs) (suc k) d = value_at xs k d

  pub values_set : (xs : List T.D) (k : ℕ) (y : T.D) → set (values xs) k (LL.val T L y) ≡ values (set xs k y)
  values_set [] k y = refl
  values_set (x ∷ xs) zero y = refl
  values_set (x ∷ xs) (suc k) y = ap (λ (us : List Val). LL.val T L x ∷ us) (values_set xs k y)

  pub length_values : (xs : List T.D) → length (values xs) ≡ length xs
  length_values [] = refl
  length_values (x ∷ xs) = ap suc (length_values xs)

  -- what an array of them owns, as a field has it
  abbrev Row : denote.RattleType.RattleType
  Row = D.row T

  abbrev Each : List T.D → List Val → Type 0
  Each xs us = shadow (each Row.Denot Row.own_val xs us)

  each_values : (xs : List T.D) (us : List Val) → Each xs us → Each xs (values xs)
  each_values [] [] s = tt
  each_values [] (u ∷ us) s = absurd s
  each_values (x ∷ xs) [] s = absurd s
  each_values (x ∷ xs) (u ∷ us) s = (subst (λ (ws : List Val). Is Row x ws) (LL.tells T L x (u ∷ []) s.0) s.0, each_values xs us s.1)

  each_at : (xs : List T.D) (k : ℕ) (d : T.D) → k < length xs → Each xs (values xs) → Is (D.row T) (get_or xs k d) (LL.val T L (get_or xs k d) ∷ [])
  each_at [] k d lt s = absurd (not-suc-le-zero lt)
  each_at (x ∷ xs) zero d lt s = s.0
  each_at (x ∷ xs) (suc k) d lt s = each_at xs k d (le_of_suc-le-suc lt) s.1

  each_set : (xs : List T.D) (k : ℕ) (y : T.D) → Is (D.row T) y (LL.val T L y ∷ []) → Each xs (values xs) → Each (set xs k y) (values (set xs k y))
  each_set [] k y is s = s
  each_set (x ∷ xs) zero y is s = (is, s.1)
  each_set (x ∷ xs) (suc k) y is s = (s.0, each_set xs k y is s.1)

  module _ (n : ℕ) (xs : List T.D) (vs : List Val) (was : Is (Array Row n) xs vs) where
    pub count : length xs ≡ n
    count = was.1.0.1

    pub element : (k : ℕ) (d : T.D) → k < n → Is (D.row T) (get_or xs k d) (LL.val T L (get_or xs k d) ∷ [])
    element k d lt = each_at xs k d (subst (λ (m : ℕ). k < m) (sym count) lt) (each_values xs was.0 was.1.1)

    pub with_element : (k : ℕ) (y : T.D) → Is (D.row T) y (LL.val T L y ∷ []) → Is (Array Row n) (set xs k y) (array_val (values (set xs k y)) ∷ [])
    with_element k y is = (values (set xs k y), ((refl, length-set xs k y ∙ count), each_set xs k y is (each_values xs was.0 was.1.1)))

module _ {M : Type 1} {𝓤 : Ura M} {𝓛 : Logic 𝓤} {K : Type 0} where
  pub element_in : K → {i : Item 𝓤} {q : Share} {τ : Ty} {n b o : ℕ} {back : Val → Item 𝓤} (T : D.Declared) (L : LL.Laws T) (xs : List T.D) (k : ℕ) (d : T.D) → k < n → length xs ≡ n
      → Part K 𝓛 i q (ty_array τ n) b o (array_val (values T L xs)) back → Part K 𝓛 i q τ b (k * size τ + o) (LL.val T L (get_or xs k d)) (λ u. back (array_val (set (values T L xs) k u)))
  element_in t {i} {q} {τ} {n} {b} {o} {back} T L xs k d lt len p =
      subst (λ (v : Val). Part K 𝓛 i q τ b (k * size τ + o) v (λ u. back (array_val (set (values T L xs) k u)))) (value_at T L xs k d) (item t (values T L xs) k (LL.val T L d) lt (length_values T L xs ∙ len) p)
