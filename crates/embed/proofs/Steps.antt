-- Steps that a walk of code behind a pointer takes, beside the logic's. The borrow checker covers each function of this crate, so none is proved by a walk; these are for a proof over the code itself.
--     is_true, is_false    what a branch tells of the test
--     so, holds    a fact as an assertion that holds anywhere, and one that holds anywhere as the goal's last part
--     free_all     the locals are freed, all of them room again, the first at the head
--     slice_left     a `&mut` slice that is not passed on: its last list is the one that it had
--     lend     a part of what lies behind a `&` is lent on, at the lifetime of that `&`: there is no loan to end
--     lends_on, back_on    what lies behind a `&mut` is lent to a call that returns, `f(&mut *r)`, for a lifetime of its own, which begins there; and that lifetime ends, and the `&mut` is had at what the call left
-- Assumes nothing.
use mathlib.Core.Path.{◌≡◌, refl}
use mathlib.Core.Bool.{Bool, true, false, not}
use lib.Dec.{T as Holds}
use mathlib.Core.List.{[], ◌∷◌, List, ◌++◌}
use Prim.Native.Nat.{ℕ}
use seplogic.Ra.Ura.{Ura}
use base.Fraction.{full_share}
use mir.Syntax.{named, Lifetime}
use mir.Val.{Val, vptr}
use base.Logic.{SProp, ent, sep, emp, via, emp∗, mono_l, comm∗}
use base.Fml.{GName, Lft, Share, flft, fobs, fbor, fres, froom, fdies}
use prog.Wp.{Heap, Env}
use types.Logic.{Logic, sem}
use contract.Monad.{fact, fact_i}
use types.Kit.{Item, Goal, Soaks, Seq, Step, step, prop, frees, ‵, some, later, ◌⊛◌, ◌$◌, ◌∵◌, !, qed, move, keep, drop, use1, use2, use3, split, pick, fsplit, fsplit3, feq_i, fjoin, fjoin3, await, updating, now as at_once, done}
use types.Run.{free1, free0}
use types.Tokens.{lft_new, lft_end}
use types.SemTy.{Body}
use denote.RattleType.{RattleType}
use denote.Memory.{hidden_shr, mem}
use denote.Ref.{MutBor, MutRef, ShrRef}
use denote.Lend.{LentAgain, lends_again, comes_back}
use denote.Slice.{MutSlice, finally, res-finally, coded_holeys, heres}
use borrow.Struct.Share.{Parts}

pub is_true : (c : Bool) → Holds c → c ≡ true
is_true true _ = refl
is_true false z = absurd z

pub is_false : (c : Bool) → Holds (not c) → c ≡ false
is_false true z = absurd z
is_false false _ = refl

pub so : {M : Type 1} (𝓤 : Ura M) {φ : Type 0} → φ → ent 𝓤 (emp 𝓤) (fact 𝓤 φ)
so 𝓤 {φ} x = fact_i 𝓤 φ (emp 𝓤) x

pub holds : {M : Type 1} {𝓤 : Ura M} {𝓛 : Logic 𝓤} {K : Type 0} {Γ : List (Item 𝓤)} → K → {P Q : SProp 𝓤} → ent 𝓤 (emp 𝓤) Q → Step K 𝓛 Γ (prop P) Γ (prop (sep 𝓤 P Q))
holds {𝓤 = 𝓤} t {P} {Q} e = step (λ s. record { prf = via 𝓤 P s.prf (via 𝓤 (sep 𝓤 (emp 𝓤) P) (emp∗ 𝓤 P) (via 𝓤 (sep 𝓤 Q P) (mono_l 𝓤 P e) (comm∗ 𝓤 Q P))) })

-- the locals as room, and that they may be freed
abbrev pub rooms : {M : Type 1} (𝓤 : Ura M) (H : Heap 𝓤) → Env 𝓤 H → List (Item 𝓤)
rooms 𝓤 H [] = []
rooms 𝓤 H (l ∷ E) = ‵ (froom l.0 l.1 0) ∷ ‵ (fdies l.0 l.1) ∷ rooms 𝓤 H E

module _ {M : Type 1} {𝓤 : Ura M} {𝓛 : Logic 𝓤} {K : Type 0} {Γ : List (Item 𝓤)} where
  open 𝓛 use {H}

  freed : K → (E : Env 𝓤 H) (g : Goal 𝓤 H) → Step K 𝓛 Γ g (rooms 𝓤 H E ++ Γ) (frees E g)
  freed t [] g = free0 t
  freed t (l ∷ E) g = step (λ s. free1 t $ freed t E g $ s)

  pub free_all : K → {E : Env 𝓤 H} {g : Goal 𝓤 H} → Step K 𝓛 Γ g (rooms 𝓤 H E ++ Γ) (frees E g)
  free_all t {E} {g} = freed t E g

module _ {M : Type 1} {𝓤 : Ura M} (𝓛 : Logic 𝓤) where
  -- as at the end of a function that keeps the slice (the logic's `Goes-slice`)
  open 𝓛 use {H, A}

  pub slice_left : (ℓ : Lifetime) (κ : Lft) (R : RattleType) (x : MutBor (List R.Denot)) (vs : List Val)
      → ent 𝓤 (sem 𝓛 ((MutSlice ℓ κ R).own_val x vs)) (sem 𝓛 (finally R x.ghost_name x.now))
  slice_left ℓ κ R x vs =
      qed 𝓛 (‵ ((MutSlice ℓ κ R).own_val x vs) ∷ []) ∵ fsplit ! $ move ! (1 ∷ []) $ fsplit ! $
      use1 𝓛 (‵ (fres x.ghost_name ((coded_holeys R).code (heres R x.now)))) (𝓛.names.obs-res x.ghost_name ((coded_holeys R).code (heres R x.now))) $
      use1 𝓛 (‵ (finally R x.ghost_name x.now)) (res-finally 𝓛 ℓ κ R x.ghost_name x.now) $ keep ! (0 ∷ []) $ done !

  -- a `&` has no name of its own
  pub lend : (R F : RattleType) (at : ℕ → ℕ) (part : R.Denot → F.Denot) → Parts 𝓛 R F at part → (κ : Lft) (q : Share) (x : R.Denot) (b o : ℕ)
      → ent 𝓤 (sep 𝓤 (sem 𝓛 (hidden_shr R κ x b o)) (A.lft κ q))
      (H.⇛ (sep 𝓤 (sem 𝓛 ((ShrRef (named 0) κ F).own_val (record { ref_ptr = (b, at o); now = part x }) (vptr b (at o) ∷ []))) (A.lft κ q)))
  lend R F at part pt κ q x b o =
      qed 𝓛 (‵ (hidden_shr R κ x b o) ∷ ‵ (flft κ q) ∷ []) ∵ updating ! $ use2 𝓛 (later (‵ (hidden_shr F κ (part x) b (at o)) ⊛ ‵ (flft κ q))) (pt κ q x b o) $ await ! tt $ split ! $
      feq_i ! (List Val) (vptr b (at o) ∷ []) (vptr b (at o) ∷ []) refl $ fjoin ! $ at_once ! $ done !

-- the logic's `lends_again` and `comes_back`, at a `&mut` that is taken apart, with the lifetime's beginning and end
module _ {M : Type 1} {𝓤 : Ura M} {𝓛 : Logic 𝓤} {K : Type 0} {Γ : List (Item 𝓤)} {G : Goal 𝓤 𝓛.H} where
  pub lends_on : K → Soaks G → (R : RattleType) (ℓ : Lifetime) {κ : Lft} {q : Share} {γ : GName} (x : R.Denot) (b o : ℕ)
      → ((α : ℕ) (δ : GName) → Seq K 𝓛 (‵ ((MutRef ℓ (α ∷ []) R).own_val (record { ref_ptr = (b, o); ghost_name = δ; now = x }) (vptr b o ∷ [])) ∷ ‵ (LentAgain R κ (α ∷ []) q γ b o δ x) ∷ ‵ (flft (α ∷ []) full_share) ∷ Γ) G)
      → Seq K 𝓛 (‵ (fobs γ (R.coded.code x)) ∷ ‵ (fbor κ (Body (mem R) b o γ)) ∷ ‵ (flft κ q) ∷ Γ) G
  lends_on t z R ℓ {κ} {q} {γ} x b o k =
      feq_i t (List Val) (vptr b o ∷ []) (vptr b o ∷ []) refl $ fjoin3 t $ lft_new t z (λ α. move t (1 ∷ 2 ∷ []) $
      use2 𝓛 (later (some (λ (δ : GName). ‵ ((MutRef ℓ (α ∷ []) R).own_val (record { ref_ptr = (b, o); ghost_name = δ; now = x }) (vptr b o ∷ [])) ⊛ ‵ (LentAgain R κ (α ∷ []) q γ b o δ x)))) (lends_again 𝓛 R (named 0) κ (α ∷ []) q γ b o ℓ x) $
      await t z $ pick t (λ δ. split t $ k α δ))

  pub back_on : K → Soaks G → (R : RattleType) {κ : Lft} {q : Share} {γ δ : GName} {α : ℕ} (x y : R.Denot) (b o : ℕ)
      → Step K 𝓛 (‵ (fobs γ (R.coded.code y)) ∷ ‵ (fbor κ (Body (mem R) b o γ)) ∷ ‵ (flft κ q) ∷ Γ) G
      (‵ (flft (α ∷ []) full_share) ∷ ‵ (LentAgain R κ (α ∷ []) q γ b o δ x) ∷ ‵ (fres δ (R.coded.code y)) ∷ Γ) G
  back_on t z R {κ} {q} {γ} {δ} {α} x y b o =
      step (λ s. lft_end t z $ use3 𝓛 (later (‵ ((MutRef (named 0) κ R).own_val (record { ref_ptr = (b, o); ghost_name = γ; now = y }) (vptr b o ∷ [])) ⊛ ‵ (flft κ q))) (comes_back 𝓛 R (named 0) κ (α ∷ []) q γ b o δ x y) $
      await t z $ split t $ fsplit3 t $ drop t $ s)
