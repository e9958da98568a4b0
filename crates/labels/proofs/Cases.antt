-- Get LSA and Set LSA by their cases: what is given where each check fails, and where none does; what holds of a Set LSA that none refuses, and what it leaves of the area. Assumes nothing.
use mathlib.Core.Path.{◌≡◌, refl, sym, ap, ap₂, ◌∙◌}
use mathlib.Core.List.{List}
use mathlib.Core.Bool.{Bool, true, false, cond}
use Prim.Native.Nat.{ℕ, ◌+◌, ◌-◌, ◌≤◌, ◌<◌}
use native.Mathlib.Omega.{arith}
use lib.Dec.{eqb, leb}
use lib.ListN.{length, take, length-drop}
use lib.Seq.{take_all}
use borrow.Author.Tests.{le-leb, lt-leb, leb-true, eq-eqb, ne_eqb, eqb-true}
use Rattle.wire.specs.Wire.{part, splice}
use Rattle.wire.specs.Returns.{invalid_input}
use Rattle.wire.specs.Done.{written, refused}
use Rattle.wire.proofs.Laws.{need_zero}
use Rattle.labels.specs.Labels.{label_size, label_offset, labels_asked, labels_reserved, label_data, get_labels, set_code, set_labels, Sets}

-- ---- Get LSA
module _ (most : ℕ) (p area : List ℕ) where
  pub get_long : most < labels_asked p → get_labels most p area ≡ refused invalid_input
  unfolding get_labels
  get_long l = simp (lt-leb _ _ l)

  module _ (short : labels_asked p ≤ most) where
    pub get_past : leb (label_offset p + labels_asked p) label_size ≡ false → get_labels most p area ≡ refused invalid_input
    unfolding get_labels
    get_past e = simp (le-leb _ _ short, e)

    pub get_read : leb (label_offset p + labels_asked p) label_size ≡ true → get_labels most p area ≡ written (part (label_offset p) (labels_asked p) area)
    unfolding get_labels
    get_read e = simp (le-leb _ _ short, e)

-- ---- Set LSA
-- a Set that none refuses: it ends in the area, and its reserved bytes are zero
pub set_accepted : (p : List ℕ) → set_code p ≡ 0 → (label_offset p + length (label_data p) ≤ label_size) × (labels_reserved p ≡ 0)
unfolding set_code
set_accepted p z =
    let first = need_zero (leb (label_offset p + length (label_data p)) label_size) invalid_input _ (omega arith) z in
    let second = need_zero (eqb (labels_reserved p) 0) invalid_input 0 (omega arith) first.1 in
    (leb-true _ _ first.0, eqb-true _ _ second.0)

-- ---- Set LSA: what it leaves of the area
module _ {p : List ℕ} {code : ℕ} (c : code ≡ set_code p) {before : List ℕ} where
  pub set_stored : {o n : ℕ} {after : List ℕ} → code ≡ 0 → o ≡ label_offset p → n ≡ length p - 8 → after ≡ splice o (part 8 n p) before → Sets p code before after
  unfolding set_labels part
  set_stored {o} {n} {after} z eo en e =
      let all : take n (label_data p) ≡ label_data p = take_all n (label_data p) (omega (arith, en, length-drop 8 p)) in
      record {
        code = c;
        bytes = e ∙ ap₂ (λ (x : ℕ) (l : List ℕ). splice x l before) eo all ∙ sym (ap (λ (b : Bool). cond b (set_labels p before) before) (eq-eqb code 0 z));
      }
