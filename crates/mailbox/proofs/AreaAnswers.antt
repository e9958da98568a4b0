-- What the label area decides (document 02, W-206): which commands it sees; what `area_command` ensures of its answers, by their cases; and that every other command, and every refusal, leaves
-- the area. Assumes nothing.
use mathlib.Core.Path.{◌≡◌, refl, sym, ap, ◌∙◌}
use mathlib.Core.Bool.{Bool, true, false, not, ◌||◌, ◌&&◌, cond}
use mathlib.Core.List.{List}
use Prim.Native.Nat.{ℕ, ◌≤◌}
use lib.Dec.{eqb}
use lib.ListN.{length}
use borrow.Author.Tests.{eq-eqb, ne_eqb, eqb-true}
use Rattle.wire.specs.Returns.{success, small_buffer, need}
use Rattle.wire.specs.declared.done.Done.{Done}
use Rattle.wire.specs.Done.{Writes}
use Rattle.labels.specs.Labels.{label_size, get_labels, set_labels, Sets}
use Rattle.commands.specs.Numbers.{mailbox_size}
use Rattle.commands.specs.Commands.{commands, fits, first_code}
use Rattle.mailbox.specs.Mailbox.{run_command, area_after}
use Rattle.mailbox.specs.ByParts.{of_area, AreaAnswered}
use Rattle.mailbox.proofs.Answers.{refusal_answer, answer_at, read_answer, change_answer}
use Rattle.commands.proofs.Laws.{first_area, first_sized}
use Rattle.mailbox.proofs.PartAnswers.{neither, passed_room, passed_fits}

-- ---- which commands it decides about
not_true : (b : Bool) → not b ≡ false → b ≡ true
not_true true e = refl
not_true false e = sym e

module _ (op size : ℕ) where
  -- about none of the others: the area has 4,096 bytes, and the opcode is neither of its own
  pub not_area : of_area op size ≡ false → (size ≡ label_size) × (eqb op 0x4102 ≡ false) × (eqb op 0x4103 ≡ false)
  unfolding of_area
  not_area e =
      let parts = neither (not (eqb size label_size)) (eqb op 0x4102 || eqb op 0x4103) e in
      let opcodes = neither (eqb op 0x4102) (eqb op 0x4103) parts.1 in
      (eqb-true size label_size (not_true _ parts.0), opcodes.0, opcodes.1)

  -- so too of an area of 4,096 bytes
  pub not_area_sized : of_area op size ≡ false → of_area op label_size ≡ false
  not_area_sized e = ap (of_area op) (sym (not_area e).0) ∙ e

  -- with 4,096 bytes, a command of the area that is not the first is the second
  pub sets_labels : of_area op size ≡ true → size ≡ label_size → (op ≡ 0x4102 → ⊥) → op ≡ 0x4103
  unfolding of_area
  sets_labels e s f = eqb-true op 0x4103 (simp (eq-eqb size label_size s, ne_eqb op 0x4102 f) at e)

-- ---- what is left of the area
module _ (op : ℕ) (p : List ℕ) (code : ℕ) (area : List ℕ) where
  -- a command other than Set LSA leaves it
  pub other_leaves : eqb op 0x4103 ≡ false → area ≡ area_after op p code area
  unfolding area_after
  other_leaves e = simp e

  -- and so does a refusal
  pub refusal_leaves : (code ≡ success → ⊥) → area ≡ area_after op p code area
  unfolding area_after
  refusal_leaves f = sym (and_false (eqb op 0x4103))
    where
      and_false : (b : Bool) → cond (b && eqb code success) (set_labels p area) area ≡ area
      and_false true = ap (λ (t : Bool). cond t (set_labels p area) area) (ne_eqb code success f)
      and_false false = refl

-- a command that the area does not decide about: it has 4,096 bytes, and is left as it is
pub record LeavesArea (op : ℕ) (p area : List ℕ) : Type 0 where
  pub sized : length area ≡ label_size
  pub undecided : of_area op label_size ≡ false
  pub kept : (code : ℕ) → area ≡ area_after op p code area

pub leaves_area : (op : ℕ) (p area : List ℕ) {decides : Bool} → decides ≡ of_area op (length area) → decides ≡ false → LeavesArea op p area
leaves_area op p area e f =
    let none = not_area op (length area) (sym e ∙ f) in
    record { sized = none.0; undecided = not_area_sized op (length area) (sym e ∙ f); kept = λ code. other_leaves op p code area none.2 }

-- ---- `area_command`
-- past the checks before a command's own: the area has 4,096 bytes, there is room for every reply, and the payload is of a length that the command takes
pub record AreaShown (disabled : Bool) (op n size buffer : ℕ) : Type 0 where
  pub sized : size ≡ label_size
  pub passed : first_code disabled op n label_size buffer ≡ 0
  pub room : mailbox_size ≤ buffer
  pub fits : (o : ℕ) → op ≡ o → fits commands o n ≡ true

pub area_shown : (disabled : Bool) (op n size room : ℕ) {lent others code : ℕ} → lent ≡ need (eqb size label_size) small_buffer 0 → others ≡ first_code disabled op n label_size room
    → code ≡ need (eqb lent 0) lent others → code ≡ 0 → AreaShown disabled op n size room
area_shown disabled op n size room l o e z =
    let both = first_sized disabled op n size room (sym (first_area disabled op n size room l o e) ∙ z) in
    record { sized = both.0; passed = both.1; room = passed_room disabled op n room refl both.1; fits = passed_fits disabled op n room refl both.1 }

module _ {disabled : Bool} {op : ℕ} {p before area : List ℕ} {lent others code : ℕ} (l : lent ≡ need (eqb (length area) label_size) small_buffer 0)
    (o : others ≡ first_code disabled op (length p) label_size (length before)) (e : code ≡ need (eqb lent 0) lent others) where
  -- refused by the checks before a command's own
  pub area_refused : (code ≡ 0 → ⊥) → AreaAnswered disabled op p (record { code = code; length = 0 }) before before area area
  area_refused f =
      record {
        answered = λ d time v same.
            refusal_answer d op p time area (length before) code v
            (first_area _ _ _ _ _ l o e ∙ ap (λ (b : Bool). first_code b op (length p) (length area) (length before)) (sym same)) f;
        area = refusal_leaves op p code area f;
      }

  module _ (z : code ≡ 0) where
    -- Get LSA
    pub area_got : {r : Done} {after : List ℕ} → op ≡ 0x4102 → Writes (get_labels mailbox_size p area) r before after → AreaAnswered disabled op p (record { code = r.code; length = r.length }) before after area area
    unfolding run_command
    area_got {r} {after} at a =
        let shown = area_shown disabled op (length p) (length area) (length before) l o e z in
        record {
          answered = λ d time v same. answer_at d same op p time area shown.sized (length before) 0x4102 shown.passed at (read_answer v a.code a.size a.bytes);
          area = other_leaves op p r.code area (ap (λ (x : ℕ). eqb x 0x4103) at);
        }

    -- Set LSA
    pub area_set : {own : ℕ} {left : List ℕ} → op ≡ 0x4103 → Sets p own area left → AreaAnswered disabled op p (record { code = own; length = 0 }) before before area left
    unfolding run_command area_after
    area_set {own} {left} at a =
        let shown = area_shown disabled op (length p) (length area) (length before) l o e z in
        record {
          answered = λ d time v same. answer_at d same op p time area shown.sized (length before) 0x4103 shown.passed at (change_answer v a.code refl (λ f. refl));
          area = a.bytes ∙ sym (ap (λ (x : ℕ). cond (eqb x 0x4103 && eqb own success) (set_labels p area) area) at);
        }
