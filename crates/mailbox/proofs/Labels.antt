-- The label area through the mailbox (document 02, W-206): "After a Set, where all are accepted and nobody writes the area between, a Get of the same range gives the data back, and a Get of a range
-- apart from it gives what it gave just before the Set." Of any devices, times and rooms: `lent` is the area that the Get is lent, and that it is the one that the Set left says that nobody wrote
-- it between; other commands may have come (`other_leaves`), refused ones too (`refusal_leaves`). And which numbers the two commands give. Assumes nothing.
use mathlib.Core.Path.{◌≡◌, refl, sym, ap, ◌∙◌}
use mathlib.Core.List.{List}
use mathlib.Core.Logic.{◌⊎◌}
use Prim.Native.Nat.{ℕ, ◌+◌, ◌≤◌, ◌<◌}
use native.Mathlib.Omega.{arith}
use native.Mathlib.Decide.{ℕ_discrete}
use lib.Dec.{eqb}
use lib.ListN.{length, get_or}
use Rattle.wire.specs.Wire.{part}
use Rattle.wire.specs.Returns.{success, small_buffer, invalid_input, need}
use Rattle.wire.specs.Done.{Written, written}
use Rattle.labels.specs.Labels.{label_size, label_offset, labels_asked, labels_reserved, label_data, get_labels, set_code, set_labels, SameRange, Apart}
use Rattle.labels.proofs.Laws.{read_back, apart_kept, get_inside, get_outside, reserved_refused, past_refused, inside_accepted}
use Rattle.commands.specs.Numbers.{mailbox_size}
use Rattle.mailbox.specs.State.{DeviceState}
use Rattle.mailbox.specs.Outcome.{Outcome, reads, changes, refused}
use Rattle.commands.specs.Commands.{first_code}
use Rattle.mailbox.specs.Mailbox.{run_command, answer, area_after}
use Rattle.commands.proofs.Laws.{admission_area, first_refused}
use Rattle.mailbox.proofs.Accepted.{admitted_runs, accepted_runs}

-- ---- an area that has not 4,096 bytes: 0100h with the first check, whatever the command, the payload and the reply buffer
pub wrong_area_refused : (d : DeviceState) (op : ℕ) (p : List ℕ) (time : ℕ) (area : List ℕ) (room : ℕ) → (length area ≡ label_size → ⊥) → answer d op p time area room ≡ refused small_buffer d
unfolding answer
wrong_area_refused d op p time area room f =
    let e = admission_area op (length p) (length area) room f in
    ap (λ (n : ℕ). need (eqb n success) (refused n d) (run_command d op p time area)) (sym (e ∙ first_refused d.media.disabled op (length p) (length area) room (λ z. absurd (omega (arith, e ∙ z)))))

-- so that a command that is answered Success was lent one that has
pub accepted_area : (d : DeviceState) (op : ℕ) (p : List ℕ) (time : ℕ) (area : List ℕ) (room : ℕ) → (answer d op p time area room).code ≡ success → length area ≡ label_size
accepted_area d op p time area room z = go (ℕ_discrete (length area) label_size)
  where
    go : Dec (length area ≡ label_size) → length area ≡ label_size
    go (yes e) = e
    go (no f) = let e : small_buffer ≡ success = sym (ap (λ (o : Outcome). o.code) (wrong_area_refused d op p time area room f)) ∙ z in absurd (omega (arith, e))

-- ---- the two commands, past the checks before their own
get_runs : (d : DeviceState) (p : List ℕ) (time : ℕ) (area : List ℕ) → run_command d 0x4102 p time area ≡ reads d (get_labels mailbox_size p area)
unfolding run_command
get_runs d p time area = refl

set_runs : (d : DeviceState) (p : List ℕ) (time : ℕ) (area : List ℕ) → run_command d 0x4103 p time area ≡ changes (set_code p) d
unfolding run_command
set_runs d p time area = refl

module _ (d : DeviceState) (p : List ℕ) (time : ℕ) (area : List ℕ) (room : ℕ) where
  -- a Get that is answered Success is the label area's
  got : (answer d 0x4102 p time area room).code ≡ success → answer d 0x4102 p time area room ≡ reads d (get_labels mailbox_size p area)
  got z = accepted_runs d 0x4102 p time area room z ∙ get_runs d p time area

  -- a Set that is answered Success passes the label area's checks
  set_passes : (answer d 0x4103 p time area room).code ≡ success → set_code p ≡ success
  set_passes z = sym (ap (λ (o : Outcome). o.code) (accepted_runs d 0x4103 p time area room z ∙ set_runs d p time area)) ∙ z

  module _ (z : first_code d.media.disabled 0x4103 (length p) (length area) room ≡ 0) where
    -- a Set that the checks before its own let through: an end past the area and a reserved byte that is not zero are 0002h; every other is Success, also one with no data
    pub past_set_refused : label_size < label_offset p + length (label_data p) → answer d 0x4103 p time area room ≡ refused invalid_input d
    past_set_refused h = admitted_runs d 0x4103 p time area room z ∙ set_runs d p time area ∙ ap (λ (n : ℕ). changes n d) (past_refused p h)

    pub reserved_set_refused : 8 ≤ length p → (i : ℕ) → 4 ≤ i → i < 8 → (get_or p i 0 ≡ 0 → ⊥) → answer d 0x4103 p time area room ≡ refused invalid_input d
    reserved_set_refused least i from to f = admitted_runs d 0x4103 p time area room z ∙ set_runs d p time area ∙ ap (λ (n : ℕ). changes n d) (reserved_refused p least i from to f)

    pub inside_set_accepted : label_offset p + length (label_data p) ≤ label_size → labels_reserved p ≡ 0 → answer d 0x4103 p time area room ≡ changes success d
    inside_set_accepted h r = admitted_runs d 0x4103 p time area room z ∙ set_runs d p time area ∙ ap (λ (n : ℕ). changes n d) (inside_accepted p h r)

  module _ (z : first_code d.media.disabled 0x4102 (length p) (length area) room ≡ 0) where
    -- a Get that they let through: a length over 2,048 and an end past the area are 0002h; every other replies the bytes of its range
    pub outside_get_refused : (mailbox_size < labels_asked p) ⊎ (label_size < label_offset p + labels_asked p) → answer d 0x4102 p time area room ≡ refused invalid_input d
    outside_get_refused h = admitted_runs d 0x4102 p time area room z ∙ get_runs d p time area ∙ ap (reads d) (get_outside mailbox_size p area h)

    pub inside_got : labels_asked p ≤ mailbox_size → label_offset p + labels_asked p ≤ label_size
        → answer d 0x4102 p time area room ≡ reads d (written (part (label_offset p) (labels_asked p) area))
    inside_got short h = admitted_runs d 0x4102 p time area room z ∙ get_runs d p time area ∙ ap (reads d) (get_inside mailbox_size p area short h)

-- ---- the area that a Set leaves
after_set : (p area : List ℕ) → area_after 0x4103 p success area ≡ set_labels p area
unfolding area_after
after_set p area = refl

module _ (d : DeviceState) (p : List ℕ) (time : ℕ) (area : List ℕ) (room : ℕ) (set : (answer d 0x4103 p time area room).code ≡ success) (lent : List ℕ) (untouched : lent ≡ area_after 0x4103 p success area)
    (q : List ℕ) where
  left : lent ≡ set_labels p area
  left = untouched ∙ after_set p area

  -- "a Get of the same range gives the data back"
  pub set_then_get : SameRange p q → (e : DeviceState) (t s : ℕ) → (answer e 0x4102 q t lent s).code ≡ success → (answer e 0x4102 q t lent s).reply ≡ label_data p
  set_then_get same e t s z =
      let is = got e q t lent s z in
      let sized = accepted_area d 0x4103 p time area room set in
      let code : (get_labels mailbox_size q (set_labels p area)).code ≡ success = ap (λ (l : List ℕ). (get_labels mailbox_size q l).code) (sym left) ∙ sym (ap (λ (o : Outcome). o.code) is) ∙ z in
      ap (λ (o : Outcome). o.reply) is ∙ ap (λ (l : List ℕ). (get_labels mailbox_size q l).bytes) left
      ∙ ap (λ (w : Written). w.bytes) (read_back mailbox_size p q area sized (set_passes d p time area room set) same code)

  -- "a Get of a range apart from it gives what it gave just before the Set"
  pub set_then_apart : Apart p q → (c e : DeviceState) (u r t s : ℕ) → (answer c 0x4102 q u area r).code ≡ success → (answer e 0x4102 q t lent s).code ≡ success
      → (answer e 0x4102 q t lent s).reply ≡ (answer c 0x4102 q u area r).reply
  set_then_apart apart c e u r t s y z =
      let sized = accepted_area d 0x4103 p time area room set in
      ap (λ (o : Outcome). o.reply) (got e q t lent s z) ∙ ap (λ (l : List ℕ). (get_labels mailbox_size q l).bytes) left
      ∙ ap (λ (w : Written). w.bytes) (apart_kept mailbox_size p q area sized (set_passes d p time area room set) apart)
      ∙ sym (ap (λ (o : Outcome). o.reply) (got c q u area r y))
