-- Laws of the checks before a command's own: what `checked` gives in each case, of either mailbox (document 02, W-208), and what holds where it gives 0; the same of the first mailbox with its label area (`admission`), and with
-- what is refused while media is disabled (document 02, W-207). Assumes nothing.
use mathlib.Core.Path.{◌≡◌, refl, sym, ap, ap₂, ◌∙◌}
use mathlib.Core.Bool.{Bool, true, false, ◌||◌}
use Prim.Native.Nat.{ℕ, ◌≤◌, ◌<◌}
use native.Mathlib.Omega.{arith}
use native.Mathlib.Decide.{ℕ_discrete}
use lib.Dec.{leb, eqb}
use borrow.Author.Tests.{le-leb, lt-leb, leb-true, eqb-true, ne_eqb, eq-eqb}
use Rattle.labels.specs.Labels.{label_size}
use Rattle.wire.specs.Returns.{started, unsupported, unsupported_mailbox, invalid_length, small_buffer, need}
use Rattle.commands.specs.Numbers.{mailbox_size}
use Rattle.wire.proofs.Laws.{either, need_fails, need_holds, need_zero}
use Rattle.commands.specs.declared.mailboxes.Mailbox.{Mailbox}
use Rattle.commands.specs.declared.mailboxes.Mailbox.TheVariants.{First, Pool}
use Rattle.commands.specs.Commands.{commands, rows_of, is_first, known, fits, checked, admission, while_disabled, blocked, first_code}

-- ---- either mailbox
-- an opcode that both have is known to each; one that the first alone has, to the first
both_has : (m : Mailbox) (o : ℕ) → known commands o ≡ true → known (rows_of Pool) o ≡ true → known (rows_of m) o ≡ true
unfolding commands rows_of
both_has First o a b = a
both_has Pool o a b = b

first_has : (m : Mailbox) (o : ℕ) → known commands o ≡ true → known (rows_of Pool) o ≡ false → known (rows_of m) o ≡ is_first m
unfolding commands rows_of
first_has First o a b = a
first_has Pool o a b = b

module _ (m : Mailbox) (op n room : ℕ) where
  pub checked_room : room < mailbox_size → small_buffer ≡ checked m op n room
  unfolding checked
  checked_room h = need_fails _ _ (lt-leb _ _ h)

  pub checked_long : mailbox_size ≤ room → mailbox_size < n → invalid_length ≡ checked m op n room
  unfolding checked
  checked_long h k = need_fails _ _ (lt-leb _ _ k) ∙ need_holds _ _ (le-leb _ _ h)

  -- past the first two checks, at an opcode that the device has not
  pub checked_unknown : mailbox_size ≤ room → n ≤ mailbox_size → known commands op ≡ false → unsupported ≡ checked m op n room
  unfolding checked
  checked_unknown h k e = need_fails _ _ e ∙ need_holds _ _ (le-leb _ _ k) ∙ need_holds _ _ (le-leb _ _ h)

  -- at one that it has
  checked_at : (o : ℕ) → mailbox_size ≤ room → n ≤ mailbox_size → op ≡ o
      → need (known commands o) unsupported (need (known (rows_of m) o) unsupported_mailbox (need (fits commands o n) invalid_length 0)) ≡ checked m op n room
  unfolding checked commands rows_of
  checked_at o h k e =
      ap (λ (x : ℕ). need (known commands x) unsupported (need (known (rows_of m) x) unsupported_mailbox (need (fits commands x n) invalid_length 0))) (sym e)
      ∙ need_holds _ _ (le-leb _ _ k) ∙ need_holds _ _ (le-leb _ _ h)

  -- that both mailboxes have: the length decides
  pub checked_both : (o : ℕ) → mailbox_size ≤ room → n ≤ mailbox_size → op ≡ o → known commands o ≡ true → known (rows_of Pool) o ≡ true → need (fits commands o n) invalid_length 0 ≡ checked m op n room
  checked_both o h k e a b = need_holds _ _ (both_has m o a b) ∙ need_holds _ _ a ∙ checked_at o h k e

  -- that the first alone has: the mailbox, then the length
  pub checked_first : {code length_code : ℕ} (o : ℕ) → code ≡ need (is_first m) unsupported_mailbox length_code → length_code ≡ need (fits commands o n) invalid_length 0 → mailbox_size ≤ room → n ≤ mailbox_size → op ≡ o
      → known commands o ≡ true → known (rows_of Pool) o ≡ false → code ≡ checked m op n room
  checked_first o c l h k e a b =
      c ∙ ap₂ (λ (x : Bool) (y : ℕ). need x unsupported_mailbox y) (sym (first_has m o a b)) l ∙ need_holds _ _ a ∙ checked_at o h k e

  -- where none refuses: room for every reply, an opcode that the mailbox has, and a payload of a length that the command takes
  module _ (zero : checked m op n room ≡ 0) where
    past_room : (leb mailbox_size room ≡ true)
        × (need (leb n mailbox_size) invalid_length (need (known commands op) unsupported (need (known (rows_of m) op) unsupported_mailbox (need (fits commands op n) invalid_length 0))) ≡ 0)
    unfolding checked
    past_room = need_zero _ small_buffer _ (omega arith) zero

    past_known : (known (rows_of m) op ≡ true) × (need (fits commands op n) invalid_length 0 ≡ 0)
    past_known =
        let past_length = need_zero (leb n mailbox_size) invalid_length _ (omega arith) past_room.1 in
        let past_device = need_zero (known commands op) unsupported _ (omega arith) past_length.1 in
        need_zero (known (rows_of m) op) unsupported_mailbox _ (omega arith) past_device.1

    pub checked_fits_room : mailbox_size ≤ room
    checked_fits_room = leb-true _ _ past_room.0

    pub checked_has : known (rows_of m) op ≡ true
    checked_has = past_known.0

    pub checked_takes : (o : ℕ) → op ≡ o → fits commands o n ≡ true
    checked_takes o e = ap (λ (x : ℕ). fits commands x n) (sym e) ∙ (need_zero (fits commands op n) invalid_length 0 (omega arith) past_known.1).0

-- ---- the first, with its label area
-- the checks of the area and the others, of which the first that refuses decides
pub admission_first : (op n size room : ℕ) {lent others code : ℕ} → lent ≡ need (eqb size label_size) small_buffer 0 → others ≡ admission op n label_size room
    → code ≡ need (eqb lent 0) lent others → code ≡ admission op n size room
unfolding admission
admission_first op n size room {lent} {others} el eo e = e ∙ ap₂ (λ (x y : ℕ). need (eqb x 0) x y) el eo ∙ go (eqb size label_size)
  where
    go : (b : Bool) → need (eqb (need b small_buffer 0) 0) (need b small_buffer 0) (admission op n label_size room) ≡ need b small_buffer (admission op n label_size room)
    go true = refl
    go false = refl

-- an admitted command is lent an area of 4,096 bytes, and passes the others
pub admitted_area : (op n size room : ℕ) → admission op n size room ≡ 0 → (size ≡ label_size) × (admission op n label_size room ≡ 0)
unfolding admission
admitted_area op n size room z = let p = need_zero (eqb size label_size) small_buffer _ (omega arith) z in (eqb-true size label_size p.0, p.1)

-- an area that has not 4,096 bytes
pub admission_area : (op n size room : ℕ) → (size ≡ label_size → ⊥) → small_buffer ≡ admission op n size room
unfolding admission
admission_area op n size room f = need_fails _ _ (ne_eqb size label_size f)

-- where it has: the checks of the others
module _ (op n room : ℕ) where
  pub admission_sized : checked First op n room ≡ admission op n label_size room
  unfolding admission
  admission_sized = refl

  -- past the first two checks: the first mailbox has every command, so that 0003h and the length decide
  pub admission_at : (o : ℕ) → mailbox_size ≤ room → n ≤ mailbox_size → op ≡ o
      → need (known commands o) unsupported (need (fits commands o n) invalid_length 0) ≡ admission op n label_size room
  unfolding rows_of
  admission_at o h k e = once (known commands o) ∙ checked_at First op n room o h k e ∙ admission_sized
    where
      once : (b : Bool) → need b unsupported (need (fits commands o n) invalid_length 0) ≡ need b unsupported (need b unsupported_mailbox (need (fits commands o n) invalid_length 0))
      once true = refl
      once false = refl

  module _ (zero : admission op n label_size room ≡ 0) where
    -- an admitted command has room for every reply
    pub admitted_room : mailbox_size ≤ room
    admitted_room = checked_fits_room First op n room (admission_sized ∙ zero)

    -- and a payload of a length that the command takes
    pub admitted_fits : (o : ℕ) → op ≡ o → fits commands o n ≡ true
    admitted_fits = checked_takes First op n room (admission_sized ∙ zero)

-- ---- with media disabled or not (document 02, W-207)
module _ (disabled : Bool) (op n size room : ℕ) where
  -- the checks of document 01's order and that of media, of which the first that refuses decides
  pub first_code_by : {admitted allowed code : ℕ} → admitted ≡ admission op n size room → allowed ≡ blocked disabled op → code ≡ need (eqb admitted 0) admitted allowed
      → code ≡ first_code disabled op n size room
  unfolding first_code
  first_code_by ea eb e = e ∙ ap₂ (λ (x y : ℕ). need (eqb x 0) x y) ea eb

  -- where neither refuses
  pub first_zero : first_code disabled op n size room ≡ 0 → (admission op n size room ≡ 0) × (blocked disabled op ≡ 0)
  unfolding first_code
  first_zero z = go (ℕ_discrete (admission op n size room) 0)
    where
      go : Dec (admission op n size room ≡ 0) → (admission op n size room ≡ 0) × (blocked disabled op ≡ 0)
      go (yes e) = (e, need_holds _ _ (eq-eqb _ _ e) ∙ z)
      go (no f) = absurd (f (need_fails _ _ (ne_eqb _ _ f) ∙ z))

  -- what is refused before media is looked at
  pub first_refused : (admission op n size room ≡ 0 → ⊥) → admission op n size room ≡ first_code disabled op n size room
  unfolding first_code
  first_refused f = need_fails _ _ (ne_eqb _ _ f)

  -- where document 01's order refuses nothing, media decides
  pub first_admitted : admission op n size room ≡ 0 → blocked disabled op ≡ first_code disabled op n size room
  unfolding first_code
  first_admitted e = need_holds _ _ (eq-eqb _ _ e)

  -- a command that media disabled allows
  pub first_allowed : while_disabled op ≡ 0 → admission op n size room ≡ first_code disabled op n size room
  first_allowed free = go (ℕ_discrete (admission op n size room) 0)
    where
      none : (b : Bool) → 0 ≡ blocked b op
      none true = sym free
      none false = refl

      go : Dec (admission op n size room ≡ 0) → admission op n size room ≡ first_code disabled op n size room
      go (yes e) = e ∙ none disabled ∙ first_admitted e
      go (no f) = first_refused f

-- none of these checks gives 0001h, which is Sanitize's own
abbrev Other : ℕ → Type 0
Other code = code ≡ started → ⊥

pub first_not_started : (disabled : Bool) (op n size room : ℕ) → first_code disabled op n size room ≡ started → ⊥
unfolding first_code admission checked while_disabled
first_not_started disabled op n size room =
    either Other (eqb (admission op n size room) 0) (stopped disabled) admitted
  where
    admitted : Other (admission op n size room)
    admitted =
        either Other (eqb size label_size)
        (either Other (leb mailbox_size room)
        (either Other (leb n mailbox_size)
        (either Other (known commands op)
        (either Other (known (rows_of First) op)
        (either Other (fits commands op n) (λ e. omega (arith, e)) (λ e. omega (arith, e)))
        (λ e. omega (arith, e)))
        (λ e. omega (arith, e)))
        (λ e. omega (arith, e)))
        (λ e. omega (arith, e)))
        (λ e. omega (arith, e))

    stopped : (b : Bool) → Other (blocked b op)
    stopped true =
        either Other (eqb op 0x4400) (λ e. omega (arith, e))
        (either Other (eqb op 0x4301 || (eqb op 0x4302 || (eqb op 0x4102 || eqb op 0x4103))) (λ e. omega (arith, e)) (λ e. omega (arith, e)))
    stopped false = λ e. omega (arith, e)

-- the area's size before the other checks of a command, media's among them
pub first_area : (disabled : Bool) (op n size room : ℕ) {lent others code : ℕ} → lent ≡ need (eqb size label_size) small_buffer 0 → others ≡ first_code disabled op n label_size room
    → code ≡ need (eqb lent 0) lent others → code ≡ first_code disabled op n size room
unfolding first_code admission
first_area disabled op n size room {lent} {others} el eo e = e ∙ ap₂ (λ (x y : ℕ). need (eqb x 0) x y) el eo ∙ go (eqb size label_size)
  where
    go : (b : Bool) → need (eqb (need b small_buffer 0) 0) (need b small_buffer 0) (first_code disabled op n label_size room)
        ≡ need (eqb (need b small_buffer (admission op n label_size room)) 0) (need b small_buffer (admission op n label_size room)) (blocked disabled op)
    go true = refl
    go false = refl

-- where none refuses, the area has 4,096 bytes, and the others refuse nothing
pub first_sized : (disabled : Bool) (op n size room : ℕ) → first_code disabled op n size room ≡ 0 → (size ≡ label_size) × (first_code disabled op n label_size room ≡ 0)
first_sized disabled op n size room z =
    let passed = first_zero disabled op n size room z in
    let sized = admitted_area op n size room passed.0 in
    (sized.0, sym (first_admitted disabled op n label_size room sized.1) ∙ passed.1)

four_five_by : (n : ℕ) (a b : Bool) → (a ≡ true → n ≡ 4) → (b ≡ true → n ≡ 5) → (a || b) ≡ true → (4 ≤ n) × (n ≤ 5)
four_five_by n true b f g e = let h = f refl in (omega arith, omega arith)
four_five_by n false b f g e = let h = g e in (omega arith, omega arith)

-- a payload of four bytes or five
pub four_five : (n : ℕ) → (eqb n 4 || eqb n 5) ≡ true → (4 ≤ n) × (n ≤ 5)
four_five n e = four_five_by n (eqb n 4) (eqb n 5) (eqb-true n 4) (eqb-true n 5) e

-- a buffer that has room for every reply has room for one of n bytes
pub room_for : {n room : ℕ} → n ≤ mailbox_size → mailbox_size ≤ room → n ≤ room
room_for h k = omega arith
