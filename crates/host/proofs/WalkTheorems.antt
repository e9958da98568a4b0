-- What a caller may conclude from the contract of `walk` (document 02, W-202), each with its sentence in words: the records in the room, read back, list the range; a
-- refusal leaves the room; 0100h is given exactly where the records need more than the room; the device's number where it refuses the range. Assumes nothing.
use mathlib.Core.Path.{◌≡◌, refl, sym, ap, ap₂, ◌∙◌}
use mathlib.Core.Bool.{Bool, true, false}
use mathlib.Core.List.{List, []}
use Prim.Native.Nat.{ℕ, ◌+◌, ◌*◌, ◌/◌, ◌^◌, ◌<◌}
use native.Mathlib.Decide.{ℕ_discrete}
use native.Mathlib.Omega.{arith}
use lib.Dec.{leb, eqb}
use lib.ListN.{length, drop}
use borrow.Author.Tests.{eqb-true, eqb-false, leb-false}
use Rattle.wire.specs.Returns.{success, invalid_input, invalid_address, small_buffer, need}
use Rattle.wire.specs.Wire.{splice}
use Rattle.poison.specs.Range.{records_bytes}
use Rattle.poison.proofs.Laws.{length_records}
use Rattle.mailbox.specs.declared.device.Device.{Device}
use Rattle.commands.specs.Numbers.{poison_records}
use Rattle.mailbox.specs.State.{ValidDevice, lines_of, state_of}
use Rattle.list_commands.specs.PoisonCommands.{aligned, line_of, range_code}
use Rattle.wire.specs.declared.done.Done.{Done}
use Rattle.wire.specs.Done.{Written, written, refused, Writes}
use Rattle.host.specs.Walk.{Lists, read_records}
use Rattle.host.specs.Walking.{held, walk_of, range_answer, walk_on, walk_answer}
use Rattle.host.proofs.WalkLines.{walk_lists}
use Rattle.host.proofs.WalkRecords.{records_read, typed_walk}
use Rattle.host.proofs.WalkReplies.{answer_refused, answer_taken}
use Rattle.host.proofs.WalkCalls.{range_few, walk_refused, walk_many}

-- Over an unchanging device the walk gives each covered line of the range once with its type and no other line, ascending.
pub device_lists : (d : Device) (a n : ℕ) → ValidDevice d → Lists (held d) a n (walk_of d a n)
device_lists d a n v = walk_lists (held d) (lines_of (state_of d)) v.poison.chain poison_records (omega arith) a n

-- the answer by its two tests, where the checks of the range give a number
abbrev by_tests : Device → ℕ → ℕ → ℕ → Bool → Bool → Written
by_tests d address n code x y = need x (refused code) (need y (refused small_buffer) (written (records_bytes (walk_of d (line_of address) n))))

module _ (d : Device) (address n room : ℕ) where
  abbrev code : ℕ
  code = range_code (lines_of (state_of d)) address n

  abbrev size : ℕ
  size = 16 * length (walk_of d (line_of address) n)

  -- a walk that is taken gives the records of the walk, over a range that the device takes
  pub taken : (walk_answer d address n room).code ≡ 0 → ((walk_answer d address n room).bytes ≡ records_bytes (walk_of d (line_of address) n)) × (code ≡ 0)
  unfolding walk_on
  taken e = go (eqb code 0) (leb size room) refl e
    where
      go : (x y : Bool) → eqb code 0 ≡ x → (by_tests d address n code x y).code ≡ 0
          → ((by_tests d address n code x y).bytes ≡ records_bytes (walk_of d (line_of address) n)) × (code ≡ 0)
      go true true p e = (refl, eqb-true code 0 p)
      go true false p e = absurd (omega arith)
      go false y p e = absurd (eqb-false code 0 p e)

  -- one that is refused gives no byte
  pub none_refused : ((walk_answer d address n room).code ≡ 0 → ⊥) → (walk_answer d address n room).bytes ≡ []
  unfolding walk_on
  none_refused f = go (eqb code 0) (leb size room) f
    where
      go : (x y : Bool) → ((by_tests d address n code x y).code ≡ 0 → ⊥) → (by_tests d address n code x y).bytes ≡ []
      go true true f = absurd (f refl)
      go true false f = refl
      go false y f = refl

  -- the device's own checks do not give 0100h
  not_small : code ≡ small_buffer → ⊥
  unfolding range_code
  not_small e = go (aligned address) (leb (line_of address + n) (lines_of (state_of d))) e
    where
      go : (x y : Bool) → need x invalid_input (need y invalid_address success) ≡ small_buffer → ⊥
      go true true e = omega arith
      go true false e = omega arith
      go false y e = omega arith

  -- 0100h is given where the device takes the range and the records need more than the room,
  pub small_where : code ≡ 0 → room < size → (walk_answer d address n room).code ≡ small_buffer
  small_where z h = ap (λ (x : Written). x.code) (walk_many d address n room z h)

  -- and nowhere else.
  pub small_only : (walk_answer d address n room).code ≡ small_buffer → (code ≡ 0) × (room < size)
  unfolding walk_on
  small_only e = go (eqb code 0) (leb size room) refl refl e
    where
      go : (x y : Bool) → eqb code 0 ≡ x → leb size room ≡ y → (by_tests d address n code x y).code ≡ small_buffer → (code ≡ 0) × (room < size)
      go true true p q e = absurd (omega arith)
      go true false p q e = (eqb-true code 0 p, leb-false size room q)
      go false y p q e = absurd (not_small e)

  -- A walk over a range that the device refuses gives the device's number, whatever the room is.
  pub device_number : address < 2 ^ 64 → n < 2 ^ 64 → ((range_answer d address n 2048).code ≡ 0 → ⊥)
      → walk_answer d address n room ≡ refused (range_answer d address n 2048).code
  device_number ha hn f = go (ℕ_discrete code 0)
    where
      go : Dec (code ≡ 0) → walk_answer d address n room ≡ refused (range_answer d address n 2048).code
      go (yes z) = absurd (f (ap (λ (x : Written). x.code) (answer_taken d address n 2048 ha hn (omega arith) z)))
      go (no g) = walk_refused d address n room g ∙ ap (λ (x : Written). refused x.code) (sym (answer_refused d address n 2048 ha hn (omega arith) g))

module _ (d : Device) (address n : ℕ) {r : Done} {before after : List ℕ} (w : Writes (walk_answer d address n (length before)) r before after) where
  -- The records that a reader finds in the room after a walk that is taken are those of the walk,
  pub room_read : ValidDevice d → r.code ≡ 0 → read_records (r.length / 16) after ≡ walk_of d (line_of address) n
  unfolding splice
  room_read v e =
      let a = line_of address in
      let rs = walk_of d a n in
      let t = taken d address n (length before) (sym w.code ∙ e) in
      let l = length_records rs in
      let number : r.length / 16 ≡ length rs = let m = w.size ∙ ap length t.0 in omega arith in
      ap₂ read_records number (w.bytes ∙ ap (λ (bs : List ℕ). splice 0 bs before) t.0)
      ∙ records_read a (a + n) rs (drop (0 + length (records_bytes rs)) before) (device_lists d a n v).ascending (range_few d address n v t.1)
      (typed_walk (held d) (lines_of (state_of d)) v.poison.chain v.poison.typed poison_records (omega arith) a n)

  -- and so they give each covered line of the range once with its type and no other line, ascending.
  pub room_lists : ValidDevice d → r.code ≡ 0 → Lists (held d) (line_of address) n (read_records (r.length / 16) after)
  room_lists v e = rw (room_read v e) (device_lists d (line_of address) n v)

  -- A refused walk leaves the room as it was.
  pub room_kept : (r.code ≡ 0 → ⊥) → after ≡ before
  unfolding splice
  room_kept f = w.bytes ∙ ap (λ (bs : List ℕ). splice 0 bs before) (none_refused d address n (length before) (λ e. f (w.code ∙ e)))
