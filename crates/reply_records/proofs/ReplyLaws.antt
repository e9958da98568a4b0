-- Replies read by the host library and written again: a refusal gives its number and leaves the room, what was read is written, and what a call gives by its number and its length. Assumes nothing.
use mathlib.Core.Path.{◌≡◌, refl, ap, subst, ◌∙◌}
use mathlib.Core.List.{List}
use Prim.Native.Nat.{ℕ}
use native.Mathlib.Omega.{arith}
use lib.ListN.{length, drop, get_or, replicate}
use borrow.Author.Tests.{eq-eqb, ne_eqb}
use Rattle.std.specs.Prelude.{Result, Ok, Err}
use Rattle.std.specs.Result.{result_unwrap_or}
use Rattle.std.proofs.lemmas.Bool.Decides.{nat_tests}
use Rattle.wire.specs.declared.refusal.Refusal.{Refusal}
use Rattle.wire.specs.declared.refusal.Refusal.TheVariants.{InvalidInput, Unsupported, Busy, MediaDisabled, InvalidHandle, InvalidAddress, InjectLimit, UnsupportedMailbox, InvalidLength, InvalidLog, SmallBuffer}
use Rattle.wire.specs.Refusal.{refusal_number, code_of, done_of}
use Rattle.wire.specs.Wire.{field, splice}
use Rattle.host_replies.specs.declared.counted.Kind.{Kind}
use Rattle.host_replies.specs.Counted.{Rewritten, Rewrites}
use Rattle.wire.specs.declared.done.Done.{Done}
use Rattle.wire.specs.Done.{Written, refused, Writes}
use Rattle.reply_records.specs.HostRewrites.{read_then, counted_again, written_again, again_call}
use Rattle.host_records.proofs.Laws.{writes_as}

-- ---- no refusal has the number 0,
pub refusal_not_zero : (r : Refusal) → refusal_number r ≡ 0 → ⊥
refusal_not_zero InvalidInput e = omega (arith, e)
refusal_not_zero Unsupported e = omega (arith, e)
refusal_not_zero Busy e = omega (arith, e)
refusal_not_zero MediaDisabled e = omega (arith, e)
refusal_not_zero InvalidHandle e = omega (arith, e)
refusal_not_zero InvalidAddress e = omega (arith, e)
refusal_not_zero InjectLimit e = omega (arith, e)
refusal_not_zero UnsupportedMailbox e = omega (arith, e)
refusal_not_zero InvalidLength e = omega (arith, e)
refusal_not_zero InvalidLog e = omega (arith, e)
refusal_not_zero SmallBuffer e = omega (arith, e)

-- and that Invalid Input alone has the number 2
pub invalid_input_alone : (r : Refusal) → (r ≡ InvalidInput → ⊥) → refusal_number r ≡ 2 → ⊥
invalid_input_alone InvalidInput other e = other refl
invalid_input_alone Unsupported other e = omega (arith, e)
invalid_input_alone Busy other e = omega (arith, e)
invalid_input_alone MediaDisabled other e = omega (arith, e)
invalid_input_alone InvalidHandle other e = omega (arith, e)
invalid_input_alone InvalidAddress other e = omega (arith, e)
invalid_input_alone InjectLimit other e = omega (arith, e)
invalid_input_alone UnsupportedMailbox other e = omega (arith, e)
invalid_input_alone InvalidLength other e = omega (arith, e)
invalid_input_alone InvalidLog other e = omega (arith, e)
invalid_input_alone SmallBuffer other e = omega (arith, e)

-- ---- what was read, written again
module _ {A : Type 0} (code : A → ℕ) (write : A → ℕ → Written) (x : A) (room : ℕ) {r : A} (told : r ≡ x) {before : List ℕ} where
  pub again_refused : {why : Refusal} {result : Result ℕ Refusal} → code r ≡ refusal_number why → result ≡ Err why → Writes (read_then code write x room) (done_of result) before before
  unfolding read_then splice
  again_refused {why} number is =
      rw is
      (writes_as {o = refused (refusal_number why)} (record { code = refl; size = refl; bytes = refl })
      (rw (← told) (rw (number, ne_eqb (refusal_number why) 0 (refusal_not_zero why)))))

  pub again_given : {d : Done} {after : List ℕ} → code r ≡ 0 → Writes (write r room) d before after → Writes (read_then code write x room) d before after
  unfolding read_then
  again_given none h = writes_as h (rw (← told) (rw (eq-eqb (code r) 0 none)))

-- records written again
pub counted_writes : (k : Kind) (count : ℕ) (header records : List ℕ) {taken : List ℕ} {r : Rewritten} {before after : List ℕ} → taken ≡ records → Rewrites k count header taken r before after
    → Writes (counted_again k count header records (length before)) (record { code = r.code; length = r.length }) before after
counted_writes k count header records {taken} {r} {before} {after} e h =
    subst (λ (l : List ℕ). Writes (counted_again k count header l (length before)) (record { code = r.code; length = r.length }) before after) e
    (record { code = h.code; size = h.size; bytes = h.bytes })

-- what a call gives, by its number and its length
pub written_parts : {o : Written} (r : Result ℕ Refusal) {code n : ℕ} {before after : List ℕ} → Writes o (done_of r) before after → code ≡ code_of r → n ≡ result_unwrap_or r 0
    → Writes o (record { code = code; length = n }) before after
written_parts (Ok k) h number size = record { code = number ∙ h.code; size = size ∙ h.size; bytes = h.bytes }
written_parts (Err e) h number size = record { code = number ∙ h.code; size = size ∙ h.size; bytes = h.bytes }

-- ---- by the opcode

pub by_opcode : (op asked : ℕ) (reply : List ℕ) (room : ℕ) {k : ℕ} {d : Done} {before after : List ℕ} → k ≡ op → Writes (written_again op asked reply room) d before after
    → Writes (written_again k asked reply room) d before after
by_opcode op asked reply room e h = writes_as h (ap (λ (x : ℕ). written_again x asked reply room) e)

-- at the record's fields
record Fields : Type 0 where
  op : ℕ
  asked : ℕ
  reply : List ℕ
  room : ℕ
  before : List ℕ

pub again_at : (bytes : List ℕ) {op asked : ℕ} {reply : List ℕ} {r : Done} {before after : List ℕ} → Writes (written_again op asked reply (length before)) r before after
    → op ≡ field bytes 2 2 → asked ≡ field bytes 4 4 → reply ≡ drop 13 bytes → length before ≡ field bytes 8 2 → before ≡ replicate (field bytes 8 2) (get_or bytes 10 0)
    → Writes (again_call bytes) r (replicate (field bytes 8 2) (get_or bytes 10 0)) after
again_at bytes {r = r} {after = after} h eo ea er el eb =
    subst (λ (x : Fields). Writes (written_again x.op x.asked x.reply x.room) r x.before after)
    (λ i. record { op = eo i; asked = ea i; reply = er i; room = el i; before = eb i }) h

-- what the line of a reading cites
pub ruleset lines = (nat_tests, refusal_not_zero)
