-- The request for a range of lines is the one meant, and what a reader finds in the device's reply to it: whether the range is halved, and the records.
-- Assumes nothing.
use mathlib.Core.Path.{◌≡◌, refl, sym, ap, ◌∙◌}
use mathlib.Core.Bool.{Bool, true, false, ◌&&◌, cond}
use mathlib.Core.List.{List, [], ◌∷◌, ◌++◌}
use Prim.Native.Nat.{ℕ, ◌+◌, ◌*◌, ◌/◌, ◌%◌, ◌^◌, ◌≤◌, ◌<◌}
use native.Mathlib.Omega.{arith}
use lib.Dec.{ltb, eqb}
use lib.Bits.{bit_and, and_mask}
use lib.ListN.{length, take, get_or, length-append, length-take, length-replicate}
use borrow.Author.Tests.{ltb-false, eq-eqb, ne_eqb}
use Rattle.wire.specs.Wire.{le, part, splice}
use Rattle.wire.proofs.Laws.{length_splice, joined, copied}
use Rattle.wire.proofs.Splice.{part_written}
use Rattle.poison.specs.State as P
use Rattle.poison.specs.State.{Entry, PoisonState}
use Rattle.poison.specs.Range.{sharing, records_bytes}
use Rattle.poison.proofs.Laws.{length_records}
use Rattle.mailbox.specs.declared.device.Device.{Device}
use Rattle.commands.specs.Numbers.{poison_records}
use Rattle.mailbox.specs.Outcome.{Outcome}
use Rattle.mailbox.specs.State.{lines_of, state_of}
use Rattle.list_commands.specs.PoisonCommands.{line_of, range_code, list_flags, list_header, list_reply}
use Rattle.wire.specs.declared.done.Done.{Done}
use Rattle.wire.specs.Done.{Written, Writes, written, refused}
use Rattle.host_requests.specs.Requests.{payload, countable, build}
use Rattle.host_requests.specs.Requests as Q
use Rattle.host_requests.specs.Meant.{meant, list_of}
use Rattle.host_requests.proofs.Laws.{list_long, list_builds, taken}
use Rattle.host.specs.Walk.{halves, first_half}
use Rattle.labels.specs.Labels.{label_size, zero_area}
use Rattle.host.specs.Walking.{range_answer}

-- ---- the step of the walk, as the code finds it
module _ (reply : List ℕ) (n : ℕ) where
  pub half_empty : length reply ≡ 0 → 0 ≡ first_half reply n
  unfolding first_half
  half_empty h = go reply h
    where
      go : (l : List ℕ) → length l ≡ 0 → 0 ≡ first_half l n
      go [] e = refl
      go (x ∷ l) e = absurd (omega arith)

  pub half_clear : bit_and (get_or reply 0 0) 1 ≡ 0 → 0 ≡ first_half reply n
  unfolding first_half
  half_clear h = simp (sym (and_mask (get_or reply 0 0) 1) ∙ h)

  pub half_set : (bit_and (get_or reply 0 0) 1 ≡ 0 → ⊥) → n / 2 ≡ first_half reply n
  unfolding first_half
  half_set f = let odd : get_or reply 0 0 % 2 ≡ 0 → ⊥ = λ e. f (and_mask (get_or reply 0 0) 1 ∙ e) in simp (eq-eqb (get_or reply 0 0 % 2) 1 (omega arith)) (go (ltb 1 n) refl)
    where
      go : (b : Bool) → ltb 1 n ≡ b → n / 2 ≡ cond b (n / 2) 0
      go true e = refl
      go false e = let h = ltb-false 1 n e in omega arith

-- ---- the request
-- as the code builds it, into a room of its size
pub request_built : (address n : ℕ) {r : Done} {before after : List ℕ} → length before ≡ 16 → Writes (build (Q.get_poison_list address n) (length before)) r before after
    → after ≡ payload (Q.get_poison_list address n)
request_built address n {before = before} e w =
    w.bytes ∙ ap (λ (o : Written). splice 0 o.bytes before) (list_builds address n (length before) (omega arith))
    ∙ copied 16 (payload (Q.get_poison_list address n)) before (list_long address n) e

-- ---- the device's answer to it, which is the one meant
module _ (d : Device) (address n room : ℕ) (ha : address < 2 ^ 64) (hn : n < 2 ^ 64) (hr : 2048 ≤ room) where
  abbrev code : ℕ
  code = range_code (lines_of (state_of d)) address n

  answer_meant : range_answer d address n room ≡ record { code = (list_of (state_of d) address n).code; bytes = (list_of (state_of d) address n).bytes }
  unfolding countable meant
  answer_meant = ap (λ (o : Outcome). record { code = o.code; bytes = o.reply }) ((taken (Q.get_poison_list address n) refl (omega arith, omega arith)).outcome (state_of d) 0 zero_area (length-replicate {A = ℕ} label_size 0) room hr)

  -- the number of the checks of the range, where it is not 0
  pub answer_refused : (code ≡ 0 → ⊥) → range_answer d address n room ≡ refused code
  answer_refused f = answer_meant ∙ simp (ne_eqb code 0 f)

  -- else the reply for the range
  pub answer_taken : code ≡ 0 → range_answer d address n room ≡ written (list_reply (P.state_of d.poison) (line_of address) n)
  answer_taken z = answer_meant ∙ simp z

-- ---- the reply for n lines from a on
module _ (s : PoisonState) (a n : ℕ) where
  -- the entries that it carries
  abbrev carried : List Entry
  carried = take poison_records (sharing a n s.entries)

  abbrev head : List ℕ
  head = list_header s.overflow s.overflow_time (length (sharing a n s.entries)) (length carried)

  length_head : length head ≡ 32
  unfolding list_header le
  length_head = refl

  pub length_reply : length (list_reply s a n) ≡ 32 + 16 * length carried
  unfolding list_reply
  length_reply = let h = length_head in let r = length_records carried in simp length-append (omega arith)

  pub few_carried : length carried ≤ 126
  few_carried = simp length-take (omega arith)

  -- bit 0 of its byte 0
  flag_bit : (rest : List ℕ) → get_or (list_reply s a n ++ rest) 0 0 % 2 ≡ cond (ltb poison_records (length (sharing a n s.entries))) 1 0
  unfolding list_reply list_header le list_flags
  flag_bit rest = go (ltb poison_records (length (sharing a n s.entries))) s.overflow
    where
      go : (b o : Bool) → (cond b 1 0 + cond o 2 0) % 256 % 2 ≡ cond b 1 0
      go true true = refl
      go true false = refl
      go false true = refl
      go false false = refl

  -- The step of the walk, on any bytes that begin with the device's reply: the first half where the walk halves the range, else 0.
  pub half_of_reply : (rest : List ℕ) → first_half (list_reply s a n ++ rest) n ≡ cond (halves poison_records s.entries a n) (n / 2) 0
  unfolding first_half halves
  half_of_reply rest = rw (flag_bit rest) (go (ltb poison_records (length (sharing a n s.entries))))
    where
      go : (b : Bool) → cond (eqb (cond b 1 0) 1 && ltb 1 n) (n / 2) 0 ≡ cond (b && ltb 1 n) (n / 2) 0
      go true = refl
      go false = refl

  -- its records, in a buffer that has room for every reply
  pub records_part : (xs : List ℕ) → 2048 ≤ length xs → part 32 (16 * length carried) (splice 0 (list_reply s a n) xs) ≡ records_bytes carried
  unfolding list_reply
  records_part xs h =
      let r = length_records carried in
      let k = few_carried in
      let l = length_head in
      ap (part 32 (16 * length carried)) (sym (joined 0 32 head (records_bytes carried) xs (omega arith) (omega arith)))
      ∙ ap (λ (j : ℕ). part 32 j (splice 32 (records_bytes carried) (splice 0 head xs))) (sym r)
      ∙ part_written 32 (records_bytes carried) (splice 0 head xs) (rw (length_splice 0 head xs (omega arith)) (omega arith))

-- the three cases of the step, for the check
pub ruleset half_cases = (half_empty, half_clear, half_set)
