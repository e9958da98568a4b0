-- What the calls of the walk ensure, by their cases; and what a caller may conclude from the contract of `walk` (document 02, W-202). Assumes nothing.
use mathlib.Core.Path.{◌≡◌, sym, ap, ap₂, ◌∙◌}
use mathlib.Core.List.{List}
use Prim.Native.Nat.{ℕ, ◌+◌, ◌*◌, ◌/◌, ◌%◌, ◌^◌, ◌≤◌, ◌<◌}
use native.Mathlib.Decide.{ℕ_discrete}
use native.Mathlib.Omega.{arith}
use lib.ListN.{length}
use borrow.Author.Tests.{le-leb, lt-leb, eq-eqb, ne_eqb}
use Rattle.wire.specs.Returns.{success, small_buffer}
use Rattle.wire.specs.Wire.{splice}
use Rattle.poison.specs.State as P
use Rattle.poison.specs.State.{capacity}
use Rattle.poison.specs.Range.{records_bytes}
use Rattle.poison.proofs.Laws.{length_records}
use Rattle.mailbox.specs.declared.device.Device.{Device}
use Rattle.mailbox.specs.declared.device.Answer.{Answer}
use Rattle.mailbox.specs.Outcome.{Outcome}
use Rattle.mailbox.specs.State.{ValidDevice, lines_of, state_of}
use Rattle.mailbox.specs.Mailbox.{outcome}
use Rattle.list_commands.specs.PoisonCommands.{line_of, range_code, list_reply}
use Rattle.mailbox.specs.Relations.{Answered}
use Rattle.mailbox.proofs.Laws.{range_ends}
use Rattle.wire.specs.declared.done.Done.{Done}
use Rattle.wire.specs.Done.{Written, written, refused, Writes}
use Rattle.labels.specs.Labels.{zero_area}
use Rattle.host.specs.Walking.{walk_of, range_answer, walk_on, walk_answer, Askable, RangeAsked, Wrote}
use Rattle.host_requests.specs.Requests.{get_poison_list, opcode, payload}
use Rattle.host.proofs.WalkReplies.{answer_refused, answer_taken}

-- ---- a request
-- what asking ensures, from the device's answer to a payload that is the request's, on the device that the call finds (document 02, W-207: its lines and its list are those of the device)
pub asked : (d : Device) (address n : ℕ) {found : Device} {bytes area before after : List ℕ} {r : Answer} → bytes ≡ payload (get_poison_list address n) → area ≡ zero_area
    → Answered (outcome (state_of d) 0x4300 bytes 0 area (length before)) found r before after
    → Writes (range_answer d address n (length before)) (record { code = r.code; length = r.length }) before after
unfolding opcode
asked d address n {found} {bytes} {area} {before} {after} {r} e z w =
    let f : outcome (state_of d) 0x4300 bytes 0 area (length before) ≡ outcome (state_of d) 0x4300 (payload (get_poison_list address n)) 0 zero_area (length before)
    = ap₂ (λ (l k : List ℕ). outcome (state_of d) 0x4300 l 0 k (length before)) e z in
    record {
      code = w.code ∙ ap (λ (x : Outcome). x.code) f;
      size = w.size ∙ ap (λ (x : Outcome). length x.reply) f;
      bytes = w.bytes ∙ ap (λ (x : Outcome). splice 0 x.reply before) f;
    }

-- ---- a range of the device's lines
few_lines : {d : Device} → ValidDevice d → lines_of (state_of d) ≤ capacity
few_lines v = omega (arith, v.few_units)

-- the device does not refuse it
range_taken : (lines a n : ℕ) → a + n ≤ lines → range_code lines (a * 64) n ≡ 0
unfolding range_code
range_taken lines a n h =
    let e : a * 64 % 64 ≡ 0 = omega arith in
    let i : a * 64 / 64 + n ≤ lines = omega arith in
    simp (eq-eqb (a * 64 % 64) 0 e, le-leb (a * 64 / 64 + n) lines i)

pub range_asked : {d : Device} {a n : ℕ} {r : Done} {before after : List ℕ} → Askable d a n → 2048 ≤ length before
    → Writes (range_answer d (a * 64) n (length before)) r before after → RangeAsked d a n r.length before after
range_asked {d} {a} {n} {r} {before} {after} q room w =
    let f = few_lines q.valid in
    let i = q.inside in
    let o = answer_taken d (a * 64) n (length before) (omega arith) (omega arith) room (range_taken (lines_of (state_of d)) a n i) in
    let e : line_of (a * 64) ≡ a = omega arith in
    record {
      size = w.size ∙ ap (λ (x : Written). length x.bytes) o ∙ ap (λ (x : ℕ). length (list_reply (P.state_of d.poison) x n)) e;
      bytes = w.bytes ∙ ap (λ (x : Written). splice 0 x.bytes before) o ∙ ap (λ (x : ℕ). splice 0 (list_reply (P.state_of d.poison) x n) before) e;
    }

-- ---- the request for the whole range
-- its number is that of the checks of the range
pub asked_code : (d : Device) (address n : ℕ) {r : Done} {before after : List ℕ} → address < 2 ^ 64 → n < 2 ^ 64 → 2048 ≤ length before
    → Writes (range_answer d address n (length before)) r before after → r.code ≡ range_code (lines_of (state_of d)) address n
asked_code d address n {r} {before} {after} ha hn room w = w.code ∙ go (ℕ_discrete (range_code (lines_of (state_of d)) address n) 0)
  where
    go : Dec (range_code (lines_of (state_of d)) address n ≡ 0) → (range_answer d address n (length before)).code ≡ range_code (lines_of (state_of d)) address n
    go (yes z) = ap (λ (x : Written). x.code) (answer_taken d address n (length before) ha hn room z) ∙ sym z
    go (no f) = ap (λ (x : Written). x.code) (answer_refused d address n (length before) ha hn room f)

-- where it is 0, the range is one of the device's lines
pub range_askable : (d : Device) (address n : ℕ) → ValidDevice d → range_code (lines_of (state_of d)) address n ≡ 0 → Askable d (line_of address) n
range_askable d address n v e = record { valid = v; inside = range_ends (lines_of (state_of d)) address n e }

pub range_few : (d : Device) (address n : ℕ) → ValidDevice d → range_code (lines_of (state_of d)) address n ≡ 0 → line_of address + n ≤ capacity
range_few d address n v e = let f = few_lines v in let h = range_ends (lines_of (state_of d)) address n e in omega arith

-- ---- the answers of a walk
module _ (d : Device) (address n room : ℕ) where
  abbrev code : ℕ
  code = range_code (lines_of (state_of d)) address n

  abbrev records : List P.Entry
  records = walk_of d (line_of address) n

  pub walk_refused : (code ≡ 0 → ⊥) → walk_answer d address n room ≡ refused code
  unfolding walk_on
  walk_refused f = simp (ne_eqb code 0 f)

  module _ (z : code ≡ 0) where
    pub walk_many : room < 16 * length records → walk_answer d address n room ≡ refused small_buffer
    unfolding walk_on
    walk_many h = simp (eq-eqb code 0 z, lt-leb (16 * length records) room h)

    walk_given : 16 * length records ≤ room → walk_answer d address n room ≡ written (records_bytes records)
    unfolding walk_on
    walk_given h = simp (eq-eqb code 0 z, le-leb (16 * length records) room h)

module _ (d : Device) (address n : ℕ) {before : List ℕ} where
  -- a refusal: length 0, and the room as it was
  refusal : (code : ℕ) → walk_answer d address n (length before) ≡ refused code
      → Writes (walk_answer d address n (length before)) (record { code = code; length = 0 }) before before
  unfolding splice
  refusal code e =
      record {
        code = sym (ap (λ (x : Written). x.code) e);
        size = sym (ap (λ (x : Written). length x.bytes) e);
        bytes = sym (ap (λ (x : Written). splice 0 x.bytes before) e);
      }

  pub by_device : {code : ℕ} → code ≡ range_code (lines_of (state_of d)) address n → (code ≡ 0 → ⊥)
      → Writes (walk_answer d address n (length before)) (record { code = code; length = 0 }) before before
  by_device {code} e f = refusal code (walk_refused d address n (length before) (λ z. f (e ∙ z)) ∙ ap refused (sym e))

  pub too_many : range_code (lines_of (state_of d)) address n ≡ 0 → length before < 16 * length (walk_of d (line_of address) n)
      → Writes (walk_answer d address n (length before)) (record { code = small_buffer; length = 0 }) before before
  too_many z h = refusal small_buffer (walk_many d address n (length before) z h)

  pub given : {r : ℕ} {after : List ℕ} → range_code (lines_of (state_of d)) address n ≡ 0 → 16 * length (walk_of d (line_of address) n) ≤ length before
      → Wrote (walk_of d (line_of address) n) 0 r before after → Writes (walk_answer d address n (length before)) (record { code = success; length = r }) before after
  given {r} {after} z h w =
      let e = walk_given d address n (length before) z h in
      let l = length_records (walk_of d (line_of address) n) in
      let m : r ≡ length (records_bytes (walk_of d (line_of address) n)) = omega (arith, w.next) in
      record {
        code = sym (ap (λ (x : Written). x.code) e);
        size = m ∙ sym (ap (λ (x : Written). length x.bytes) e);
        bytes = w.bytes ∙ sym (ap (λ (x : Written). splice 0 x.bytes before) e);
      }
