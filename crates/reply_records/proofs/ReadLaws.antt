-- Replies that are read, and their lines: a refusal's, the numbers and then the records, one after another. Assumes nothing.
use mathlib.Core.Path.{◌≡◌, refl, sym, ap, subst, ◌∙◌}
use mathlib.Core.Bool.{Bool, true, false, cond}
use mathlib.Core.List.{List, [], ◌∷◌, ◌++◌}
use Prim.Native.Nat.{ℕ, ◌+◌, ◌*◌, ◌/◌, ◌≤◌, ◌<◌}
use native.Mathlib.Numerals.{add-one}
use native.Mathlib.Nat.{mul-one, mul-add, mul-le-mul_left}
use native.Mathlib.Omega.{arith}
use lib.Dec.{eqb, ltb}
use lib.ListN.{length, drop, take, get_or}
use lib.Seq.{take_all}
use borrow.Author.Tests.{eq-eqb, ne_eqb, ltb-true}
use Rattle.wire.specs.Wire.{field, part}
use Rattle.wire.proofs.Laws.{length_part}
use Rattle.mailbox.specs.declared.device.Device.{Device}
use Rattle.mailbox.specs.State.{ValidDevice, state_of}
use Rattle.host_replies.specs.declared.counted.Kind.{Kind}
use Rattle.host_replies.specs.declared.reply.SupportedLog.{SupportedLog}
use Rattle.host_replies.specs.declared.reply.PoisonRecord.{PoisonRecord}
use Rattle.host_replies.specs.declared.counted.Kind.TheVariants.{EventRecords, SupportedLogs, PoisonList}
use Rattle.host_replies.specs.Replies.{event_record, supported_log, poison_record}
use Rattle.protocol.specs.Text.{hex, column, columns, line_end, numbers_line}
use Rattle.protocol.specs.Records.{RP}
use Rattle.protocol.specs.Relations.{Puts, PutsLine, Serves}
use Rattle.protocol.proofs.Laws.{puts_then, puts_as, puts_line_as, length_hex, length_column, length_columns}
use Rattle.reply_records.specs.HostReplies.{each_of, record_columns, record_room, read_line, refusal_line, line_of, reply_line, serve_reply}

-- ---- what was read, and its line
module _ {A : Type 0} (code place : A → ℕ) (line : A → List ℕ) (x : A) {r : A} (told : r ≡ x) {used e : ℕ} {before after : List ℕ} where
  pub line_given : code r ≡ 0 → PutsLine used (line r) before after e → PutsLine used (line_of code place line x) before after e
  unfolding line_of
  line_given none put =
      puts_line_as put
      (ap (λ (t : Bool). cond t (line r) (refusal_line (code r) (place r))) (sym (eq-eqb (code r) 0 none)) ∙ ap (λ (y : A). cond (eqb (code y) 0) (line y) (refusal_line (code y) (place y))) told)

-- a line of numbers and of what comes after them, each piece after the one before it
pub read_put : (numbers more : List ℕ) {used h m e : ℕ} {d₀ d₁ d₂ d₃ : List ℕ} → Puts used (RP ++ columns numbers) d₀ d₁ h → Puts h more d₁ d₂ m → Puts m line_end d₂ d₃ e → m < length d₀
    → PutsLine used (read_line numbers more) d₀ d₃ e
read_put numbers more start rest end room =
    record { puts = puts_then (puts_then start rest (omega (arith, rest.end))) end (omega arith); room = omega (arith, end.end) }

-- ---- records one after another
pub each_none : (f : ℕ → List ℕ) → [] ≡ each_of f 0
unfolding each_of
each_none f = refl

pub each_more : (f : ℕ → List ℕ) (i : ℕ) → each_of f i ++ f i ≡ each_of f (i + 1)
unfolding each_of
each_more f i = ap (each_of f) (sym (add-one i))

-- an event record has at most 128 bytes
pub event_short : (rs : List ℕ) (i : ℕ) → length (event_record rs i) ≤ 128
unfolding event_record
event_short rs i = go (ltb i (length rs / 128)) refl
  where
    go : (t : Bool) → ltb i (length rs / 128) ≡ t → length (cond t (part (128 * i) 128 rs) []) ≤ 128
    go true e =
        let below = ltb-true i (length rs / 128) e in
        let long : length (part (128 * i) 128 rs) ≡ 128 = length_part (128 * i) 128 rs (omega (arith, below)) in
        omega (arith, long)
    go false e = omega arith

-- room for one record more
pub room_step : (room i n : ℕ) → i < n → room * i + room ≤ room * n
room_step room i n h =
    let more : room * (i + 1) ≡ room * i + room = mul-add room i 1 ∙ ap (λ (k : ℕ). room * i + k) (mul-one room) in
    let least : room * (i + 1) ≤ room * n = mul-le-mul_left room (omega arith) in
    omega (arith, more, least)

-- ---- a refusal
pub refusal_placed : (code place : ℕ) → code ≡ 2 → numbers_line RP (code ∷ place ∷ []) ≡ refusal_line code place
unfolding refusal_line
refusal_placed code place e = sym (ap (λ (t : Bool). cond t (numbers_line RP (code ∷ place ∷ [])) (numbers_line RP (code ∷ []))) (eq-eqb code 2 e))

pub refusal_plain : (code place : ℕ) → (code ≡ 2 → ⊥) → numbers_line RP (code ∷ []) ≡ refusal_line code place
unfolding refusal_line
refusal_plain code place e = sym (ap (λ (t : Bool). cond t (numbers_line RP (code ∷ place ∷ [])) (numbers_line RP (code ∷ []))) (ne_eqb code 2 e))

-- ---- a record's columns put, and the room that they take
pub put_event : (records : List ℕ) (i : ℕ) {at r n : ℕ} {bytes before after : List ℕ} → Puts at (32 ∷ hex (take n bytes)) before after r → bytes ≡ event_record records i → n ≡ length bytes
    → Puts at (record_columns EventRecords records i) before after r × (r ≤ at + 257)
unfolding record_columns
put_event records i {at} {r} {n} {bytes} {before} {after} put told all =
    let same : Puts at (32 ∷ hex (event_record records i)) before after r = puts_as put (ap (λ (l : List ℕ). 32 ∷ hex l) (take_all n bytes (omega (arith, all)) ∙ told)) in
    (same, omega (arith, same.end, length_hex (event_record records i), event_short records i))

pub put_log : (records : List ℕ) (i : ℕ) {x : SupportedLog} {at m r : ℕ} {d₀ d₁ d₂ : List ℕ} → Puts at (32 ∷ hex (take 16 x.identifier)) d₀ d₁ m → Puts m (column x.size) d₁ d₂ r
    → x ≡ supported_log records i → length x.identifier ≡ 16 → at + 54 ≤ length d₀ → Puts at (record_columns SupportedLogs records i) d₀ d₂ r × (r ≤ at + 54)
unfolding record_columns
put_log records i {x} {at} {m} {r} {d₀} {d₁} {d₂} put number told long room =
    let first : Puts at (32 ∷ hex x.identifier) d₀ d₁ m = puts_as put (ap (λ (l : List ℕ). 32 ∷ hex l) (take_all 16 x.identifier (omega (arith, long)))) in
    let wide = length_hex x.identifier in
    let one = length_column x.size in (
      puts_as (puts_then first number (omega (arith, first.end, wide, one, long))) (λ j. (32 ∷ hex (told j).identifier) ++ column (told j).size),
      omega (arith, first.end, wide, one, long, number.end),
    )

pub put_poison : (records : List ℕ) (i : ℕ) {x : PoisonRecord} {at r : ℕ} {before after : List ℕ} → Puts at (columns (x.address ∷ x.kind ∷ x.lines ∷ [])) before after r
    → x ≡ poison_record records i → Puts at (record_columns PoisonList records i) before after r × (r ≤ at + 63)
unfolding record_columns
put_poison records i {x} put told =
    (puts_as put (λ j. columns ((told j).address ∷ (told j).kind ∷ (told j).lines ∷ [])), omega (arith, put.end, length_columns (x.address ∷ x.kind ∷ x.lines ∷ [])))

pub by_kind : (k : Kind) (records : List ℕ) (i : ℕ) {kind : Kind} {at r : ℕ} {before after : List ℕ} → kind ≡ k → Puts at (record_columns k records i) before after r × (r ≤ at + record_room k)
    → Puts at (record_columns kind records i) before after r × (r ≤ at + record_room kind)
by_kind k records i {at = at} {r = r} {before = before} {after = after} e h =
    subst (λ (x : Kind). Puts at (record_columns x records i) before after r × (r ≤ at + record_room x)) (sym e) h

-- five settings, one by one
pub five : (l : List ℕ) → length l ≡ 5 → get_or l 0 0 ∷ get_or l 1 0 ∷ get_or l 2 0 ∷ get_or l 3 0 ∷ get_or l 4 0 ∷ [] ≡ l
five [] e = absurd (omega (arith, e))
five (a ∷ []) e = absurd (omega (arith, e))
five (a ∷ b ∷ []) e = absurd (omega (arith, e))
five (a ∷ b ∷ c ∷ []) e = absurd (omega (arith, e))
five (a ∷ b ∷ c ∷ d ∷ []) e = absurd (omega (arith, e))
five (a ∷ b ∷ c ∷ d ∷ f ∷ []) e = refl
five (a ∷ b ∷ c ∷ d ∷ f ∷ g ∷ l) e = absurd (omega (arith, e))

-- the record served
pub reply_served : (bytes : List ℕ) (d : Device) {op asked : ℕ} {reply : List ℕ} {used e : ℕ} {before after : List ℕ} → PutsLine used (reply_line op asked reply) before after e
    → op ≡ field bytes 2 2 → asked ≡ field bytes 4 4 → reply ≡ drop 10 bytes → ValidDevice d → Serves (serve_reply (state_of d) bytes) used (record { used = e; device = d }) before after
unfolding serve_reply
reply_served bytes d put eo ea er valid =
    record { line = puts_line_as put (λ i. reply_line (eo i) (ea i) (er i)); next = refl; valid = valid }
