-- The host library's calls, each with its line; handles and other fields taken out of a record. Assumes nothing.
use mathlib.Core.Path.{◌≡◌, refl, sym, ap, ap₂, subst, ◌∙◌}
use mathlib.Core.List.{List, [], ◌∷◌, ◌++◌}
use Prim.Native.Nat.{ℕ, zero, suc, ◌+◌, ◌*◌, ◌<◌}
use native.Mathlib.Numerals.{add-one}
use native.Mathlib.Omega.{arith}
use lib.ListN.{length, take, set, replicate}
use lib.Seq.{take-suc-set}
use Rattle.wire.specs.Wire.{field}
use Rattle.events.specs.Clear.{handles_at}
use Rattle.mailbox.specs.declared.device.Device.{Device}
use Rattle.mailbox.specs.State.{ValidDevice, state_of}
use Rattle.wire.specs.declared.done.Done.{Done}
use Rattle.wire.specs.Done.{Written, Writes}
use Rattle.std.specs.Prelude.{Result, Ok, Err}
use Rattle.std.specs.Result.{result_unwrap_or}
use Rattle.wire.specs.Refusal.{code_of, done_of}
use Rattle.wire.specs.declared.refusal.Refusal.{Refusal}
use Rattle.protocol.specs.Relations.{PutsLine, Serves}
use Rattle.protocol.proofs.Laws.{puts_line_as}
use Rattle.host_records.specs.Lines.{buffer_line, written_line}

-- ---- what a call wrote

-- at another definition
pub writes_as : {o p : Written} {r : Done} {before after : List ℕ} → Writes o r before after → p ≡ o → Writes p r before after
writes_as {r = r} {before = before} {after = after} h e = subst (λ (x : Written). Writes x r before after) (sym e) h

-- its line, the device staying as it is
pub written_served : (a b fill room : ℕ) (o : Written) (d : Device) {r : Done} {reply before after : List ℕ} {used e : ℕ} → Writes o r (replicate room fill) reply
    → PutsLine used (buffer_line (a ∷ b ∷ []) r.code r.length fill reply) before after e → ValidDevice d
    → Serves (record { line = written_line (a ∷ b ∷ []) fill room o; next = state_of d }) used (record { used = e; device = d }) before after
unfolding written_line
written_served a b fill room o d told put valid =
    record {
      line = puts_line_as put (λ i. buffer_line (a ∷ b ∷ []) (told.code i) (told.size i) fill (told.bytes i));
      next = refl;
      valid = valid;
    }

-- the same of a call that answers how many bytes it wrote, or why it refuses: its number and its length are those that the result stands for
told_code : (r : Result ℕ Refusal) → code_of r ≡ (done_of r).code
told_code (Ok n) = refl
told_code (Err e) = refl

pub told_length : (r : Result ℕ Refusal) → result_unwrap_or r 0 ≡ (done_of r).length
told_length (Ok n) = refl
told_length (Err e) = refl

pub result_served : (a b fill room : ℕ) (o : Written) (d : Device) (r : Result ℕ Refusal) {code n : ℕ} {reply before after : List ℕ} {used e : ℕ} → code ≡ code_of r → n ≡ result_unwrap_or r 0
    → Writes o (done_of r) (replicate room fill) reply → PutsLine used (buffer_line (a ∷ b ∷ []) code n fill reply) before after e → ValidDevice d
    → Serves (record { line = written_line (a ∷ b ∷ []) fill room o; next = state_of d }) used (record { used = e; device = d }) before after
result_served a b fill room o d r {reply = reply} c n told put valid =
    written_served a b fill room o d told (puts_line_as put (λ i. buffer_line (a ∷ b ∷ []) ((c ∙ told_code r) i) ((n ∙ told_length r) i) fill reply)) valid

-- ---- fields taken out of a record

-- one handle more
handles_more : (i at : ℕ) (p : List ℕ) → handles_at (suc i) at p ≡ handles_at i at p ++ (field p (at + 2 * i) 2 ∷ [])
unfolding handles_at
handles_more zero at p = let none : at + 2 * 0 ≡ at = omega arith in ap (λ (k : ℕ). field p k 2 ∷ []) (sym none)
handles_more (suc i) at p =
    let next : at + 2 + 2 * i ≡ at + 2 * suc i = omega arith in
    ap (λ (l : List ℕ). field p at 2 ∷ l) (handles_more i (at + 2) p ∙ ap (λ (k : ℕ). handles_at i (at + 2) p ++ (field p k 2 ∷ [])) next)

pub handles_turn : (i x : ℕ) (p handles : List ℕ) → i < length handles → x ≡ field p (11 + 2 * i) 2 → take i handles ≡ handles_at i 11 p
    → take (i + 1) (set handles i x) ≡ handles_at (i + 1) 11 p
handles_turn i x p handles fits e h =
    ap (λ (k : ℕ). take k (set handles i x)) (add-one i)
    ∙ take-suc-set handles i x fits
    ∙ ap₂ (λ (l : List ℕ) (y : ℕ). l ++ (y ∷ [])) h e
    ∙ sym (handles_more i 11 p)
    ∙ ap (λ (k : ℕ). handles_at k 11 p) (sym (add-one i))
