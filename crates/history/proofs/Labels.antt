-- The label area of W-206 (document 02): its examples hold of the definitions, one statement over the table of `specs/Labels.antt`, by computation; and the two commands of the code, by the bytes that lie in
-- the buffers after each call (what the definitions say of them is in `mailbox/proofs/Labels.antt`). Assumes nothing.
use mathlib.Core.Path.{◌≡◌, refl, sym, ap, ◌∙◌}
use mathlib.Core.List.{List, map}
use Prim.Native.Nat.{ℕ}
use native.Mathlib.Decide.{ℕ_discrete}
use borrow.Author.Tests.{ne_eqb}
use lib.ListN.{length}
use Rattle.wire.specs.Returns.{success}
use Rattle.labels.specs.Labels.{label_data, SameRange, Apart}
use Rattle.mailbox.specs.State.{state_of}
use Rattle.mailbox.specs.declared.device.Device.{Device}
use Rattle.mailbox.specs.declared.device.Answer.{Answer}
use Rattle.mailbox.specs.Mailbox.{outcome, area_after}
use Rattle.mailbox.specs.Ending.{ended, AfterEnding}
use Rattle.mailbox.specs.Relations.{Answered}
use Rattle.mailbox.proofs.Laws.{other_leaves, refusal_leaves, set_then_get, set_then_apart}
use Rattle.history.specs.Cases.{given_of, stated_of}
use Rattle.history.specs.Labels.{Untouched, none, more, label_cases}
use Rattle.history.specs.Ran.{reply_in}
use Rattle.history.proofs.Computing.{rules}
use Rattle.history.proofs.Drained.{reply_read}

-- every row of the table: what the definitions give is what the document says
pub label_cases_hold : map given_of label_cases ≡ map stated_of label_cases
unfolding label_cases rules
label_cases_hold = refl

-- Commands of which none is a Set LSA answered Success leave the area: another command, and a refusal.
pub untouched_kept : {area left : List ℕ} → Untouched area left → left ≡ area
untouched_kept (none left e) = e
untouched_kept {area} (more lent left before opcode payload code spared e) = e ∙ sym (leaves (ℕ_discrete opcode 0x4103)) ∙ untouched_kept before
  where
    leaves : Dec (opcode ≡ 0x4103) → lent ≡ area_after opcode payload code lent
    leaves (yes o) = refusal_leaves opcode payload code lent (spared o)
    leaves (no f) = other_leaves opcode payload code lent (ne_eqb opcode 0x4103 f)

-- A call of `command` on a device d with a Set LSA, answered Success: `area` is what it was lent, `left` what it left of it.
module _ (d : Device) (p : List ℕ) (time : ℕ) (area left before after : List ℕ) (a : Answer) (set : AfterEnding d time (λ (f : Device). Answered (outcome (state_of d) 0x4103 p time area (length before)) f a before after))
    (wrote : left ≡ area_after 0x4103 p a.code area) (done : a.code ≡ success) where
  accepted : (outcome (state_of d) 0x4103 p time area (length before)).code ≡ success
  accepted = sym set.done.code ∙ done

  -- Then other commands, which do not write it, on any devices; then a call with a Get LSA on a device e that is lent what they left, answered Success: its buffer holds `rest`.
  module _ (lent : List ℕ) (between : Untouched left lent) (e : Device) (q : List ℕ) (t : ℕ) (room rest : List ℕ) (b : Answer)
      (get : AfterEnding e t (λ (f : Device). Answered (outcome (state_of e) 0x4102 q t lent (length room)) f b room rest)) (told : b.code ≡ success) where
    untouched : lent ≡ area_after 0x4103 p success area
    untouched = untouched_kept between ∙ wrote ∙ ap (λ (n : ℕ). area_after 0x4103 p n area) done

    -- of the same range: the bytes in the buffer are the data
    pub code_set_then_get : SameRange p q → reply_in rest b ≡ label_data p
    code_set_then_get same =
        reply_read (outcome (state_of e) 0x4102 q t lent (length room)) get.found b room rest get.done
        ∙ set_then_get (ended (state_of d) time) p time area (length before) accepted lent untouched q same (ended (state_of e) t) t (length room) (sym get.done.code ∙ told)

    -- of a range apart: they are those that such a Get gave of the area before the Set, on a device c
    pub code_set_then_apart : Apart p q → (c : Device) (u : ℕ) (held was : List ℕ) (f : Answer) → AfterEnding c u (λ (x : Device). Answered (outcome (state_of c) 0x4102 q u area (length held)) x f held was) → f.code ≡ success
        → reply_in rest b ≡ reply_in was f
    code_set_then_apart apart c u held was f asked gave =
        reply_read (outcome (state_of e) 0x4102 q t lent (length room)) get.found b room rest get.done
        ∙ set_then_apart (ended (state_of d) time) p time area (length before) accepted lent untouched q apart (ended (state_of c) u) (ended (state_of e) t) u (length held) t (length room) (sym asked.done.code ∙ gave) (sym get.done.code ∙ told)
        ∙ sym (reply_read (outcome (state_of c) 0x4102 q u area (length held)) asked.found f held was asked.done)
