-- Every reply that the device gives on Success is accepted by the host's reading of its opcode (document 02, W-202), from any device reached by calls on a new
-- one: the numbers of each such device have the widths of document 01's fields (`plain_reached`), which is the premise of the host library's `accepted`. Then
-- the same of the code and its buffers. Assumes nothing.
use Prim.Native.Nat.{ℕ, ◌<◌, ◌^◌}
use mathlib.Core.Path.{◌≡◌, sym, ap, ◌∙◌, subst}
use mathlib.Core.List.{List}
use native.Mathlib.Omega.{arith}
use lib.Dec.{eqb}
use lib.ListN.{length}
use Rattle.wire.specs.Wire.{field}
use Rattle.wire.proofs.Laws.{either}
use Rattle.poison.specs.Paper.{Paper, blank_paper}
use Rattle.events.specs.Log.{LogState, new}
use Rattle.events.specs.Report.{has_room, reported}
use Rattle.events.specs.Clear.{ClearedState, clear_log_code, clear_size, without, clear_log}
use Rattle.events.proofs.Laws.{Whole, whole_new, whole_emptied, whole_reported, whole_cleared}
use Rattle.mailbox.specs.State.{lines_of, state_of}
use Rattle.mailbox.specs.Outcome.{Outcome}
use Rattle.mailbox.specs.Mailbox.{outcome}
use Rattle.mailbox.specs.Pool.{pool_answer}
use Rattle.mailbox.specs.DeviceCalls.{make}
use Rattle.events.specs.Emptied.{emptied}
use Rattle.mailbox.specs.Ending.{AfterEnding}
use Rattle.mailbox.specs.Relations.{Answered}
use Rattle.mailbox.specs.declared.device.Device.{Device}
use Rattle.mailbox.specs.declared.device.Answer.{Answer}
use Rattle.host_replies.specs.DeviceReplies.{reading_told, reading_code, PlainLog, Plain}
use Rattle.host_replies.proofs.Laws.{accepted, pool_accepted, recordable}
use Rattle.history.specs.Calls.{Call}
use Rattle.history.specs.Drain.{reached}
use Rattle.history.specs.Ran.{Ran, reply_in}
use Rattle.history.proofs.Lasting.{Lasting, reached_holds, reached_widths}
use Rattle.history.proofs.Damage.{device_after}
use Rattle.history.proofs.Drained.{reply_read}
use Rattle.history.proofs.Ran.{ran_history}

-- ---- what lasts of each log: its numbers have their widths
-- an overflow count of two bytes and overflow times of eight
record Counted (s : LogState) : Type 0 where
  overflow : s.overflow_count < 65536
  first : s.first_overflow < 256 ^ 8
  last : s.last_overflow < 256 ^ 8

-- after a report: the count stays at 65,535, and the times are old ones or the report's
counted_reported : (s : LogState) (r : List ℕ) (t : ℕ) → Counted s → t < 2 ^ 64 → Counted (reported s r t)
unfolding reported
counted_reported s r t c small =
    either Counted (has_room s) (record { overflow = c.overflow; first = c.first; last = c.last })
    (record {
      overflow = omega arith;
      first = either (λ (x : ℕ). x < 256 ^ 8) (eqb s.overflow_count 0) (omega arith) c.first;
      last = omega arith;
    })

-- after a clear: they are as they were, or 0
counted_cleared : (s : LogState) (p : List ℕ) → Counted s → Counted (clear_log s p).log
unfolding clear_log without
counted_cleared s p c =
    either (λ (a : ClearedState). Counted a.log) (eqb (clear_log_code s p) 0)
    (either Counted (eqb (clear_size s p) 0) c (record { overflow = omega arith; first = omega arith; last = omega arith })) c

plain_log : (s : LogState) → Whole s → Counted s → PlainLog s
plain_log s w c = record { size = w.size; overflow = c.overflow; first = c.first; last = c.last }

whole_log : (s : LogState) → PlainLog s → Whole s
whole_log s h = record { size = h.size }

counted_log : (s : LogState) → PlainLog s → Counted s
counted_log s h = record { overflow = h.overflow; first = h.first; last = h.last }

plain_lasts : Lasting PlainLog
plain_lasts =
    record {
      new = plain_log new whole_new (record { overflow = omega arith; first = omega arith; last = omega arith });
      reported = λ s r t h size small.
          plain_log (reported s r t) (whole_reported s r t (whole_log s h) size) (counted_reported s r t (counted_log s h) small);
      cleared = λ s p h. plain_log (clear_log s p).log (whole_cleared s p (whole_log s h)) (counted_cleared s p (counted_log s h));
      ended = λ s h. plain_log (emptied s) (whole_emptied s) (record { overflow = omega arith; first = omega arith; last = omega arith });
    }

-- ---- from any device reached by calls on a new one
-- Its numbers have the widths of document 01's fields.
pub plain_reached : (v p : ℕ) (calls : List Call) → Plain (reached v p calls)
plain_reached v p calls =
    let h = reached_holds plain_lasts v p calls in
    let w = reached_widths plain_lasts v p calls in
    let few = h.few_units in
    record {
      units = omega arith;
      policy = w.policy;
      logs = h.logs;
      list = record {
        time = let small = w.time in omega arith;
        entries = recordable 0 (lines_of (reached v p calls)) (reached v p calls).poison.entries h.entries.chain (omega arith) h.entries.typed;
      };
    }

-- THE THEOREM of acceptance: every reply that it gives on Success, to any opcode but those of the label area, which the library does not read, is accepted by the reading of that opcode's reply
-- (bytes 20 to 23 of the payload are the length that a Get Log asks for).
pub replies_accepted : (v p : ℕ) (calls : List Call) (op : ℕ) → (op ≡ 0x4102 → ⊥) → (op ≡ 0x4103 → ⊥) → (payload : List ℕ) (time : ℕ) (area : List ℕ) (room : ℕ) → (outcome (reached v p calls) op payload time area room).code ≡ 0
    → reading_code op (field payload 20 4) (outcome (reached v p calls) op payload time area room).reply ≡ 0
replies_accepted v p calls = accepted (reached v p calls) (plain_reached v p calls)

-- So of the second mailbox (document 02, W-208), to any opcode.
pub pool_replies_accepted : (v p : ℕ) (calls : List Call) (op : ℕ) (payload : List ℕ) (time room : ℕ) → (pool_answer (reached v p calls) op payload time room).code ≡ 0
    → reading_told op (field payload 20 4) (pool_answer (reached v p calls) op payload time room).bytes ≡ 0
pool_replies_accepted v p calls = pool_accepted (reached v p calls) (plain_reached v p calls)

-- ---- the same of the code
-- The view of a device that a run of the code leads to has those widths.
pub plain_ran : (v p : ℕ) (cs : List Call) (d : Device) (w : Paper) → Ran v p cs d w → Plain (state_of d)
plain_ran v p cs d w ran =
    let e : state_of d ≡ reached v p cs = (ran_history v p cs d w ran).0 ∙ device_after (make v p).next blank_paper cs in
    subst Plain (sym e) (plain_reached v p cs)

-- Whatever a call of `command` answers, the lent buffer holds at its front, after it, as many bytes as the answer's length says.
pub code_reply_size : (o : Outcome) (d : Device) (a : Answer) (before after : List ℕ) → Answered o d a before after → length (reply_in after a) ≡ a.length
code_reply_size o d a before after asked = ap length (reply_read o d a before after asked) ∙ sym asked.size

-- After a run of the code, where a call of `command`, other than Get LSA and Set LSA, is answered Success, the reading of its opcode's reply accepts those bytes; `after` is what the buffer
-- then holds.
pub code_replies_accepted : (v p : ℕ) (cs : List Call) (d : Device) (w : Paper) → Ran v p cs d w
    → (op : ℕ) → (op ≡ 0x4102 → ⊥) → (op ≡ 0x4103 → ⊥) → (payload : List ℕ) (time : ℕ) (area before after : List ℕ) (a : Answer)
    → AfterEnding d time (λ (e : Device). Answered (outcome (state_of d) op payload time area (length before)) e a before after)
    → a.code ≡ 0 → reading_code op (field payload 20 4) (reply_in after a) ≡ 0
code_replies_accepted v p cs d w ran op f g payload time area before after a asked success =
    ap (reading_code op (field payload 20 4)) (reply_read (outcome (state_of d) op payload time area (length before)) asked.found a before after asked.done)
    ∙ accepted (state_of d) (plain_ran v p cs d w ran) op f g payload time area (length before) (sym asked.done.code ∙ success)
