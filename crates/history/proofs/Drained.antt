-- The drain theorem (document 02, W-201), of the two commands and their bytes: from any device reached by calls on a new one, a read of log k with More clear and the
-- clear of what it gave, both answered Success and no call between, leave log k with no record. Beside it: that clear is answered Success wherever its reply buffer is
-- large enough, and More is never set on this device. Then the same of the code. Assumes nothing.
use Prim.Native.Nat.{ℕ, ◌+◌, ◌≤◌, ◌<◌}
use mathlib.Core.Path.{◌≡◌, refl, sym, ap, ap₂, ◌∙◌, subst}
use mathlib.Core.Bool.{Bool, true, false}
use mathlib.Core.List.{List, [], ◌∷◌}
use native.Mathlib.Omega.{arith}
use lib.ListN.{length, take, drop}
use lib.Seq.{take_at}
use Rattle.wire.specs.Wire.{splice}
use Rattle.events.specs.Log.{LogState, ValidState, log_at}
use Rattle.events.specs.Get as Get
use Rattle.events.specs.Drain.{more_bit, clear_read}
use Rattle.events.proofs.Laws as Logs
use Rattle.labels.specs.Labels.{label_size}
use Rattle.commands.specs.Commands.{admission, while_disabled}
use Rattle.settings.specs.Media.{due}
use Rattle.mailbox.specs.Ending.{ended, AfterEnding}
use Rattle.events.specs.Clear as Clear
use Rattle.commands.specs.Numbers.{mailbox_size, event_records}
use Rattle.mailbox.specs.State.{DeviceState, state_of}
use Rattle.settings.specs.Vector.{no_vector}
use Rattle.mailbox.specs.Outcome.{Outcome}
use Rattle.mailbox.specs.EventCommands.{get_event_records, clear_event_records}
use Rattle.mailbox.specs.Telling.{telling}
use Rattle.mailbox.specs.Mailbox.{run_command, answer, outcome}
use Rattle.mailbox.specs.DeviceCalls as Device
use Rattle.mailbox.specs.Relations.{Answered}
use Rattle.mailbox.specs.declared.device.Device.{Device}
use Rattle.mailbox.specs.declared.device.Answer.{Answer}
use Rattle.poison.specs.Paper.{Paper, blank_paper}
use Rattle.mailbox.proofs.Laws.{accepted_runs, allowed_runs, clear_events_admitted, ended_none, end_empties}
use Rattle.history.specs.Calls.{Call}
use Rattle.history.specs.Drain.{reached, read, clear, then_clear}
use Rattle.history.specs.Ran.{Ran, reply_in}
use Rattle.history.proofs.Lasting.{Lasting, reached_holds, ended_leaves}
use Rattle.history.proofs.Damage.{device_after}
use Rattle.history.proofs.Ran.{ran_history}

-- ---- what lasts of each log: it is valid, and its records have 128 bytes each
record Sound (s : LogState) : Type 0 where
  valid : ValidState s
  whole : Logs.Whole s

sound_lasts : Lasting Sound
sound_lasts =
    record {
      new = record { valid = Logs.valid_new; whole = Logs.whole_new };
      reported = λ s r t h size small. record { valid = Logs.valid_reported s r t h.valid size; whole = Logs.whole_reported s r t h.whole size };
      cleared = λ s p h. record { valid = Logs.valid_cleared s p h.valid; whole = Logs.whole_cleared s p h.whole };
      ended = λ s h. record { valid = Logs.valid_emptied s h.valid; whole = Logs.whole_emptied s };
    }

-- ---- two commands on a device whose log k is sound: d is the device that the read finds
module _ (d : DeviceState) (k time : ℕ) (area : List ℕ) (room : ℕ) (accepted : (answer d 0x0100 (k ∷ []) time area room).code ≡ 0) where
  -- a read that is accepted is the event layer's, and leaves the device
  abbrev given : Get.GetOutcome
  given = Get.get_event_records event_records d.logs k

  abbrev got : Outcome
  got = answer d 0x0100 (k ∷ []) time area room

  read_is : got ≡ record { code = given.code; reply = given.reply; vector = no_vector; next = d }
  unfolding run_command telling get_event_records
  read_is = accepted_runs d 0x0100 (k ∷ []) time area room accepted

  right : given.code ≡ 0
  right = sym (ap (λ (o : Outcome). o.code) read_is) ∙ accepted

  -- the log that it read is one of the five
  one_of_five : k < 5
  one_of_five = (Logs.read_log event_records d.logs k right).0

  module _ (sound : Sound (log_at d.logs k)) where
    bit_clear : more_bit got.reply ≡ 0
    bit_clear = rw read_is (Logs.bit_never_set event_records d.logs k right sound.valid (omega arith))

    module _ (t : ℕ) (labels : List ℕ) (r : ℕ) where
      -- the clear of what it gave is the event layer's too, where it is let through; no Sanitize is due at its time
      answered : due d.media t ≡ false → length labels ≡ label_size → mailbox_size ≤ r → (clear got.next k got.reply t labels r).code ≡ 0
      unfolding run_command clear_event_records while_disabled
      answered idle sized fits =
          let size = Logs.clear_length event_records d.logs k right sound.valid sound.whole in
          let admitted = ap (λ (n : ℕ). admission 0x0101 (length (clear_read k given.reply)) n r) sized ∙ clear_events_admitted (length (clear_read k given.reply)) r fits size.0 (omega (arith, size.1)) in
          ap (λ (o : Outcome). (clear o.next k o.reply t labels r).code) read_is
          ∙ ap (λ (e : DeviceState). (answer e 0x0101 (clear_read k given.reply) t labels r).code) (ended_none d t idle)
          ∙ ap (λ (o : Outcome). o.code) (allowed_runs d 0x0101 (clear_read k given.reply) t labels r refl admitted)
          ∙ Logs.clear_answered event_records d.logs k right sound.valid sound.whole

      -- where it is answered Success the log is empty: a Sanitize that is due at its time has emptied it before
      empty : more_bit got.reply ≡ 0 → (clear got.next k got.reply t labels r).code ≡ 0 → (log_at (clear got.next k got.reply t labels r).next.logs k).held ≡ []
      unfolding run_command clear_event_records
      empty bit e =
          let z = sym (ap (λ (o : Outcome). (clear o.next k o.reply t labels r).code) read_is) ∙ e in
          ap (λ (o : Outcome). (log_at (clear o.next k o.reply t labels r).next.logs k).held) read_is ∙ by_end (due d.media t) refl z
        where
          is : (e : DeviceState) → (answer e 0x0101 (clear_read k given.reply) t labels r).code ≡ 0
              → (log_at (answer e 0x0101 (clear_read k given.reply) t labels r).next.logs k).held ≡ (log_at (Clear.clear_event_records e.logs (clear_read k given.reply)).logs k).held
          is e z = ap (λ (o : Outcome). (log_at o.next.logs k).held) (accepted_runs e 0x0101 (clear_read k given.reply) t labels r z)

          by_end : (b : Bool) → due d.media t ≡ b → (clear d k given.reply t labels r).code ≡ 0 → (log_at (clear d k given.reply t labels r).next.logs k).held ≡ []
          by_end false idle z =
              let same = ended_none d t idle in
              ap (λ (x : DeviceState). (log_at (answer x 0x0101 (clear_read k given.reply) t labels r).next.logs k).held) same
              ∙ is d (sym (ap (λ (x : DeviceState). (answer x 0x0101 (clear_read k given.reply) t labels r).code) same) ∙ z)
              ∙ Logs.clear_drains event_records d.logs k right sound.valid sound.whole (rw read_is at bit)
          by_end true over z =
              is (ended d t) z ∙ Logs.clear_none (ended d t).logs (clear_read k given.reply) k
              (ap (λ (l : LogState). l.held) (end_empties d t over k))

-- ---- from any device reached by calls on a new one
sound_reached : (v p : ℕ) (calls : List Call) (k : ℕ) → k < 5 → Sound (log_at (reached v p calls).logs k)
sound_reached v p calls k five = (reached_holds sound_lasts v p calls).logs k five

-- its log k is sound also as a call finds it
sound_found : (v p : ℕ) (calls : List Call) (time k : ℕ) → k < 5 → Sound (log_at (ended (reached v p calls) time).logs k)
sound_found v p calls time k five = (ended_leaves sound_lasts (reached v p calls) (reached_holds sound_lasts v p calls) time).logs k five

-- The drain theorem: a read of log k answered Success with bit 1 of its reply's byte 0 clear, and then the clear made from that reply alone, answered Success, leave
-- log k with no record.
pub drained : (v p : ℕ) (calls : List Call) (k time : ℕ) (area : List ℕ) (room t : ℕ) (labels : List ℕ) (r : ℕ)
    → (read (reached v p calls) k time area room).code ≡ 0
    → more_bit (read (reached v p calls) k time area room).reply ≡ 0
    → (then_clear (reached v p calls) k time area room t labels r).code ≡ 0
    → (log_at (then_clear (reached v p calls) k time area room t labels r).next.logs k).held ≡ []
drained v p calls k time area room t labels r accepted =
    empty (ended (reached v p calls) time) k time area room accepted (sound_found v p calls time k (one_of_five (ended (reached v p calls) time) k time area room accepted)) t labels r

-- That clear is answered Success wherever its reply buffer is large enough, the label area lent with it has 4,096 bytes and no Sanitize is due at its time (whether More is set or not).
pub clear_accepted : (v p : ℕ) (calls : List Call) (k time : ℕ) (area : List ℕ) (room t : ℕ) (labels : List ℕ) (r : ℕ)
    → (read (reached v p calls) k time area room).code ≡ 0 → due (ended (reached v p calls) time).media t ≡ false → length labels ≡ label_size → mailbox_size ≤ r
    → (then_clear (reached v p calls) k time area room t labels r).code ≡ 0
clear_accepted v p calls k time area room t labels r accepted =
    answered (ended (reached v p calls) time) k time area room accepted (sound_found v p calls time k (one_of_five (ended (reached v p calls) time) k time area room accepted)) t labels r

-- A reply carries up to 15 records, and a log holds at most eight: More is never set.
pub more_never_set : (v p : ℕ) (calls : List Call) (k time : ℕ) (area : List ℕ) (room : ℕ)
    → (read (reached v p calls) k time area room).code ≡ 0 → more_bit (read (reached v p calls) k time area room).reply ≡ 0
more_never_set v p calls k time area room accepted =
    bit_clear (ended (reached v p calls) time) k time area room accepted (sound_found v p calls time k (one_of_five (ended (reached v p calls) time) k time area room accepted))

-- ---- the same of the code
-- the bytes that the code wrote are the definitions' reply
pub reply_read : (o : Outcome) (d : Device) (a : Answer) (before after : List ℕ) → Answered o d a before after → reply_in after a ≡ o.reply
unfolding splice
reply_read o d a before after answered =
    ap₂ take answered.size answered.bytes ∙ take_at o.reply (drop (0 + length o.reply) before) (length o.reply) refl

-- A run of the code, and then a call of `command` that reads log k and is answered Success; `after` is what the lent buffer then holds.
module _ (v p : ℕ) (cs : List Call) (d : Device) (w : Paper) (ran : Ran v p cs d w) (k time : ℕ) (area before after : List ℕ) (a : Answer)
    (asked : AfterEnding d time (λ (e : Device). Answered (outcome (state_of d) 0x0100 (k ∷ []) time area (length before)) e a before after)) (success : a.code ≡ 0) where
  abbrev found : DeviceState
  found = ended (state_of d) time

  accepted : (answer found 0x0100 (k ∷ []) time area (length before)).code ≡ 0
  accepted = sym asked.done.code ∙ success

  reply_is : reply_in after a ≡ (read (state_of d) k time area (length before)).reply
  reply_is = reply_read (outcome (state_of d) 0x0100 (k ∷ []) time area (length before)) asked.found a before after asked.done

  sound_ran : Sound (log_at found.logs k)
  sound_ran =
      let e : state_of d ≡ reached v p cs = (ran_history v p cs d w ran).0 ∙ device_after (Device.make v p).next blank_paper cs in
      subst (λ (s : DeviceState). Sound (log_at (ended s time).logs k)) (sym e) (sound_found v p cs time k (one_of_five found k time area (length before) accepted))

  -- More is clear in the buffer.
  pub code_more_never_set : more_bit (reply_in after a) ≡ 0
  code_more_never_set = rw reply_is (bit_clear found k time area (length before) accepted sound_ran)

  -- Then a call of `command` on the device handed back, with the payload made from that buffer.
  module _ (t : ℕ) (labels room rest : List ℕ) (b : Answer)
      (sent : AfterEnding a.device t (λ (e : Device). Answered (outcome (state_of a.device) 0x0101 (clear_read k (reply_in after a)) t labels (length room)) e b room rest)) where
    cleared : outcome (state_of a.device) 0x0101 (clear_read k (reply_in after a)) t labels (length room) ≡ then_clear (state_of d) k time area (length before) t labels (length room)
    cleared = ap₂ (λ (s : DeviceState) (bytes : List ℕ). clear s k bytes t labels (length room)) asked.done.next reply_is

    -- It is answered Success wherever its buffer is large enough, its label area has 4,096 bytes and no Sanitize is due at its time,
    pub code_clear_accepted : due found.media t ≡ false → length labels ≡ label_size → mailbox_size ≤ length room → b.code ≡ 0
    code_clear_accepted idle sized fits =
        sent.done.code ∙ ap (λ (o : Outcome). o.code) cleared ∙ answered found k time area (length before) accepted sound_ran t labels (length room) idle sized fits

    -- and after a read with More clear, answered Success, it hands back a device whose log k holds no record.
    pub code_drained : more_bit (reply_in after a) ≡ 0 → b.code ≡ 0 → (log_at (state_of b.device).logs k).held ≡ []
    code_drained bit done =
        ap (λ (s : DeviceState). (log_at s.logs k).held) (sent.done.next ∙ ap (λ (o : Outcome). o.next) cleared)
        ∙ empty found k time area (length before) accepted sound_ran t labels (length room) (ap more_bit (sym reply_is) ∙ bit)
        (sym (ap (λ (o : Outcome). o.code) cleared) ∙ sym sent.done.code ∙ done)
