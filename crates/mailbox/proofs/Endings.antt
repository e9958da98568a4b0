-- The end of a Sanitize on a device of the code (document 02, W-207): what `Device::end_due` ensures, by its cases, and what a call that carries a time ensures from what it ensures of the device that it
-- finds. Assumes nothing.
use mathlib.Core.Path.{◌≡◌, refl, sym, ap, ap₂, ◌∙◌, subst}
use mathlib.Core.Bool.{Bool, true, false, true≢false}
use mathlib.Core.List.{List, map}
use Prim.Native.Nat.{ℕ}
use Rattle.events.specs.Emptied.{emptied, EmptiesAll}
use lib.ListN.{length, length-map}
use Rattle.events.specs.Log.{LogState, log_at, states_of}
use Rattle.events.specs.Log.{state_of as log_state}
use Rattle.events.proofs.Laws.{emptied_at}
use Rattle.events.specs.declared.log.Log.{Log}
use Rattle.settings.specs.Media.{enabled, due}
use Rattle.settings.specs.declared.media.MediaState.{MediaState}
use Rattle.mailbox.specs.declared.device.Device.{Device}
use Rattle.mailbox.specs.State.{DeviceState, ValidDevice, state_of, with_logs, with_media}
use Rattle.mailbox.specs.Ending.{logs_left, found, ended, Ends, AfterEnding}
use Rattle.mailbox.specs.declared.device.Answer.{Answer}
use Rattle.mailbox.specs.declared.device_calls.EventAnswer.{EventAnswer}
use Rattle.mailbox.specs.declared.device_calls.MediaAnswer.{MediaAnswer}
use Rattle.mailbox.specs.Mailbox.{answer, outcome}
use Rattle.mailbox.specs.DeviceCalls.{event_answer, event_report, media_answer, media_report}
use Rattle.mailbox.specs.Relations.{Answered, EventDone, MediaDone}

-- ---- of the definition
-- where nothing is due, the device as it is
pub ended_none : (d : DeviceState) (time : ℕ) → due d.media time ≡ false → ended d time ≡ d
ended_none d time e = ap (found d) e

-- where it is: five logs emptied, and media enabled
pub ended_due : (d : DeviceState) (time : ℕ) → due d.media time ≡ true → ended d time ≡ with_media (with_logs d (map emptied d.logs)) enabled
ended_due d time e = ap (found d) e

-- each log of it, also past the fifth: no record, no overflow count and times; the next handle as it was
pub end_empties : (d : DeviceState) (time : ℕ) → due d.media time ≡ true → (k : ℕ) → log_at (ended d time).logs k ≡ emptied (log_at d.logs k)
end_empties d time e k = ap (λ (x : DeviceState). log_at x.logs k) (ended_due d time e) ∙ emptied_at d.logs k

-- as many logs as before
left_length : (due : Bool) (ls : List LogState) → length (logs_left due ls) ≡ length ls
left_length true ls = length-map ls emptied
left_length false ls = refl

pub found_logs : {d e : Device} {time : ℕ} → Ends d time e → length e.logs ≡ length d.logs
found_logs {d} {e} {time} ends =
    sym (length-map e.logs log_state) ∙ ap (λ (s : DeviceState). length s.logs) ends.state ∙ left_length (due d.media time) (states_of d.logs) ∙ length-map d.logs log_state

module _ (d : Device) (time : ℕ) (v : ValidDevice d) where
  pub ends_none : due d.media time ≡ false → Ends d time d
  ends_none e = record { state = sym (ended_none (state_of d) time e); same = λ f. refl; valid = v }

  pub ends_due : {logs : List Log} {media : MediaState} → due d.media time ≡ true → EmptiesAll d.logs logs → media ≡ enabled
      → Ends d time (record { volatile = d.volatile; persistent = d.persistent; clock = d.clock; policy = d.policy; logs = logs; poison = d.poison; media = media })
  ends_due e a on =
      record {
        state = ap₂ (λ (ls : List LogState) (m : MediaState). with_media (with_logs (state_of d) ls) m) a.states on ∙ sym (ended_due (state_of d) time e);
        same = λ f. absurd (true≢false (sym e ∙ f));
        valid = record { some_unit = v.some_unit; few_units = v.few_units; logs = a.valid; poison = v.poison };
      }

-- the answer on the device that is found is the call's: its view is `ended`
module _ {d e : Device} {time : ℕ} (ends : Ends d time e) where
  found_at : (Done : DeviceState → Device → Type 0) → Done (state_of e) e → AfterEnding d time (Done (ended (state_of d) time))
  found_at Done done = record { found = e; ends = ends; done = subst (λ (s : DeviceState). Done s e) ends.state done }

  pub after_command : (op : ℕ) (p area : List ℕ) (room : ℕ) {r : Answer} {before after : List ℕ} → Answered (answer (state_of e) op p time area room) e r before after
      → AfterEnding d time (λ (f : Device). Answered (outcome (state_of d) op p time area room) f r before after)
  after_command op p area room {r} {before} {after} a = found_at (λ (s : DeviceState) (f : Device). Answered (answer s op p time area room) f r before after) a

  pub after_event : (log : ℕ) (bytes : List ℕ) {r : EventAnswer} → EventDone (event_answer (state_of e) time log bytes) e r
      → AfterEnding d time (λ (f : Device). EventDone (event_report (state_of d) time log bytes) f r)
  after_event log bytes {r} a = found_at (λ (s : DeviceState) (f : Device). EventDone (event_answer s time log bytes) f r) a

  pub after_media : (address n kind : ℕ) {r : MediaAnswer} → MediaDone (media_answer (state_of e) time address n kind) e r
      → AfterEnding d time (λ (f : Device). MediaDone (media_report (state_of d) time address n kind) f r)
  after_media address n kind {r} a = found_at (λ (s : DeviceState) (f : Device). MediaDone (media_answer s time address n kind) f r) a
