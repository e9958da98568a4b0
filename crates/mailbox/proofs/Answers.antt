-- What `command` ensures of its answer (`Answered`), by the kind of command: refused before its own checks, one that reads, one that changes a part of the
-- device; and the device that follows a change is valid. Assumes nothing.
use mathlib.Core.Path.{◌≡◌, refl, sym, ap, ap₂, ◌∙◌, subst}
use mathlib.Core.Bool.{Bool}
use mathlib.Core.List.{List}
use Prim.Native.Nat.{ℕ, ◌+◌, ◌*◌}
use lib.ListN.{length}
use borrow.Author.Tests.{ne_eqb}
use Rattle.labels.specs.Labels.{label_size}
use Rattle.wire.specs.Returns.{Refused}
use Rattle.wire.specs.Wire.{splice}
use Rattle.poison.specs.State as P
use Rattle.poison.specs.declared.list.PoisonList.{PoisonList}
use Rattle.events.specs.Log as E
use Rattle.events.specs.declared.log.Log.{Log}
use Rattle.settings.specs.declared.clock.Clock.{Clock}
use Rattle.settings.specs.declared.media.MediaState.{MediaState}
use Rattle.mailbox.specs.declared.device.Device.{Device}
use Rattle.mailbox.specs.declared.device.Answer.{Answer}
use Rattle.std.specs.Prelude.{None}
use Rattle.commands.specs.Numbers.{unit_lines}
use Rattle.mailbox.specs.State.{DeviceState, ValidDevice, state_of}
use Rattle.settings.specs.Reply.{Reply}
use Rattle.mailbox.specs.Outcome.{Outcome, reads, changes, refused}
use Rattle.commands.specs.Commands.{first_code}
use Rattle.mailbox.specs.Mailbox.{run_command, answer}
use Rattle.mailbox.specs.Relations.{Answered}
use Rattle.settings.proofs.Laws.{carries_none}

-- an answer to an equal outcome
equal_outcome : {o o' : Outcome} {d : Device} {r : Answer} {before after : List ℕ} → o ≡ o' → Answered o' d r before after → Answered o d r before after
equal_outcome {o} {o'} {d} {r} {before} {after} e a = subst (λ (x : Outcome). Answered x d r before after) (sym e) a

-- a command that reads: its number, the length of its reply, the buffer; the very same device
pub read_answer : {d : Device} {o : Reply} {code n : ℕ} {before after : List ℕ} → ValidDevice d → code ≡ o.code → n ≡ length o.bytes → after ≡ splice 0 o.bytes before
    → Answered (reads (state_of d) o) d (record { code = code; length = n; vector = None; device = d }) before after
read_answer v c n b = record { code = c; size = n; vector = carries_none; next = refl; bytes = b; refused = λ f. refl; valid = v }

-- a command that changes a device d to e: its number, no reply, the buffer as it was
pub change_answer : {d e : Device} {s : DeviceState} {code number : ℕ} {before : List ℕ} → ValidDevice e → code ≡ number → state_of e ≡ s → (Refused code → e ≡ d)
    → Answered (changes number s) d (record { code = code; length = 0; vector = None; device = e }) before before
unfolding splice
change_answer v c s f = record { code = c; size = refl; vector = carries_none; next = s; bytes = refl; refused = f; valid = v }

-- refused by the checks before a command's own
pub refusal_answer : (d : Device) (op : ℕ) (p : List ℕ) (t : ℕ) (area : List ℕ) (room code : ℕ) {before : List ℕ} → ValidDevice d
    → code ≡ first_code d.media.disabled op (length p) (length area) room → (code ≡ 0 → ⊥)
    → Answered (answer (state_of d) op p t area room) d (record { code = code; length = 0; vector = None; device = d }) before before
unfolding answer splice
refusal_answer d op p t area room code v e h =
    equal_outcome {o' = refused code (state_of d)} (simp (sym e, ne_eqb _ _ h))
    (record { code = refl; size = refl; vector = carries_none; next = refl; bytes = refl; refused = λ f. refl; valid = v })

-- where the area has 4,096 bytes and media is disabled or not as said: refused by the others of those checks; or past them, the command of the opcode
module _ (d : Device) {disabled : Bool} (media : d.media.disabled ≡ disabled) (op : ℕ) (p : List ℕ) (t : ℕ) (area : List ℕ) (sized : length area ≡ label_size) (room : ℕ) where
  code_is : first_code disabled op (length p) label_size room ≡ first_code d.media.disabled op (length p) (length area) room
  code_is = ap₂ (λ (b : Bool) (n : ℕ). first_code b op (length p) n room) (sym media) (sym sized)

  pub refused_before : (code : ℕ) {before : List ℕ} → ValidDevice d → code ≡ first_code disabled op (length p) label_size room → (code ≡ 0 → ⊥)
      → Answered (answer (state_of d) op p t area room) d (record { code = code; length = 0; vector = None; device = d }) before before
  refused_before code v e h = refusal_answer d op p t area room code v (e ∙ code_is) h

  pub answer_at : (o : ℕ) {r : Answer} {before after : List ℕ} → first_code disabled op (length p) label_size room ≡ 0 → op ≡ o → Answered (run_command (state_of d) o p t area) d r before after
      → Answered (answer (state_of d) op p t area room) d r before after
  unfolding answer
  answer_at o e h a =
      let admitted : first_code d.media.disabled op (length p) (length area) room ≡ 0 = sym code_is ∙ e in
      equal_outcome (simp admitted (ap (λ (x : ℕ). run_command (state_of d) x p t area) h)) a

-- the device with the logs, or the list, that it has
pub same_logs : (d : Device) {ls : List Log} → ls ≡ d.logs
    → record { volatile = d.volatile; persistent = d.persistent; clock = d.clock; policy = d.policy; logs = ls; poison = d.poison; media = d.media } ≡ d
same_logs d e = λ i. record { volatile = d.volatile; persistent = d.persistent; clock = d.clock; policy = d.policy; logs = e i; poison = d.poison; media = d.media }

pub same_list : (d : Device) {l : PoisonList} → l ≡ d.poison
    → record { volatile = d.volatile; persistent = d.persistent; clock = d.clock; policy = d.policy; logs = d.logs; poison = l; media = d.media } ≡ d
same_list d e = λ i. record { volatile = d.volatile; persistent = d.persistent; clock = d.clock; policy = d.policy; logs = d.logs; poison = e i; media = d.media }

-- a device with other parts, each valid, of the same units
pub valid_device : (d : Device) (c : Clock) (policy : List ℕ) (logs : List Log) (l : PoisonList) {m : MediaState} → ValidDevice d → E.ValidLogs logs
    → P.ValidList (unit_lines * (d.volatile + d.persistent)) l
    → ValidDevice (record { volatile = d.volatile; persistent = d.persistent; clock = c; policy = policy; logs = logs; poison = l; media = m })
valid_device d c policy logs l v ls ps = record { some_unit = v.some_unit; few_units = v.few_units; logs = ls; poison = ps }
