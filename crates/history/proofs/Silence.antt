-- Silence (document 02, W-208): the second mailbox's calls, any number of them with any arguments, put anywhere among the calls on any device, alter no answer of the others, no device that follows, and no paper; of the definitions
-- and of runs of the code. Assumes nothing.
use mathlib.Core.Path.{◌≡◌, refl, sym, ap, ap₂, ◌∙◌}
use mathlib.Core.Bool.{Bool, true, false, cond, false≢true}
use mathlib.Core.List.{List, [], ◌∷◌, map}
use Prim.Native.Nat.{ℕ}
use lib.ListN.{length}
use Rattle.poison.specs.Paper.{Paper, blank_paper}
use Rattle.mailbox.specs.State.{DeviceState, state_of}
use Rattle.mailbox.specs.Outcome.{Outcome}
use Rattle.mailbox.specs.Mailbox.{outcome}
use Rattle.mailbox.specs.Ending.{AfterEnding}
use Rattle.mailbox.specs.Relations.{Answered, LineDone}
use Rattle.mailbox.specs.LineStatus.{status_number, status_type}
use Rattle.mailbox.specs.DeviceCalls as Device
use Rattle.mailbox.specs.declared.device.Answer.{Answer}
use Rattle.mailbox.specs.declared.device_calls.LineAnswer.{LineAnswer}
use Rattle.settings.specs.Vector.{vector_number}
use Rattle.wire.specs.Wire.{splice}
use Rattle.mailbox.specs.declared.device.Device.{Device}
use Rattle.history.specs.Calls.{Call, command, event_report, media_report, line_test, event_status, damage_total, pool_command, step}
use Rattle.history.specs.Paper.{Pair, write, history}
use Rattle.history.specs.Ran.{Ran}
use Rattle.history.specs.Silence.{Whole, whole, answers, of_pool, without_pool, others, pool_cases}
use Rattle.history.specs.Sanitizing.{running}
use Rattle.history.specs.Cases.{given_of, stated_of}
use Rattle.history.proofs.Computing.{rules}
use Rattle.history.proofs.Ran.{ran_history}

-- a call of the second mailbox leaves the device, and the paper of demand 3
pool_leaves : (d : DeviceState) (c : Call) → of_pool c ≡ true → (step d c).next ≡ d
unfolding step
pool_leaves d (command opcode payload time area room) e = absurd (false≢true e)
pool_leaves d (event_report time log bytes) e = absurd (false≢true e)
pool_leaves d (media_report time address lines kind) e = absurd (false≢true e)
pool_leaves d (line_test address) e = absurd (false≢true e)
pool_leaves d event_status e = absurd (false≢true e)
pool_leaves d damage_total e = absurd (false≢true e)
pool_leaves d (pool_command opcode payload time room) e = refl

pool_writes : (p : Paper) (c : Call) (code : ℕ) → of_pool c ≡ true → write p c code ≡ p
unfolding write
pool_writes p (command opcode payload time area room) code e = absurd (false≢true e)
pool_writes p (event_report time log bytes) code e = absurd (false≢true e)
pool_writes p (media_report time address lines kind) code e = absurd (false≢true e)
pool_writes p (line_test address) code e = absurd (false≢true e)
pool_writes p event_status code e = absurd (false≢true e)
pool_writes p damage_total code e = absurd (false≢true e)
pool_writes p (pool_command opcode payload time room) code e = refl

-- THE THEOREM: whatever the device and the calls, the answers of the calls that are not the second mailbox's are those of the list without it: number, reply, vector, label area, and the device that follows.
pub silence : (d : DeviceState) (cs : List Call) → others d cs ≡ answers d (without_pool cs)
silence d [] = refl
silence d (c ∷ cs) = go (of_pool c) refl (silence (step d c).next cs)
  where
    go : (b : Bool) → of_pool c ≡ b → others (step d c).next cs ≡ answers (step d c).next (without_pool cs)
        → cond b (others (step d c).next cs) (whole d c ∷ others (step d c).next cs) ≡ answers d (cond b (without_pool cs) (c ∷ without_pool cs))
    go true e later = later ∙ ap (λ (x : DeviceState). answers x (without_pool cs)) (pool_leaves d c e)
    go false e later = ap (λ (ws : List Whole). whole d c ∷ ws) later

-- the device after the calls, and the paper beside it, are those of the list without it
pub silent_history : (d : DeviceState) (p : Paper) (cs : List Call) → history d p cs ≡ history d p (without_pool cs)
silent_history d p [] = refl
silent_history d p (c ∷ cs) = go (of_pool c) refl (silent_history (step d c).next (write p c (step d c).code) cs)
  where
    go : (b : Bool) → of_pool c ≡ b → history (step d c).next (write p c (step d c).code) cs ≡ history (step d c).next (write p c (step d c).code) (without_pool cs)
        → history (step d c).next (write p c (step d c).code) cs ≡ history d p (cond b (without_pool cs) (c ∷ without_pool cs))
    go true e later = later ∙ ap₂ (λ (x : DeviceState) (w : Paper). history x w (without_pool cs)) (pool_leaves d c e) (pool_writes p c (step d c).code e)
    go false e later = later

-- Of the code: two runs from one make, the one with the second mailbox's calls and the other without them, lead to devices of one view and to one paper.
pub ran_silence : (v p : ℕ) (cs : List Call) (d e : Device) (w x : Paper) → Ran v p cs d w → Ran v p (without_pool cs) e x → (state_of d ≡ state_of e) × (w ≡ x)
ran_silence v p cs d e w x with_pool without =
    let a = ran_history v p cs d w with_pool in
    let b = ran_history v p (without_pool cs) e x without in
    let s = silent_history (Device.make v p).next blank_paper cs in
    (a.0 ∙ ap (λ (x : Pair). x.device) s ∙ sym b.0, a.1 ∙ ap (λ (x : Pair). x.paper) s ∙ sym b.1)

-- So what the code hands back after the one run and after the other is the same: of a command number, length, vector, every byte of the reply buffer and the view of the device that follows,
pub code_silence : (v p : ℕ) (cs : List Call) (d e : Device) (w x : Paper) → Ran v p cs d w → Ran v p (without_pool cs) e x
    → (opcode : ℕ) (payload : List ℕ) (time : ℕ) (area before after after' : List ℕ) (a b : Answer)
    → AfterEnding d time (λ (f : Device). Answered (outcome (state_of d) opcode payload time area (length before)) f a before after)
    → AfterEnding e time (λ (f : Device). Answered (outcome (state_of e) opcode payload time area (length before)) f b before after')
    → (a.code ≡ b.code) × (a.length ≡ b.length) × (vector_number a.vector ≡ vector_number b.vector) × (after ≡ after') × (state_of a.device ≡ state_of b.device)
code_silence v p cs d e w x with_pool without opcode payload time area before after after' a b one two =
    let o = ap (λ (s : DeviceState). outcome s opcode payload time area (length before)) (ran_silence v p cs d e w x with_pool without).0 in (
      one.done.code ∙ ap (λ (r : Outcome). r.code) o ∙ sym two.done.code,
      one.done.size ∙ ap (λ (r : Outcome). length r.reply) o ∙ sym two.done.size,
      one.done.vector.number ∙ ap (λ (r : Outcome). r.vector) o ∙ sym two.done.vector.number,
      one.done.bytes ∙ ap (λ (r : Outcome). splice 0 r.reply before) o ∙ sym two.done.bytes,
      one.done.next ∙ ap (λ (r : Outcome). r.next) o ∙ sym two.done.next,
    )

-- and of a line test number and answer, by document 01's number and type.
pub code_silence_line : (v p : ℕ) (cs : List Call) (d e : Device) (w x : Paper) → Ran v p cs d w → Ran v p (without_pool cs) e x
    → (address : ℕ) (a b : LineAnswer) → LineDone (Device.line_test (state_of d) address) a → LineDone (Device.line_test (state_of e) address) b
    → (a.code ≡ b.code) × (status_number a.answer ≡ status_number b.answer) × (status_type a.answer ≡ status_type b.answer)
code_silence_line v p cs d e w x with_pool without address a b one two =
    let o = ap (λ (s : DeviceState). Device.line_test s address) (ran_silence v p cs d e w x with_pool without).0 in (
      one.code ∙ ap (λ (r : Device.LineOutcome). r.code) o ∙ sym two.code,
      one.number ∙ ap (λ (r : Device.LineOutcome). r.number) o ∙ sym two.number,
      one.kind ∙ ap (λ (r : Device.LineOutcome). r.kind) o ∙ sym two.kind,
    )

-- ---- the examples
pub pool_cases_hold : map given_of pool_cases ≡ map stated_of pool_cases
unfolding pool_cases running rules
pool_cases_hold = refl
