-- Demand 3 of the code: the contracts of crate `mailbox` make every call of the code a step of the definitions, so that what holds after every list of calls
-- holds of every run of the code; and what that says of the values that the code hands back: the answer of a line test, the number of damage total.
-- Assumes nothing.
use mathlib.Core.Path.{◌≡◌, refl, sym, ap, ◌∙◌}
use mathlib.Core.Bool.{true, false}
use mathlib.Core.List.{List, [], ◌∷◌, ◌++◌}
use Prim.Native.Nat.{ℕ, ◌+◌, ◌*◌, ◌<◌}
use native.Mathlib.Omega.{arith}
use lib.ListN.{length}
use Rattle.poison.specs.Runs.{count}
use Rattle.mailbox.specs.Ending.{AfterEnding}
use Rattle.mailbox.specs.LineStatus.{status_number}
use Rattle.mailbox.specs.declared.line_status.LineStatus.{LineStatus}
use Rattle.mailbox.specs.declared.line_status.LineStatus.TheVariants.{Clean, Damaged, Unknown, Disabled}
use Rattle.mailbox.proofs.Laws.{disabled_not_clean}
use Rattle.poison.specs.Paper.{Paper, blank_paper}
use Rattle.events.specs.declared.status.Status.{Status}
use Rattle.mailbox.specs.State.{DeviceState, lines_of, state_of}
use Rattle.mailbox.specs.declared.device.Device.{Device}
use Rattle.mailbox.specs.declared.device.Answer.{Answer}
use Rattle.mailbox.specs.declared.device.Made.{Made}
use Rattle.mailbox.specs.declared.device_calls.EventAnswer.{EventAnswer}
use Rattle.mailbox.specs.declared.device_calls.MediaAnswer.{MediaAnswer}
use Rattle.mailbox.specs.declared.device_calls.LineAnswer.{LineAnswer}
use Rattle.mailbox.specs.Mailbox.{outcome}
use Rattle.mailbox.specs.Pool.{pool_answer}
use Rattle.settings.specs.Relations.{Replied}
use Rattle.wire.specs.declared.done.Done.{Done}
use Rattle.mailbox.specs.DeviceCalls as Device
use Rattle.mailbox.specs.Relations.{Answered, Makes, EventDone, MediaDone, LineDone, StatusGiven}
use Rattle.history.specs.Calls.{Call, command, event_report, media_report, line_test, event_status, damage_total, pool_command, step}
use Rattle.history.specs.Paper.{write, history}
use Rattle.history.specs.Demand3.{Demand3}
use Rattle.history.specs.Damage.{reports}
use Rattle.history.specs.Ran.{Steps, Ran, made, called, Spared, none, more}
use Rattle.history.proofs.Demand3.{demand_3}
use Rattle.history.proofs.Damage.{set_reported, set_kept}

-- ---- what each contract gives
pub command_steps : (d : Device) (opcode : ℕ) (payload : List ℕ) (time : ℕ) (area before after : List ℕ) (r : Answer)
    → AfterEnding d time (λ (e : Device). Answered (outcome (state_of d) opcode payload time area (length before)) e r before after) → Steps d r.device (command opcode payload time area (length before)) r.code
unfolding step
command_steps d opcode payload time area before after r a = record { number = a.done.code; next = a.done.next }

pub event_steps : (d : Device) (time log : ℕ) (bytes : List ℕ) (r : EventAnswer) → AfterEnding d time (λ (e : Device). EventDone (Device.event_report (state_of d) time log bytes) e r) → Steps d r.device (event_report time log bytes) r.code
unfolding step
event_steps d time log bytes r a = record { number = a.done.code; next = a.done.next }

pub media_steps : (d : Device) (time address lines kind : ℕ) (r : MediaAnswer) → AfterEnding d time (λ (e : Device). MediaDone (Device.media_report (state_of d) time address lines kind) e r) → Steps d r.device (media_report time address lines kind) r.code
unfolding step
media_steps d time address lines kind r a = record { number = a.done.code; next = a.done.next }

-- line test, event status, damage total and the second mailbox's commands (document 02, W-208) hand back no device: the same one goes on
pub line_steps : (d : Device) (address : ℕ) (r : LineAnswer) → LineDone (Device.line_test (state_of d) address) r → Steps d d (line_test address) r.code
unfolding step
line_steps d address r a = record { number = a.code; next = refl }

pub status_steps : (d : Device) (r : Status) → StatusGiven (Device.event_status (state_of d)) r → Steps d d event_status 0
unfolding step
status_steps d r a = record { number = refl; next = refl }

pub total_steps : (d : Device) (total : ℕ) → total ≡ Device.damage_total (state_of d) → Steps d d damage_total 0
unfolding step
total_steps d total a = record { number = refl; next = refl }

pub pool_steps : (d : Device) (opcode : ℕ) (payload : List ℕ) (time : ℕ) (before after : List ℕ) (r : Done) → Replied (pool_answer (state_of d) opcode payload time (length before)) r before after
    → Steps d d (pool_command opcode payload time (length before)) r.code
unfolding step
pool_steps d opcode payload time before after r a = record { number = a.code; next = refl }

pub make_starts : (v p : ℕ) (m : Made) → Makes (Device.make v p) m → Ran v p [] m.device blank_paper
make_starts v p m a = made [] m.device blank_paper refl a.next refl

-- ---- every run of the code is a history
-- one call more
history_more : (d : DeviceState) (p : Paper) (bs : List Call) (c : Call)
    → history d p (bs ++ (c ∷ [])) ≡ record { device = (step (history d p bs).device c).next; paper = write (history d p bs).paper c (step (history d p bs).device c).code }
history_more d p [] c = refl
history_more d p (b ∷ bs) c = history_more (step d b).next (write p b (step d b).code) bs c

-- The device and the paper after a run of the code are those of the history of its calls.
pub ran_history : (v p : ℕ) (cs : List Call) (d : Device) (w : Paper) → Ran v p cs d w
    → (state_of d ≡ (history (Device.make v p).next blank_paper cs).device) × (w ≡ (history (Device.make v p).next blank_paper cs).paper)
ran_history v p cs d w (made _ _ _ e f g) = (rw (e, f), rw (e, g))
ran_history v p cs e x (called bs _ d _ w _ ran c code s f g) =
    let h = ran_history v p bs d w ran in
    let m = history_more (Device.make v p).next blank_paper bs c in (
      s.next ∙ rw (h.0, f, m),
      g ∙ rw (s.number, h.0, h.1, f, m),
    )

-- Demand 3 of the code: after any calls of the code on the device that make handed out, the device and the paper written from the calls and the numbers
-- that the code answered are as demand 3 asks
pub code_demand_3 : (v p : ℕ) (cs : List Call) (d : Device) (w : Paper) → Ran v p cs d w → Demand3 (Device.make v p).next cs (lines_of (Device.make v p).next) (state_of d) w
code_demand_3 v p cs d w ran = let h = ran_history v p cs d w ran in rw (h.0, h.1) (demand_3 v p cs)

-- ---- what the code hands back
clean_of : (a : LineStatus) → status_number a ≡ 0 → a ≡ Clean
clean_of Clean e = refl
clean_of (Damaged kind) e = absurd (omega arith)
clean_of Unknown e = absurd (omega arith)
clean_of Disabled e = absurd (omega arith)

-- a run of the code that ends in a device, with line k in its paper set
pub record Still (v p k : ℕ) (d : Device) : Type 0 where
  pub calls : List Call
  pub paper : Paper
  pub ran : Ran v p calls d paper
  pub damaged : paper.set k ≡ true

still : (v p k : ℕ) (d e : Device) → Spared k d e → Still v p k d → Still v p k e
still v p k d e (none _ q) s = rw q s
still v p k d f (more e _ spared c code st kept) s =
    let t = still v p k d e spared s in
    record {
      calls = t.calls ++ (c ∷ []);
      paper = write t.paper c code;
      ran = called t.calls (t.calls ++ (c ∷ [])) e f t.paper (write t.paper c code) t.ran c code st refl refl;
      damaged = set_kept t.paper c code k t.damaged kept;
    }

module _ (v p : ℕ) (cs : List Call) (d : Device) (w : Paper) (ran : Ran v p cs d w) where
  -- The line test of a line of the paper set succeeds, and its answer is not Clean.
  pub code_blocks : (k : ℕ) → w.set k ≡ true → (r : LineAnswer) → LineDone (Device.line_test (state_of d) (k * 64)) r → (r.code ≡ 0) × (r.answer ≡ Clean → ⊥)
  code_blocks k e r a =
      let b = (code_demand_3 v p cs d w ran).blocked k e in
      (a.code ∙ b.code, λ c. b.answer (sym a.number ∙ ap status_number c))

  -- While the flag is clear and media is enabled, that of every other line of the device succeeds, and its answer is Clean.
  pub code_clean : d.poison.overflow ≡ false → d.media.disabled ≡ false → (k : ℕ) → k < lines_of (Device.make v p).next → w.set k ≡ false
      → (r : LineAnswer) → LineDone (Device.line_test (state_of d) (k * 64)) r → (r.code ≡ 0) × (r.answer ≡ Clean)
  code_clean o on k l e r a =
      let b = (code_demand_3 v p cs d w ran).clean o on k l e in
      (a.code ∙ b.code, clean_of r.answer (a.number ∙ b.answer))

  -- While media is disabled no line is answered Clean, whatever the paper.
  pub code_disabled : d.media.disabled ≡ true → (address : ℕ) (r : LineAnswer) → LineDone (Device.line_test (state_of d) address) r → r.answer ≡ Clean → ⊥
  code_disabled off address r a c = disabled_not_clean (state_of d) address off (sym a.number ∙ ap status_number c)

  -- The number that damage total hands back is the one in the size equation.
  pub code_size : (total : ℕ) → total ≡ Device.damage_total (state_of d)
      → count w.set (lines_of (Device.make v p).next) ≡ total + count w.dropped (lines_of (Device.make v p).next)
  code_size total e = rw e (code_demand_3 v p cs d w ran).size

-- A line that a call of the code reported damaged, by the number that it answered, and that no later call of the code cleared, is still in the paper set.
pub reported_still : (v p : ℕ) (cs : List Call) (d : Device) (w : Paper) → Ran v p cs d w
    → (e : Device) (c : Call) (code k : ℕ) → Steps d e c code → reports c code k ≡ true → (f : Device) → Spared k e f → Still v p k f
reported_still v p cs d w ran e c code k s reported f spared =
    still v p k e f spared (record {
      calls = cs ++ (c ∷ []);
      paper = write w c code;
      ran = called cs (cs ++ (c ∷ [])) d e w (write w c code) ran c code s refl refl;
      damaged = set_reported w c code k reported;
    })

-- It is answered, and not Clean.
pub code_reported_blocks : (v p : ℕ) (cs : List Call) (d : Device) (w : Paper) → Ran v p cs d w
    → (e : Device) (c : Call) (code k : ℕ) → Steps d e c code → reports c code k ≡ true → (f : Device) → Spared k e f
    → (r : LineAnswer) → LineDone (Device.line_test (state_of f) (k * 64)) r → (r.code ≡ 0) × (r.answer ≡ Clean → ⊥)
code_reported_blocks v p cs d w ran e c code k s reported f spared r a =
    let t = reported_still v p cs d w ran e c code k s reported f spared in
    code_blocks v p t.calls f t.paper t.ran k t.damaged r a
