-- Demand 3 for a host that links the library: what the exported functions of crate `embed` promise makes every call through the pointer a step of a run, so
-- that what holds of every run of the code holds of the device behind the pointer, in the numbers that a C caller is handed. Assumes nothing.
use mathlib.Core.Path.{◌≡◌, refl, sym, ◌∙◌}
use mathlib.Core.Bool.{true, false}
use mathlib.Core.List.{List, []}
use Prim.Native.Nat.{ℕ, ◌*◌, ◌<◌}
use lib.ListN.{length}
use Rattle.poison.specs.Paper.{Paper, blank_paper}
use Rattle.mailbox.specs.State.{state_of, lines_of}
use Rattle.mailbox.specs.declared.device.Device.{Device}
use Rattle.mailbox.specs.Mailbox.{outcome}
use Rattle.mailbox.specs.Pool.{pool_answer}
use Rattle.settings.specs.Relations.{Replied}
use Rattle.mailbox.specs.DeviceCalls as Device
use Rattle.mailbox.specs.Relations.{Answered, Makes, EventDone, MediaDone}
use Rattle.mailbox.specs.Ending.{AfterEnding}
use Rattle.mailbox.proofs.Laws.{carries_numbered, disabled_not_clean}
use Rattle.embed.specs.declared.Done.{Done}
use Rattle.embed.specs.declared.PoolDone.{PoolDone}
use Rattle.embed.specs.declared.Event.{Event}
use Rattle.embed.specs.declared.Media.{Media}
use Rattle.embed.specs.declared.Line.{Line}
use Rattle.embed.specs.Left.{made, answered, pool_told, event_told, media_told, LineTold}
use Rattle.history.specs.Calls.{Call, command, event_report, media_report, line_test, pool_command, step}
use Rattle.history.specs.Damage.{reports}
use Rattle.history.specs.Ran.{Steps, Ran, Spared}
use Rattle.history.proofs.Ran.{command_steps, event_steps, media_steps, pool_steps, make_starts, code_demand_3, reported_still}

-- ---- each call through the pointer is a step: device d lies behind it before the call, device e after it (event status and damage total: `status_steps`,
-- `total_steps` of Ran, whose contracts are the methods' own)
pub linked_make : (v p r : ℕ) (e : Device) → Makes (Device.make v p) (made r e) → Ran v p [] e blank_paper
linked_make v p r e a = make_starts v p (made r e) a

pub linked_command : (d e : Device) (opcode : ℕ) (payload : List ℕ) (time : ℕ) (area before after : List ℕ) (r : Done)
    → AfterEnding d time (λ (f : Device). Answered (outcome (state_of d) opcode payload time area (length before)) f (answered r e) before after) → Steps d e (command opcode payload time area (length before)) r.code
linked_command d e opcode payload time area before after r a = command_steps d opcode payload time area before after (answered r e) a

pub linked_event : (d e : Device) (time log : ℕ) (bytes : List ℕ) (r : Event) → AfterEnding d time (λ (f : Device). EventDone (Device.event_report (state_of d) time log bytes) f (event_told r e))
    → Steps d e (event_report time log bytes) r.code
linked_event d e time log bytes r a = event_steps d time log bytes (event_told r e) a

pub linked_media : (d e : Device) (time address lines kind : ℕ) (r : Media) → AfterEnding d time (λ (f : Device). MediaDone (Device.media_report (state_of d) time address lines kind) f (media_told r e))
    → Steps d e (media_report time address lines kind) r.code
linked_media d e time address lines kind r a = media_steps d time address lines kind (media_told r e) a

pub linked_line : (d : Device) (address : ℕ) (r : Line) → LineTold (Device.line_test (state_of d) address) r → Steps d d (line_test address) r.code
unfolding step
linked_line d address r a = record { number = a.code; next = refl }

-- a command of the second mailbox, which is handed the device to be read (document 02, W-208)
pub linked_pool : (d : Device) (opcode : ℕ) (payload : List ℕ) (time : ℕ) (before after : List ℕ) (r : PoolDone) → Replied (pool_answer (state_of d) opcode payload time (length before)) (pool_told r) before after
    → Steps d d (pool_command opcode payload time (length before)) r.code
linked_pool d opcode payload time before after r a = pool_steps d opcode payload time before after (pool_told r) a

-- ---- the vector that a C caller is handed is the number that the definitions give (document 02, W-204)
pub linked_command_vector : (d e : Device) (opcode : ℕ) (payload : List ℕ) (time : ℕ) (area before after : List ℕ) (r : Done)
    → AfterEnding d time (λ (f : Device). Answered (outcome (state_of d) opcode payload time area (length before)) f (answered r e) before after) → r.vector ≡ (outcome (state_of d) opcode payload time area (length before)).vector
linked_command_vector d e opcode payload time area before after r a = sym (carries_numbered r.vector).number ∙ a.done.vector.number

pub linked_event_vector : (d e : Device) (time log : ℕ) (bytes : List ℕ) (r : Event) → AfterEnding d time (λ (f : Device). EventDone (Device.event_report (state_of d) time log bytes) f (event_told r e))
    → r.vector ≡ (Device.event_report (state_of d) time log bytes).vector
linked_event_vector d e time log bytes r a = sym (carries_numbered r.vector).number ∙ a.done.vector.number

-- ---- what the read path is told: 0 is Clean, the one answer that permits
module _ (v p : ℕ) (cs : List Call) (d : Device) (w : Paper) (ran : Ran v p cs d w) where
  -- The line test of a line of the paper set succeeds, and its answer is not 0.
  pub linked_blocks : (k : ℕ) → w.set k ≡ true → (r : Line) → LineTold (Device.line_test (state_of d) (k * 64)) r → (r.code ≡ 0) × (r.answer ≡ 0 → ⊥)
  linked_blocks k e r a = let b = (code_demand_3 v p cs d w ran).blocked k e in (a.code ∙ b.code, λ c. b.answer (sym a.answer ∙ c))

  -- While the flag is clear and media is enabled, that of every other line of the device succeeds, and its answer is 0.
  pub linked_clean : d.poison.overflow ≡ false → d.media.disabled ≡ false → (k : ℕ) → k < lines_of (Device.make v p).next → w.set k ≡ false
      → (r : Line) → LineTold (Device.line_test (state_of d) (k * 64)) r → (r.code ≡ 0) × (r.answer ≡ 0)
  linked_clean o on k l e r a = let b = (code_demand_3 v p cs d w ran).clean o on k l e in (a.code ∙ b.code, a.answer ∙ b.answer)

-- While media is disabled no line is answered 0 (document 02, W-207).
pub linked_disabled : (d : Device) (address : ℕ) (r : Line) → LineTold (Device.line_test (state_of d) address) r → d.media.disabled ≡ true → r.answer ≡ 0 → ⊥
linked_disabled d address r a off c = disabled_not_clean (state_of d) address off (sym a.answer ∙ c)

-- A line that a call through the pointer reported damaged, by the number that it answered, and that no later one cleared, blocks.
pub linked_reported_blocks : (v p : ℕ) (cs : List Call) (d : Device) (w : Paper) → Ran v p cs d w
    → (e : Device) (c : Call) (code k : ℕ) → Steps d e c code → reports c code k ≡ true → (f : Device) → Spared k e f
    → (r : Line) → LineTold (Device.line_test (state_of f) (k * 64)) r → (r.code ≡ 0) × (r.answer ≡ 0 → ⊥)
linked_reported_blocks v p cs d w ran e c code k s reported f spared r a =
    let t = reported_still v p cs d w ran e c code k s reported f spared in
    linked_blocks v p t.calls f t.paper t.ran k t.damaged r a
