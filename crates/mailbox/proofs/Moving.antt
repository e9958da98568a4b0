-- What a command moves of a device: nothing, or the part of the one command that moves it. This is the one walk over the opcodes of `run_command` for every law on what commands leave and on what a refusal gives (`Demand1`,
-- `Raising`, `Sanitizing`; `Steps`, `Lasting`, `Sanitizing` of history): a command that is added is one line here. Assumes nothing.
use Prim.Native.Nat.{ℕ, ◌+◌}
use mathlib.Core.Path.{◌≡◌, refl}
use mathlib.Core.Bool.{Bool, true, false, cond}
use mathlib.Core.List.{List, []}
use borrow.Author.Tests.{eqb-true}
use lib.Dec.{leb, eqb}
use lib.ListN.{length}
use Rattle.wire.specs.Wire.{field, part, same}
use Rattle.wire.specs.Returns.{success, started}
use Rattle.wire.proofs.Laws.{either}
use Rattle.poison.specs.State.{PoisonState}
use Rattle.events.specs.Log.{LogState}
use Rattle.events.proofs.Laws.{refused_get_replies_nothing}
use Rattle.labels.specs.Labels.{get_labels, set_code}
use Rattle.labels.proofs.Laws.{get_refused}
use Rattle.commands.specs.Numbers.{mailbox_size}
use Rattle.settings.specs.Reply.{Reply, replied, no_reply}
use Rattle.commands.specs.EffectsLog.{effects_log_id, log_offset, log_length, get_supported_logs, part_of_log}
use Rattle.commands.specs.Identity.{identify}
use Rattle.commands.specs.declared.mailboxes.Mailbox.{Mailbox}
use Rattle.commands.specs.declared.mailboxes.Mailbox.TheVariants.{First}
use Rattle.commands.specs.Commands.{first_code}
use Rattle.settings.specs.Clock.{device_time, get_timestamp}
use Rattle.settings.specs.declared.clock.Clock.{Clock}
use Rattle.settings.specs.declared.media.MediaState.{MediaState}
use Rattle.settings.specs.Policy.{get_policy, set_interrupt_policy}
use Rattle.list_commands.specs.PoisonCommands.{range_code, get_poison_list, clear_poison}
use Rattle.mailbox.specs.State.{DeviceState, lines_of, with_clock, with_media}
use Rattle.mailbox.specs.Outcome.{Outcome, reads, changes}
use Rattle.mailbox.specs.EventCommands.{get_event_records, clear_event_records}
use Rattle.mailbox.specs.Telling.{telling}
use Rattle.mailbox.specs.Mailbox.{changes_policy, changes_list, inject, run_command, answer}

-- ---- replies: a refusal has none
pub record Silent (o : Reply) : Type 0 where
  pub silent : (o.code ≡ 0 → ⊥) → o.bytes ≡ []

success_silent : (bs : List ℕ) → Silent (replied bs)
success_silent bs = record { silent = λ h. absurd (h refl) }

pub refusal_silent : (n : ℕ) → Silent (no_reply n)
refusal_silent n = record { silent = λ h. refl }

events_silent : (ls : List LogState) (p : List ℕ) → Silent (get_event_records ls p)
unfolding get_event_records
events_silent ls p = record { silent = refused_get_replies_nothing _ ls _ }

log_silent : (log p : List ℕ) → Silent (part_of_log log p)
unfolding part_of_log
log_silent log p =
    either Silent (same (part 0 16 p) effects_log_id)
    (either Silent (leb (log_length p) mailbox_size)
    (either Silent (leb (log_offset p + log_length p) (length log)) (success_silent _) (refusal_silent _))
    (refusal_silent _))
    (refusal_silent _)

labels_silent : (p area : List ℕ) → Silent (get_labels mailbox_size p area)
labels_silent p area = record { silent = get_refused mailbox_size p area }

list_silent : (lines : ℕ) (s : PoisonState) (p : List ℕ) → Silent (get_poison_list lines s p)
unfolding get_poison_list
list_silent lines s p = either Silent (eqb (range_code lines (field p 0 8) (field p 8 8)) 0) (success_silent _) (refusal_silent _)

-- a command that both mailboxes have, whichever of them asks (document 02, W-208)
pub telling_silent : (m : Mailbox) (d : DeviceState) (op : ℕ) (p : List ℕ) (time : ℕ) → Silent (telling m d op p time)
unfolding telling get_policy get_timestamp get_supported_logs identify
telling_silent m d op p time =
    either Silent (eqb op 0x0100) (events_silent _ p)
    (either Silent (eqb op 0x0102) (success_silent _)
    (either Silent (eqb op 0x0300) (success_silent _)
    (either Silent (eqb op 0x0400) (success_silent _)
    (either Silent (eqb op 0x0401) (log_silent _ p)
    (either Silent (eqb op 0x4000) (success_silent _)
    (either Silent (eqb op 0x4300) (list_silent _ _ p) (refusal_silent _)))))))

-- ---- what an outcome o of opcode op moves of device d: nothing, where it reads or is refused (then with no reply); or what the definition of the one command says that moves this part. Of the clock and of media it is
-- enough to know that they alone move.
pub data Moved (d : DeviceState) (op : ℕ) (p : List ℕ) (time : ℕ) (o : Outcome) : Type 0 where
  nothing : (r : Reply) → o ≡ reads d r → Silent r → Moved d op p time o
  one_log : op ≡ 0x0101 → o ≡ clear_event_records d p → Moved d op p time o
  settings : op ≡ 0x0103 → o ≡ changes_policy d (set_interrupt_policy d.policy p) → Moved d op p time o
  the_clock : op ≡ 0x0301 → (c : Clock) → o ≡ changes success (with_clock d c) → Moved d op p time o
  list_and_log : op ≡ 0x4301 → o ≡ inject d p time → Moved d op p time o
  the_list : op ≡ 0x4302 → o ≡ changes_list d (clear_poison (lines_of d) d.poison p (device_time d.clock time)) → Moved d op p time o
  the_media : op ≡ 0x4400 → (m : MediaState) → o ≡ changes started (with_media d m) → Moved d op p time o

module _ (d : DeviceState) (op : ℕ) (p : List ℕ) (time : ℕ) where
  -- the outcome of opcode k, or that of the others
  at : (k : ℕ) {o rest : Outcome} → (op ≡ k → Moved d op p time o) → Moved d op p time rest → Moved d op p time (cond (eqb op k) o rest)
  at k {o} {rest} here there = go (eqb op k) refl
    where
      go : (b : Bool) → eqb op k ≡ b → Moved d op p time (cond b o rest)
      go true e = here (eqb-true op k e)
      go false e = there

  -- a command past the checks before its own
  pub run_moves : (area : List ℕ) → Moved d op p time (run_command d op p time area)
  unfolding run_command
  run_moves area =
      at 0x0101 (λ e. one_log e refl)
      (at 0x0103 (λ e. settings e refl)
      (at 0x0301 (λ e. the_clock e _ refl)
      (at 0x4102 (λ e. nothing _ refl (labels_silent p area))
      (at 0x4103 (λ e. nothing (no_reply (set_code p)) refl (refusal_silent _))
      (at 0x4301 (λ e. list_and_log e refl)
      (at 0x4302 (λ e. the_list e refl)
      (at 0x4400 (λ e. the_media e _ refl)
      (nothing _ refl (telling_silent First d op p time)))))))))

  -- any command: one that a check before its own refuses moves nothing
  pub answer_moves : (area : List ℕ) (room : ℕ) → Moved d op p time (answer d op p time area room)
  unfolding answer
  answer_moves area room =
      either (Moved d op p time) (eqb (first_code d.media.disabled op (length p) (length area) room) 0) (run_moves area) (nothing (no_reply _) refl (refusal_silent _))
