-- The second mailbox in words (document 02, W-208): what it refuses and with which number, that a refusal gives nothing, and that the five of its commands that do not tell of the effects log are
-- answered as the first mailbox answers them on the same device. Assumes nothing.
use mathlib.Core.Path.{◌≡◌, refl, sym, ap, ◌∙◌}
use mathlib.Core.Bool.{true, false}
use mathlib.Core.List.{List, []}
use Prim.Native.Nat.{ℕ, ◌≤◌}
use native.Mathlib.Omega.{arith}
use native.Mathlib.Decide.{ℕ_discrete}
use lib.ListN.{length}
use Rattle.labels.specs.Labels.{label_size}
use Rattle.wire.specs.Wire.{splice}
use Rattle.wire.specs.Returns.{success, unsupported, unsupported_mailbox}
use Rattle.wire.specs.declared.done.Done.{Done}
use Rattle.settings.specs.Media.{due}
use Rattle.settings.specs.Reply.{Reply, no_reply}
use Rattle.settings.specs.Relations.{Replied}
use Rattle.commands.specs.Numbers.{mailbox_size}
use Rattle.commands.specs.declared.mailboxes.Mailbox.TheVariants.{First, Pool}
use Rattle.commands.specs.Commands.{commands, rows_of, known, checked, admission, first_code}
use Rattle.commands.proofs.Laws.{known_one, pool_allowed, pool_checked, checked_unknown, checked_first, admission_sized, first_allowed}
use Rattle.mailbox.specs.State.{DeviceState}
use Rattle.mailbox.specs.Outcome.{reads}
use Rattle.mailbox.specs.Telling.{telling}
use Rattle.mailbox.specs.Mailbox.{run_command, answer, outcome}
use Rattle.mailbox.specs.Pool.{pool_answer}
use Rattle.mailbox.proofs.Accepted.{answer_refused, allowed_runs}
use Rattle.mailbox.proofs.Endings.{ended_none}
use Rattle.mailbox.proofs.Labels.{accepted_area}
use Rattle.mailbox.proofs.Moving.{Silent, refusal_silent, telling_silent}
use Rattle.mailbox.proofs.PoolAnswers.{pool_refuses, pool_tells}

module _ (d : DeviceState) (op : ℕ) (p : List ℕ) (time room : ℕ) where
  -- ---- which numbers
  -- an opcode that the device has not: 0003h
  pub pool_unknown : mailbox_size ≤ room → length p ≤ mailbox_size → known commands op ≡ false → pool_answer d op p time room ≡ no_reply unsupported
  pool_unknown h k e = pool_refuses d op p time room (checked_unknown Pool op (length p) room h k e) (λ z. absurd (omega (arith, z)))

  -- "an opcode the device has and this mailbox hasn't, 0015h", whatever the length of its payload
  pub pool_has_not : mailbox_size ≤ room → length p ≤ mailbox_size → known commands op ≡ true → known (rows_of Pool) op ≡ false → pool_answer d op p time room ≡ no_reply unsupported_mailbox
  pool_has_not h k a b = pool_refuses d op p time room (checked_first Pool op (length p) room op refl refl h k refl a b) (λ z. absurd (omega (arith, z)))

  -- ---- demand 1: a number other than 0000h comes with no reply
  silent : Silent (pool_answer d op p time room)
  silent = go (ℕ_discrete (checked Pool op (length p) room) 0)
    where
      go : Dec (checked Pool op (length p) room ≡ 0) → Silent (pool_answer d op p time room)
      go (yes z) = rw (pool_tells d op p time room z) (telling_silent Pool d op p time)
      go (no f) = rw (pool_refuses d op p time room refl f) (refusal_silent _)

  pub pool_refusal : ((pool_answer d op p time room).code ≡ 0 → ⊥) → (pool_answer d op p time room).bytes ≡ []
  pool_refusal = silent.silent

  -- one that is answered 0000h passed the checks before its own, and so is the command of its opcode
  pub pool_passes : (pool_answer d op p time room).code ≡ 0 → checked Pool op (length p) room ≡ 0
  pool_passes e = go (ℕ_discrete (checked Pool op (length p) room) 0)
    where
      go : Dec (checked Pool op (length p) room ≡ 0) → checked Pool op (length p) room ≡ 0
      go (yes z) = z
      go (no f) = absurd (f (sym (ap (λ (r : Reply). r.code) (pool_refuses d op p time room refl f)) ∙ e))

  pub pool_replies : (pool_answer d op p time room).code ≡ 0 → pool_answer d op p time room ≡ telling Pool d op p time
  pool_replies e = pool_tells d op p time room (pool_passes e)

-- of the code: length 0, and no byte of the reply buffer altered
pub pool_unaltered : (d : DeviceState) (op : ℕ) (p : List ℕ) (time : ℕ) (r : Done) (before after : List ℕ) → Replied (pool_answer d op p time (length before)) r before after → (r.code ≡ 0 → ⊥)
    → (r.length ≡ 0) × (after ≡ before)
unfolding splice
pool_unaltered d op p time r before after a f =
    let none = pool_refusal d op p time (length before) (λ z. f (a.code ∙ z)) in
    (a.size ∙ ap length none, a.bytes ∙ ap (λ (bs : List ℕ). splice 0 bs before) none)

-- ---- the commands that do not tell of the effects log: five of the seven
module _ (d : DeviceState) (op : ℕ) (p : List ℕ) (time : ℕ) (has : known (rows_of Pool) op ≡ true) where
  -- what both mailboxes have only reads the device
  runs_tells : (area : List ℕ) → run_command d op p time area ≡ reads d (telling First d op p time)
  unfolding run_command commands rows_of
  runs_tells area =
      known_one (λ (o : ℕ). run_command d o p time area ≡ reads d (telling First d o p time)) (rows_of Pool) (refl, (refl, (refl, (refl, (refl, (refl, (refl, tt))))))) op has

  module _ (no_logs : op ≡ 0x0400 → ⊥) (no_log : op ≡ 0x0401 → ⊥) where
    tells_same : telling First d op p time ≡ telling Pool d op p time
    unfolding telling commands rows_of
    tells_same =
        known_one (λ (o : ℕ). (o ≡ 0x0400 → ⊥) → (o ≡ 0x0401 → ⊥) → telling First d o p time ≡ telling Pool d o p time) (rows_of Pool)
        ((λ f g. refl), ((λ f g. refl), ((λ f g. refl), ((λ f g. absurd (f refl)), ((λ f g. absurd (g refl)), ((λ f g. refl), ((λ f g. refl), tt)))))))
        op has no_logs no_log

    module _ (area : List ℕ) (room : ℕ) where
      -- THE THEOREM: with a label area of 4,096 bytes the first mailbox's answer on the same device is the second's number and reply, no vector and the device as it is; accepted or refused.
      pub pool_same : length area ≡ label_size → answer d op p time area room ≡ reads d (pool_answer d op p time room)
      pool_same sized = go (ℕ_discrete (checked Pool op (length p) room) 0)
        where
          -- the checks before a command's own are one number in both
          same : checked Pool op (length p) room ≡ first_code d.media.disabled op (length p) (length area) room
          same =
              pool_checked op has (length p) room ∙ admission_sized op (length p) room ∙ ap (λ (n : ℕ). admission op (length p) n room) (sym sized)
              ∙ first_allowed d.media.disabled op (length p) (length area) room (pool_allowed op has)

          admitted : checked Pool op (length p) room ≡ 0 → admission op (length p) (length area) room ≡ 0
          admitted z = first_allowed d.media.disabled op (length p) (length area) room (pool_allowed op has) ∙ sym same ∙ z

          go : Dec (checked Pool op (length p) room ≡ 0) → answer d op p time area room ≡ reads d (pool_answer d op p time room)
          go (yes z) =
              allowed_runs d op p time area room (pool_allowed op has) (admitted z) ∙ runs_tells area ∙ ap (reads d) (tells_same ∙ sym (pool_tells d op p time room z))
          go (no f) = answer_refused d op p time area room same f ∙ ap (reads d) (sym (pool_refuses d op p time room refl f))

      -- so of any area that the first mailbox accepts
      pub pool_same_accepted : (answer d op p time area room).code ≡ success → answer d op p time area room ≡ reads d (pool_answer d op p time room)
      pool_same_accepted z = pool_same (accepted_area d op p time area room z)

      -- and of the whole call where no Sanitize is due
      pub pool_same_outcome : length area ≡ label_size → due d.media time ≡ false → outcome d op p time area room ≡ reads d (pool_answer d op p time room)
      pool_same_outcome sized none = ap (λ (e : DeviceState). answer e op p time area room) (ended_none d time none) ∙ pool_same sized
