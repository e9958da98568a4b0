-- A command that is answered 0000h, or that the checks before its own let through, is the command of its opcode; one that they refuse is answered with their number. Assumes nothing.
use mathlib.Core.Path.{◌≡◌, refl, sym, ◌∙◌}
use mathlib.Core.List.{List}
use Prim.Native.Nat.{ℕ, ◌≤◌}
use native.Mathlib.Decide.{ℕ_discrete}
use borrow.Author.Tests.{eq-eqb, ne_eqb, le-leb}
use lib.ListN.{length}
use Rattle.labels.specs.Labels.{label_size}
use Rattle.commands.specs.Numbers.{mailbox_size}
use Rattle.mailbox.specs.State.{DeviceState}
use Rattle.commands.specs.Commands.{commands, admission, while_disabled, first_code}
use Rattle.mailbox.specs.Outcome.{refused}
use Rattle.mailbox.specs.Mailbox.{run_command, answer}
use Rattle.commands.proofs.Laws.{admission_at, first_allowed}

module _ (d : DeviceState) (op : ℕ) (p : List ℕ) (time : ℕ) (area : List ℕ) (room : ℕ) where
  pub admitted_runs : first_code d.media.disabled op (length p) (length area) room ≡ 0 → answer d op p time area room ≡ run_command d op p time area
  unfolding answer
  admitted_runs z = rw (eq-eqb (first_code d.media.disabled op (length p) (length area) room) 0 z)

  pub answer_refused : {code : ℕ} → code ≡ first_code d.media.disabled op (length p) (length area) room → (code ≡ 0 → ⊥) → answer d op p time area room ≡ refused code d
  unfolding answer
  answer_refused e f = simp (sym e, ne_eqb _ _ f)

  -- one that media disabled allows, past the other checks before its own
  pub allowed_runs : while_disabled op ≡ 0 → admission op (length p) (length area) room ≡ 0 → answer d op p time area room ≡ run_command d op p time area
  allowed_runs free z = admitted_runs (sym (first_allowed d.media.disabled op (length p) (length area) room free) ∙ z)

  pub accepted_runs : (answer d op p time area room).code ≡ 0 → answer d op p time area room ≡ run_command d op p time area
  unfolding answer
  accepted_runs e = go (ℕ_discrete (first_code d.media.disabled op (length p) (length area) room) 0)
    where
      go : Dec (first_code d.media.disabled op (length p) (length area) room ≡ 0) → answer d op p time area room ≡ run_command d op p time area
      go (yes z) = admitted_runs z
      go (no f) = absurd (f (rw (ne_eqb (first_code d.media.disabled op (length p) (length area) room) 0 f) at e))

-- Clear Event Records with a payload of 6 to 2,048 bytes and room for every reply is let through to its own checks
pub clear_events_admitted : (n room : ℕ) → mailbox_size ≤ room → 6 ≤ n → n ≤ mailbox_size → admission 0x0101 n label_size room ≡ 0
unfolding commands
clear_events_admitted n room fits least most = sym (admission_at 0x0101 n room 0x0101 fits most refl) ∙ rw (le-leb 6 n least)
