-- What the pool manager's mailbox answers over the parts of a device (`pool_command_in`, document 02, W-208), by its cases; and back, at a device. Assumes nothing.
use mathlib.Core.Path.{◌≡◌, refl, sym, ap, ◌∙◌, subst}
use mathlib.Core.List.{List}
use Prim.Native.Nat.{ℕ, ◌+◌, ◌*◌}
use borrow.Author.Tests.{eq-eqb, ne_eqb}
use lib.ListN.{length, get_or}
use Rattle.poison.specs.State as P
use Rattle.poison.specs.declared.list.PoisonList.{PoisonList}
use Rattle.events.specs.Log.{blank}
use Rattle.events.specs.declared.log.Log.{Log}
use Rattle.wire.specs.declared.done.Done.{Done}
use Rattle.settings.specs.declared.clock.Clock.{Clock}
use Rattle.settings.specs.Reply.{Reply, no_reply}
use Rattle.settings.specs.Relations.{Replied}
use Rattle.settings.proofs.Laws.{no_bytes}
use Rattle.commands.specs.declared.mailboxes.Mailbox.TheVariants.{Pool}
use Rattle.commands.specs.Commands.{checked}
use Rattle.commands.specs.Numbers.{unit_lines}
use Rattle.list_commands.specs.PoisonCommands.{get_poison_list}
use Rattle.mailbox.specs.State.{DeviceState, state_of}
use Rattle.mailbox.specs.declared.device.Device.{Device}
use Rattle.mailbox.specs.Telling.{telling}
use Rattle.mailbox.specs.Pool.{pool_answer}
use Rattle.mailbox.specs.ByParts.{log_named, LogTold, Told, PoolIn}

-- ---- of the definition: refused before a command's own checks; past them
module _ (d : DeviceState) (op : ℕ) (p : List ℕ) (time room : ℕ) where
  pub pool_refuses : {code : ℕ} → code ≡ checked Pool op (length p) room → (code ≡ 0 → ⊥) → pool_answer d op p time room ≡ no_reply code
  unfolding pool_answer
  pool_refuses e f = simp (sym e, ne_eqb _ _ f)

  pub pool_tells : checked Pool op (length p) room ≡ 0 → pool_answer d op p time room ≡ telling Pool d op p time
  unfolding pool_answer
  pool_tells z = simp (eq-eqb _ _ z)

  -- the reply of the opcode's command
  replied_at : {r : Done} {before after : List ℕ} → checked Pool op (length p) room ≡ 0 → (o : ℕ) {q : Reply} → op ≡ o → telling Pool d o p time ≡ q → Replied q r before after
      → Replied (pool_answer d op p time room) r before after
  replied_at {r} {before} {after} z o e t a = subst (λ (x : Reply). Replied x r before after) (sym (pool_tells z ∙ ap (λ (x : ℕ). telling Pool d x p time) e ∙ t)) a

-- ---- of `pool_command_in`
module _ {volatile persistent : ℕ} {clock : Clock} {policy : List ℕ} {log : Log} {list : PoisonList} {op : ℕ} {p : List ℕ} {time : ℕ} {before : List ℕ} where
  pub pool_refused : {code : ℕ} → code ≡ checked Pool op (length p) (length before) → (code ≡ 0 → ⊥) → PoolIn volatile persistent clock policy log list op p time (record { code = code; length = 0 }) before before
  pool_refused e f = record { replied = λ logs media held. no_bytes (pool_refuses _ op p time _ e f) }

  module _ {code : ℕ} (checks : code ≡ checked Pool op (length p) (length before)) (passed : code ≡ 0) {r : Done} {after : List ℕ} where
    -- Get Event Records
    pub pool_log : op ≡ 0x0100 → LogTold log p r before after → PoolIn volatile persistent clock policy log list op p time r before after
    unfolding telling
    pool_log o a = record { replied = λ logs media held. replied_at _ op p time (length before) (sym checks ∙ passed) 0x0100 o refl (a.replied logs held) }

    -- Get Poison List
    pub pool_list : {lines : ℕ} → op ≡ 0x4300 → lines ≡ unit_lines * (volatile + persistent) → Replied (get_poison_list lines (P.state_of list) p) r before after
        → PoolIn volatile persistent clock policy log list op p time r before after
    unfolding telling
    pool_list o e a =
        record { replied = λ logs media held. replied_at _ op p time (length before) (sym checks ∙ passed) 0x4300 o (ap (λ (n : ℕ). get_poison_list n (P.state_of list) p) (sym e)) a }

    -- the others
    pub pool_told : Told Pool volatile persistent clock policy op p time r before after → PoolIn volatile persistent clock policy log list op p time r before after
    pool_told a = record { replied = λ logs media held. replied_at _ op p time (length before) (sym checks ∙ passed) op refl refl (a.replied logs list media) }

-- ---- at a device: where the log was taken from the place that the payload names
pub pool_parts_answered : (h : Device) {k op : ℕ} {p : List ℕ} {time : ℕ} {r : Done} {before after : List ℕ} → k ≡ log_named p
    → PoolIn h.volatile h.persistent h.clock h.policy (get_or h.logs k blank) h.poison op p time r before after → Replied (pool_answer (state_of h) op p time (length before)) r before after
pool_parts_answered h e a = a.replied h.logs h.media (ap (λ (j : ℕ). get_or h.logs j blank) (sym e))
