-- What the host's library builds passes the checks of what is reserved (document 02, W-205): the reserved bytes of a clear are zero, so that with flags of 0 or 1 the device looks at
-- its log and its handles; settings with modes 0 and 1 are made. Assumes nothing.
use mathlib.Core.Path.{◌≡◌, ◌∙◌}
use mathlib.Core.Bool.{true}
use mathlib.Core.List.{List}
use Prim.Native.Nat.{ℕ, ◌%◌, ◌≤◌, ◌<◌}
use native.Mathlib.Omega.{arith}
use borrow.Author.Tests.{eq-eqb}
use lib.Dec.{ltb}
use lib.ListN.{length, get_or}
use Rattle.wire.specs.Returns.{success, invalid_input, need}
use Rattle.events.specs.Log.{log_at}
use Rattle.events.specs.Clear.{all_flag, other_flags}
use Rattle.events.proofs.Laws.{NothingReserved, payload_length, payload_reserved, reserved_told}
use Rattle.labels.specs.Labels.{label_size}
use Rattle.commands.specs.Numbers.{mailbox_size}
use Rattle.mailbox.specs.State.{DeviceState, with_policy}
use Rattle.mailbox.specs.Ending.{ended}
use Rattle.mailbox.specs.Outcome.{changes, refused}
use Rattle.settings.specs.Policy.{set_policy}
use Rattle.mailbox.specs.Mailbox.{outcome}
use Rattle.mailbox.proofs.Laws.{modes_known}
use Rattle.host_requests.specs.Requests.{Request, clear_event_records, set_event_interrupt_policy, countable, opcode, payload}
use Rattle.host_requests.specs.Meant.{Widths, clearing, cleared, meant}
use Rattle.host_requests.proofs.Taking.{taken}

-- ---- Clear Event Records with flags of 0 or 1
module _ (log flags : ℕ) (handles : List ℕ) (low : flags ≤ 1) where
  abbrev request : Request
  request = clear_event_records log flags handles

  none_set : other_flags flags ≡ 0
  unfolding other_flags
  none_set = omega arith

  -- No flag bit 1 to 7 of the payload is set, and each of its reserved bytes is zero,
  pub built_unreserved : NothingReserved (payload request)
  unfolding payload
  built_unreserved =
      reserved_told _ (omega (arith, payload_length log flags handles)) (payload_reserved log flags handles (omega arith) ∙ eq-eqb (other_flags flags) 0 none_set)

  -- so that the device refuses it for its log, for Clear All or for its handles, as document 01 has it, and for nothing else.
  pub clear_passes : countable request ≡ true → Widths request → (d : DeviceState) (time : ℕ) (area : List ℕ) → length area ≡ label_size → (room : ℕ) → mailbox_size ≤ room
      → outcome d (opcode request) (payload request) time area room
      ≡ need (ltb log 5) (refused invalid_input (ended d time)) (cleared (ended d time) log (clearing (log_at (ended d time).logs log) (all_flag flags) handles))
  unfolding meant
  clear_passes few widths d time area sized room fits = (taken request few widths).outcome d time area sized room fits ∙ rw (eq-eqb (other_flags flags) 0 none_set)

-- ---- Set Event Interrupt Policy of four or five bytes with modes 0 and 1: Success, and the settings are made
pub settings_pass : (settings : List ℕ) → countable (set_event_interrupt_policy settings) ≡ true → ((i : ℕ) → i < length settings → get_or settings i 0 % 4 < 2)
    → (d : DeviceState) (time : ℕ) (area : List ℕ) → length area ≡ label_size → (room : ℕ) → mailbox_size ≤ room
    → outcome d (opcode (set_event_interrupt_policy settings)) (payload (set_event_interrupt_policy settings)) time area room
    ≡ changes success (with_policy (ended d time) (set_policy d.policy settings))
unfolding meant
settings_pass settings few each d time area sized room fits = (taken (set_event_interrupt_policy settings) few tt).outcome d time area sized room fits ∙ rw (modes_known settings each)
