-- What the function that serves a record ensures. Assumes nothing.
use Rattle.std.specs.Prelude.{ℕ, ◌≤◌, ◌≡◌, List}
use Rattle.mailbox.specs.declared.device.Device.{Device}
use Rattle.mailbox.specs.State.{ValidDevice, state_of}
use Rattle.protocol.specs.Relations.{PutsLine}
use Rattle.protocol.specs.Runs.{Printed}
use Rattle.probe.specs.declared.serve.ServedRecord.{ServedRecord}
use Rattle.probe.specs.LabelRecords.{Kept}

-- the device, the label store and the size lent that the code has
abbrev pub kept_of : Device → List ℕ → ℕ → Kept
kept_of d store lent = record { device = state_of d; store = store; lent = lent }

-- a record served: its line put into the output buffer; the device, the label store and the size lent that follow; and the store has so many bytes
pub record Leaves (o : Printed Kept) (used : ℕ) (r : ServedRecord) (store before after : List ℕ) : Type 0 where
  pub line : PutsLine used o.line before after r.used
  pub next : kept_of r.device store r.lent ≡ o.next
  pub valid : ValidDevice r.device
  pub inside : r.lent ≤ 8192
