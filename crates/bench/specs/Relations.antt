-- What the functions of the first record and of a command ensure. Assumes nothing.
use Rattle.std.specs.Prelude.{ℕ, ◌≡◌, List}
use Rattle.mailbox.specs.declared.device.Device.{Device}
use Rattle.mailbox.specs.State.{DeviceState, ValidDevice, state_of}
use Rattle.protocol.specs.declared.calls.Served.{Served}
use Rattle.protocol.specs.Relations.{PutsLine}
use Rattle.protocol.specs.Runs.{Printed}
use Rattle.bench.specs.declared.serve.Begun.{Begun}
use Rattle.bench.specs.Calls.{Kept}

-- the device and the label area that the code has
abbrev pub kept_of : Device → List ℕ → Kept
kept_of d area = record { device = state_of d; area = area }

-- a record served: its line put into the output buffer, and the device and the label area that follow
pub record Leaves (o : Printed Kept) (used : ℕ) (r : Served) (area before after : List ℕ) : Type 0 where
  pub line : PutsLine used o.line before after r.used
  pub next : kept_of r.device area ≡ o.next
  pub valid : ValidDevice r.device

-- the first record served
pub record Begins (o : Printed DeviceState) (code : ℕ) (r : Begun) (before after : List ℕ) : Type 0 where
  pub number : r.code ≡ code
  pub line : PutsLine 0 o.line before after r.used
  pub next : state_of r.device ≡ o.next
  pub valid : ValidDevice r.device
