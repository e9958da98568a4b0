-- The record `WK`, which walks the poison list of the device (document 10, "Records that a request brings", W-202), by the host library's own definition. Assumes
-- nothing.
use Rattle.std.specs.Prelude.{ℕ, List, get_or}
use Rattle.wire.specs.Wire.{field}
use Rattle.mailbox.specs.State.{DeviceState}
use Rattle.wire.specs.Done.{Written}
use Rattle.host.specs.Walking.{walk_on}
use Rattle.protocol.specs.Records.{WK}
use Rattle.protocol.specs.Runs.{Printed}
use Rattle.host_records.specs.Lines.{written_line}

-- `WK` "address 8, lines 8, room 4, fill 1": "the walk of this device"
abbrev pub walk_call : DeviceState → List ℕ → Written
walk_call d r = walk_on d (field r 2 8) (field r 10 8) (field r 18 4)

-- `WK code length bytes kept`: it "leaves the device as it is"
unfoldable pub serve_walk : DeviceState → List ℕ → Printed DeviceState
serve_walk d r = record { line = written_line WK (get_or r 22 0) (field r 18 4) (walk_call d r); next = d }
