-- The record `PC`, a command of the second mailbox (document 10, "Records that a request brings", W-208), by the mailbox's own definition. Assumes nothing.
use Rattle.std.specs.Prelude.{ℕ, List, get_or, drop, replicate}
use Rattle.wire.specs.Wire.{field}
use Rattle.wire.specs.Done.{Written}
use Rattle.mailbox.specs.State.{DeviceState}
use Rattle.mailbox.specs.Pool.{pool_answer}
use Rattle.protocol.specs.Records.{PC}
use Rattle.protocol.specs.Runs.{Printed}
use Rattle.host_records.specs.Lines.{written_line}

-- of a command's record, `CM` or `PC`: "the buffer that the call writes has `room` bytes, each of them `fill` before the call"
abbrev pub filled : List ℕ → List ℕ
filled r = replicate (field r 12 2) (get_or r 14 0)

-- `PC` "as `CM`": "time 8, opcode 2, room 2, fill 1, length 2, payload"
abbrev pub pool_call : DeviceState → List ℕ → Written
pool_call d r = pool_answer d (field r 10 2) (drop 17 r) (field r 2 8) (field r 12 2)

-- `PC code length bytes kept`: "`PC` has no vector column"; the device stays
unfoldable pub serve_pool : DeviceState → List ℕ → Printed DeviceState
serve_pool d r = record { line = written_line PC (get_or r 14 0) (field r 12 2) (pool_call d r); next = d }
