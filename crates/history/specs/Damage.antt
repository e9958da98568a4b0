-- Damage that was reported and not cleared since, from the calls and their return numbers alone. Assumes nothing.
use Rattle.std.specs.Prelude.{◌≡◌, Bool, false, ◌&&◌, List, [], ◌∷◌, ℕ, eqb}
use Rattle.wire.specs.Wire.{field}
use Rattle.poison.specs.Runs.{run, in_run}
use Rattle.mailbox.specs.State.{DeviceState}
use Rattle.history.specs.Calls.{Call, command, event_report, media_report, line_test, event_status, damage_total, pool_command, step}
use Rattle.list_commands.specs.PoisonCommands.{line_of}

-- whether a call, answered with a number, reports line k damaged: an accepted media report over it, or an Inject Poison of it answered Success
abbrev pub reports : Call → ℕ → ℕ → Bool
reports (command opcode payload time area room) code k = eqb code 0 && (eqb opcode 0x4301 && eqb k (line_of (field payload 0 8)))
reports (event_report time log bytes) code k = false
reports (media_report time address lines kind) code k = eqb code 0 && in_run (run (line_of address) lines) k
reports (line_test address) code k = false
reports event_status code k = false
reports damage_total code k = false
reports (pool_command opcode payload time room) code k = false

-- whether it clears line k: a Clear Poison of it answered Success
abbrev pub clears : Call → ℕ → ℕ → Bool
clears (command opcode payload time area room) code k = eqb code 0 && (eqb opcode 0x4302 && eqb k (line_of (field payload 0 8)))
clears (event_report time log bytes) code k = false
clears (media_report time address lines kind) code k = false
clears (line_test address) code k = false
clears event_status code k = false
clears damage_total code k = false
clears (pool_command opcode payload time room) code k = false

-- no call of a list clears line k
abbrev pub NotCleared : DeviceState → List Call → ℕ → Type 0
NotCleared d [] k = Unit {0}
NotCleared d (c ∷ cs) k = (clears c (step d c).code k ≡ false) × NotCleared (step d c).next cs k
