-- The paper of demand 3 over calls (document 01, "Promises and how they are tried"): "Its paper is fed only the calls, with their arguments and return
-- numbers." It decodes payloads itself and sees nothing of the device. The rules on lines are those of the list layer's Paper. Assumes nothing.
use Rattle.std.specs.Prelude.{ℕ, cond, List, [], ◌∷◌, eqb}
use Rattle.wire.specs.Wire.{field}
use Rattle.poison.specs.Paper.{Paper, paper_report, paper_inject, paper_clear}
use Rattle.mailbox.specs.State.{DeviceState}
use Rattle.list_commands.specs.PoisonCommands.{line_of}
use Rattle.history.specs.Calls.{Call, command, event_report, media_report, line_test, event_status, damage_total, pool_command, step}

-- a command answered 0000h: Inject Poison 4301h and Clear Poison 4302h, whose address is the payload's first 8 bytes; no other changes the paper
abbrev pub write_command : Paper → ℕ → List ℕ → Paper
write_command p opcode payload =
    cond (eqb opcode 0x4301) (paper_inject p (line_of (field payload 0 8)))
    (cond (eqb opcode 0x4302) (paper_clear p (line_of (field payload 0 8)))
    p)

-- "Three calls change it, and only on 0000h"
unfoldable pub write : Paper → Call → ℕ → Paper
write p (command opcode payload time area room) code = cond (eqb code 0) (write_command p opcode payload) p
write p (event_report time log bytes) code = p
write p (media_report time address lines kind) code = cond (eqb code 0) (paper_report p (line_of address) lines) p
write p (line_test address) code = p
write p event_status code = p
write p damage_total code = p
write p (pool_command opcode payload time room) code = p

-- the device and the paper after a list of calls
pub record Pair : Type 0 where
  pub device : DeviceState
  pub paper : Paper

abbrev pub history : DeviceState → Paper → List Call → Pair
history d p [] = record { device = d; paper = p }
history d p (c ∷ cs) = history (step d c).next (write p c (step d c).code) cs
