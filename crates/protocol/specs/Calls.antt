-- The calls of the records that both programs have alike, at the fields read out of the record's bytes (document 01, "Bench program"; document 10, "Records of
-- the base"), by the mailbox's own definitions. A field stands after the two bytes of the mark. Assumes nothing.
use Rattle.std.specs.Prelude.{ℕ, List, get_or}
use Rattle.wire.specs.Wire.{field}
use Rattle.mailbox.specs.State.{DeviceState}
use Rattle.mailbox.specs.DeviceCalls.{MakeOutcome, MediaOutcome, LineOutcome, make, media_report, line_test}

-- "NW (volatile 2, persistent 2)"
abbrev pub new_call : List ℕ → MakeOutcome
new_call r = make (field r 2 2) (field r 4 2)

-- "MD (time 8, address 8, lines 4, type 1)"
abbrev pub media_call : DeviceState → List ℕ → MediaOutcome
media_call d r = media_report d (field r 2 8) (field r 10 8) (field r 18 4) (get_or r 22 0)

-- "LT (address 8)"
abbrev pub line_call : DeviceState → List ℕ → LineOutcome
line_call d r = line_test d (field r 2 8)
