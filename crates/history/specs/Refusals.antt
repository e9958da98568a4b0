-- What a refused call gives beside its number (document 01, "Return numbers"): "Every non-zero number returns reply length 0"; "A refused device-side call
-- answers not stored, 0 lines, Unknown with type 0." And no vector to raise (document 02, W-204): "otherwise none". Assumes nothing.
use Rattle.std.specs.Prelude.{◌≡◌, false, []}
use Rattle.mailbox.specs.State.{DeviceState}
use Rattle.settings.specs.Vector.{no_vector}
use Rattle.settings.specs.Media.{due}
use Rattle.mailbox.specs.Ending.{ended}
use Rattle.mailbox.specs.Mailbox.{outcome}
use Rattle.mailbox.specs.Pool.{pool_answer}
use Rattle.mailbox.specs.DeviceCalls as Device
use Rattle.history.specs.Calls.{Call, command, event_report, media_report, line_test, event_status, damage_total, pool_command}

-- a call on a device gives nothing: no reply and no vector; not stored and no vector; 0 lines; Unknown, number 2, with type 0; of the second mailbox no reply (document 02, W-208). Event status and damage total are never refused.
abbrev pub GivesNothing : DeviceState → Call → Type 0
GivesNothing d (command opcode payload time area room) = ((outcome d opcode payload time area room).reply ≡ []) × ((outcome d opcode payload time area room).vector ≡ no_vector)
GivesNothing d (event_report time log bytes) = ((Device.event_report d time log bytes).stored ≡ false) × ((Device.event_report d time log bytes).vector ≡ no_vector)
GivesNothing d (media_report time address lines kind) = ((Device.media_report d time address lines kind).stored ≡ 0) × ((Device.media_report d time address lines kind).dropped ≡ 0)
GivesNothing d (line_test address) = ((Device.line_test d address).number ≡ 2) × ((Device.line_test d address).kind ≡ 0)
GivesNothing d event_status = ⊥
GivesNothing d damage_total = ⊥
GivesNothing d (pool_command opcode payload time room) = (pool_answer d opcode payload time room).bytes ≡ []

-- the device that a call finds: a command and a report end a due Sanitize first; a line test, event status and damage total carry no time and end nothing (document 02, W-207), and the second mailbox's commands "never end a Sanitize" (W-208)
abbrev pub found_by : DeviceState → Call → DeviceState
found_by d (command opcode payload time area room) = ended d time
found_by d (event_report time log bytes) = ended d time
found_by d (media_report time address lines kind) = ended d time
found_by d (line_test address) = d
found_by d event_status = d
found_by d damage_total = d
found_by d (pool_command opcode payload time room) = d

-- no Sanitize is due at the time of a call that would end it
abbrev pub NothingDue : DeviceState → Call → Type 0
NothingDue d (command opcode payload time area room) = due d.media time ≡ false
NothingDue d (event_report time log bytes) = due d.media time ≡ false
NothingDue d (media_report time address lines kind) = due d.media time ≡ false
NothingDue d (line_test address) = Unit {0}
NothingDue d event_status = Unit {0}
NothingDue d damage_total = Unit {0}
NothingDue d (pool_command opcode payload time room) = Unit {0}
