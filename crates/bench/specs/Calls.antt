-- Each record's call, at the fields read out of its bytes (document 01, "Bench program"), by the mailbox's own definitions; and what serving it gives.
-- A field stands after the two bytes of the mark. NW, MD and LT have the calls of `protocol`. Assumes nothing.
use Rattle.std.specs.Prelude.{ℕ, cond, List, [], ◌∷◌, eqb, get_or, drop}
use Rattle.wire.specs.Wire.{field, part}
use Rattle.mailbox.specs.State.{DeviceState}
use Rattle.mailbox.specs.Outcome.{Outcome}
use Rattle.mailbox.specs.Mailbox.{outcome, area_after}
use Rattle.mailbox.specs.DeviceCalls.{EventOutcome, event_report}
use Rattle.protocol.specs.declared.formats.Format.TheVariants.{Bench}
use Rattle.protocol.specs.Text.{numbers_line}
use Rattle.protocol.specs.Records.{mark_of, NW, CM, EV, MD, LT}
use Rattle.protocol.specs.Formats.{fixed, head, size}
use Rattle.protocol.specs.Calls.{new_call, media_call, line_call}
use Rattle.protocol.specs.Runs.{Printed, Program}
use Rattle.bench.specs.Lines.{command_line, told_line}

-- what a record leaves to the next: the device, and the label area, which "is kept"
pub record Kept : Type 0 where
  pub device : DeviceState
  pub area : List ℕ

-- "CM (time 8, opcode 2, length 2, payload)", with the label area kept and a reply buffer of 2,048 bytes
abbrev pub command_call : Kept → List ℕ → Outcome
command_call k r = outcome k.device (field r 10 2) (drop 14 r) (field r 2 8) k.area 2048

-- the label area after that command, by the number that answered it
abbrev pub area_left : Kept → List ℕ → ℕ → List ℕ
area_left k r code = area_after (field r 10 2) (drop 14 r) code k.area

-- "EV (time 8, log 1, record 128)"
abbrev pub event_call : DeviceState → List ℕ → EventOutcome
event_call d r = event_report d (field r 2 8) (get_or r 10 0) (part 11 128 r)

-- the first record: the device that it makes
unfoldable pub first_record : List ℕ → Printed DeviceState
first_record r = record { line = numbers_line NW ((new_call r).code ∷ []); next = (new_call r).next }

-- CM: the code, the length of the reply and its bytes; the command leaves a device and an area
unfoldable pub serve_command : Kept → List ℕ → Printed Kept
serve_command k r =
    record {
      line = command_line (command_call k r).code (command_call k r).reply;
      next = record { device = (command_call k r).next; area = area_left k r (command_call k r).code };
    }

-- "EV 1 or 0": stored or not
unfoldable pub serve_event : DeviceState → List ℕ → Printed DeviceState
serve_event d r = record { line = told_line EV (event_call d r).code (cond (event_call d r).stored 1 0 ∷ []); next = (event_call d r).next }

-- "MD stored and dropped"
unfoldable pub serve_media : DeviceState → List ℕ → Printed DeviceState
serve_media d r = record { line = told_line MD (media_call d r).code ((media_call d r).stored ∷ (media_call d r).dropped ∷ []); next = (media_call d r).next }

-- "LT answer and type"; a line test leaves the device
unfoldable pub serve_line : DeviceState → List ℕ → Printed DeviceState
serve_line d r = record { line = told_line LT (line_call d r).code ((line_call d r).number ∷ (line_call d r).kind ∷ []); next = d }

-- a record that sees the device alone: its line as it is, the device that it leaves, and the area kept
abbrev pub keeps_area : Kept → Printed DeviceState → Printed Kept
keeps_area k o = record { line = o.line; next = record { device = o.next; area = k.area } }

-- a later record, by its mark; of another mark there is none
unfoldable pub serve_record : Kept → List ℕ → Printed Kept
serve_record k r =
    cond (eqb (mark_of r) (mark_of CM)) (serve_command k r)
    (keeps_area k
    (cond (eqb (mark_of r) (mark_of EV)) (serve_event k.device r)
    (cond (eqb (mark_of r) (mark_of MD)) (serve_media k.device r)
    (cond (eqb (mark_of r) (mark_of LT)) (serve_line k.device r) (record { line = []; next = k.device })))))

-- the program after the first record
abbrev pub bench : Program Kept
bench = record { fixed = fixed Bench; head = head Bench; size = size Bench; serve = serve_record }
