-- Each record's call, at the fields read out of its bytes (document 10, "Records of the base" and the row of W-204), by the mailbox's own definitions; and what serving
-- it gives: "Every answer is printed whole, also of a refused call". A field stands after the two bytes of the mark. The records of the
-- host library stand in `HostRequests`, `HostReplies`, `HostRewrites` and `HostWalks`, those of the label store in `LabelRecords`, that of the second mailbox in `PoolRecords`. Assumes nothing.
use Rattle.std.specs.Prelude.{ℕ, cond, List, [], ◌∷◌, ◌++◌, eqb, length, get_or, drop}
use Rattle.wire.specs.Wire.{field, splice}
use Rattle.mailbox.specs.State.{DeviceState}
use Rattle.mailbox.specs.Outcome.{Outcome}
use Rattle.mailbox.specs.Mailbox.{outcome, area_after}
use Rattle.mailbox.specs.DeviceCalls.{EventOutcome, event_report, event_status, damage_total}
use Rattle.protocol.specs.declared.formats.Format.TheVariants.{Probe}
use Rattle.protocol.specs.Text.{column, line_end, numbers_line}
use Rattle.protocol.specs.Records.{mark_of, NW, CM, EV, MD, LT, ES, DT, RQ, RP, RW, WK, AR, AB, PC}
use Rattle.protocol.specs.Formats.{fixed, head, size}
use Rattle.protocol.specs.Calls.{new_call, media_call, line_call}
use Rattle.protocol.specs.Runs.{Printed, Program}
use Rattle.host_records.specs.Lines.{buffer_columns}
use Rattle.host_records.specs.HostRequests.{serve_request}
use Rattle.reply_records.specs.HostReplies.{serve_reply}
use Rattle.reply_records.specs.HostRewrites.{serve_again}
use Rattle.host_records.specs.HostWalks.{serve_walk}
use Rattle.probe.specs.PoolRecords.{filled, serve_pool}
use Rattle.probe.specs.LabelRecords.{Kept, area_lent, store_with, keeps_store, serve_area, serve_bytes}

-- `CM` "time 8, opcode 2, room 2, fill 1, length 2, payload", with this label area lent
abbrev pub command_call : DeviceState → List ℕ → List ℕ → Outcome
command_call d area r = outcome d (field r 10 2) (drop 17 r) (field r 2 8) area (field r 12 2)

-- the label area after that command, by the number that answered it
abbrev pub area_left : List ℕ → List ℕ → ℕ → List ℕ
area_left area r code = area_after (field r 10 2) (drop 17 r) code area

-- `EV` "time 8, log 1, length 2, record of that length"
abbrev pub event_call : DeviceState → List ℕ → EventOutcome
event_call d r = event_report d (field r 2 8) (get_or r 10 0) (drop 13 r)

-- `NW code`: "A later make puts a new device in the place of the old one. A refused make prints its number, and the device that came beside it is used"
unfoldable pub serve_new : List ℕ → Printed DeviceState
serve_new r = record { line = numbers_line NW ((new_call r).code ∷ []); next = (new_call r).next }

-- `CM code length bytes kept`: the buffer with the reply at its front; "`CM` and `EV` end in one more column: the vector, 0 for none" (W-204)
abbrev pub command_line : ℕ → ℕ → ℕ → List ℕ → ℕ → List ℕ
command_line code n fill buffer vector = (buffer_columns CM code n fill buffer ++ column vector) ++ line_end

unfoldable pub serve_command : DeviceState → List ℕ → List ℕ → Printed DeviceState
serve_command d area r =
    let o = command_call d area r in
    record { line = command_line o.code (length o.reply) (get_or r 14 0) (splice 0 o.reply (filled r)) o.vector; next = o.next }

-- `EV code stored` (1 or 0), and the vector
unfoldable pub serve_event : DeviceState → List ℕ → Printed DeviceState
serve_event d r =
    let o = event_call d r in
    record { line = numbers_line EV (o.code ∷ cond o.stored 1 0 ∷ o.vector ∷ []); next = o.next }

-- `MD code stored dropped`
unfoldable pub serve_media : DeviceState → List ℕ → Printed DeviceState
serve_media d r = record { line = numbers_line MD ((media_call d r).code ∷ (media_call d r).stored ∷ (media_call d r).dropped ∷ []); next = (media_call d r).next }

-- `LT code answer type`
unfoldable pub serve_line : DeviceState → List ℕ → Printed DeviceState
serve_line d r = record { line = numbers_line LT ((line_call d r).code ∷ (line_call d r).number ∷ (line_call d r).kind ∷ []); next = d }

-- `ES bits waiting highest`
unfoldable pub serve_status : DeviceState → Printed DeviceState
serve_status d = record { line = numbers_line ES ((event_status d).bits ∷ (event_status d).waiting ∷ (event_status d).highest ∷ []); next = d }

-- `DT total`
unfoldable pub serve_total : DeviceState → Printed DeviceState
serve_total d = record { line = numbers_line DT (damage_total d ∷ []); next = d }

-- `CM` with as much of the store lent as the last `AR` says: what the command leaves of the area lent is the store's
unfoldable pub serve_lent : Kept → List ℕ → Printed Kept
serve_lent k r =
    let o = serve_command k.device (area_lent k) r in
    let code = (command_call k.device (area_lent k) r).code in
    record { line = o.line; next = record { device = o.next; store = store_with k (area_left (area_lent k) r code); lent = k.lent } }

-- a record that sees the device alone, by its mark; of another mark there is none
unfoldable pub serve_device : DeviceState → List ℕ → Printed DeviceState
serve_device d r =
    cond (eqb (mark_of r) (mark_of NW)) (serve_new r)
    (cond (eqb (mark_of r) (mark_of EV)) (serve_event d r)
    (cond (eqb (mark_of r) (mark_of MD)) (serve_media d r)
    (cond (eqb (mark_of r) (mark_of LT)) (serve_line d r)
    (cond (eqb (mark_of r) (mark_of ES)) (serve_status d)
    (cond (eqb (mark_of r) (mark_of DT)) (serve_total d)
    (cond (eqb (mark_of r) (mark_of RQ)) (serve_request d r)
    (cond (eqb (mark_of r) (mark_of RP)) (serve_reply d r)
    (cond (eqb (mark_of r) (mark_of RW)) (serve_again d r)
    (cond (eqb (mark_of r) (mark_of WK)) (serve_walk d r)
    (cond (eqb (mark_of r) (mark_of PC)) (serve_pool d r) (record { line = []; next = d })))))))))))

-- a record, by its mark
unfoldable pub serve_record : Kept → List ℕ → Printed Kept
serve_record k r =
    cond (eqb (mark_of r) (mark_of CM)) (serve_lent k r)
    (cond (eqb (mark_of r) (mark_of AR)) (serve_area k r)
    (cond (eqb (mark_of r) (mark_of AB)) (serve_bytes k r) (keeps_store k (serve_device k.device r))))

-- the program
abbrev pub probe : Program Kept
probe = record { fixed = fixed Probe; head = head Probe; size = size Probe; serve = serve_record }
