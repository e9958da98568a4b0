-- P1 to P10 of document 01 hold of the definitions: one statement over the table of `specs/Cases.antt`, by computation; and so do the cases of W-201. And calls lead from a new device to the
-- devices that the table starts from: `full_reached`, `last_handle_reached`. Assumes nothing.
use mathlib.Core.Path.{◌≡◌, refl, sym, ap, ◌∙◌}
use mathlib.Core.List.{List, [], ◌∷◌, map}
use Prim.Native.Nat.{ℕ, zero, suc, ◌+◌, ◌≤◌, ◌<◌}
use native.Mathlib.Nat.{add-zero}
use native.Mathlib.Omega.{arith}
use borrow.Author.Tests.{lt-ltb}
use lib.ListN.{length, set, replicate}
use Rattle.wire.specs.Wire.{le, field}
use Rattle.events.specs.Log.{handle_of, log_at}
use Rattle.events.specs.Report.{stamped, handle_after}
use Rattle.events.proofs.Laws.{handle_stamped, oldest_named, clear_log_taken}
use Rattle.mailbox.specs.State.{DeviceState, with_logs}
use Rattle.mailbox.specs.DeviceCalls as Device
use Rattle.history.specs.Calls.{media_report, step, after}
use Rattle.history.specs.Cases.{new_unit, event, events, nine, clear_events, giving, last_handle, use_handles, single_reports, full, cases, drain_cases, drained_cases, given_of, stated_of, example, example_output}
use Rattle.history.proofs.Computing.{rules}

-- every row of the table: what the definitions give is what the document says
pub cases_hold : map given_of cases ≡ map stated_of cases
unfolding cases full rules
cases_hold = refl

-- the cases of W-201 likewise
pub drain_cases_hold : map given_of drain_cases ≡ map stated_of drain_cases
unfolding drain_cases rules
drain_cases_hold = refl

pub drained_cases_hold : map given_of drained_cases ≡ map stated_of drained_cases
unfolding drained_cases rules
drained_cases_hold = refl

pub nine_reached : after new_unit (events 9) ≡ nine
unfolding rules
nine_reached = refl

-- the list of 256 entries that P7 to P10 start from is the one that a report of three lines and 255 of one line make of a new device
pub full_reached : after new_unit (media_report 0 64000 3 2 ∷ single_reports 255) ≡ full
unfolding full rules
full_reached = refl

-- the worked example: the definitions give the document's output
pub example_holds : example ≡ example_output
unfolding example example_output rules
example_holds = refl

-- ---- the device that P3 starts from
-- the record of an event
zeros : List ℕ
zeros = replicate 128 0

zeros_size : length zeros ≡ 128
unfolding zeros
zeros_size = refl

-- log 0 holds one record and gives handle n next
abbrev holding : List ℕ → ℕ → DeviceState
holding r n = with_logs new_unit (set new_unit.logs 0 (record { held = r ∷ []; next = n; overflow_count = 0; first_overflow = 0; last_overflow = 0 }))

-- an event is stored with the next handle
event_stored : (h : ℕ) → (step (giving h) event).next ≡ holding (stamped zeros h 0) (handle_after h)
unfolding rules zeros
event_stored h = refl

-- the payload that clears handle h of log 0, and the handle that it carries
abbrev clearing : ℕ → List ℕ
clearing h = 0 ∷ 0 ∷ 1 ∷ 0 ∷ 0 ∷ 0 ∷ le 2 h

handle_carried : (h : ℕ) → h < 65536 → field (clearing h) 6 2 ≡ h
unfolding rules
handle_carried h less = omega arith

-- a record whose handle the clear names goes
event_cleared : (r : List ℕ) (h n : ℕ) → handle_of r ≡ h → h < 65536 → (step (holding r n) (clear_events 0 (h ∷ []))).next ≡ giving n
unfolding rules
event_cleared r h n e less =
    rw (clear_log_taken (log_at (holding r n).logs 0) (clearing h) (oldest_named (log_at (holding r n).logs 0) (clearing h) r [] refl refl refl (e ∙ sym (handle_carried h less))))

-- the two calls use up one handle
handle_used : (h : ℕ) → 1 ≤ h → h < 65535 → after (giving h) (event ∷ clear_events 0 (h ∷ []) ∷ []) ≡ giving (h + 1)
unfolding handle_after
handle_used h low less =
    let next : handle_after h ≡ h + 1 = rw (lt-ltb h 65535 less) in
    ap (λ (d : DeviceState). (step d (clear_events 0 (h ∷ []))).next) (event_stored h)
    ∙ event_cleared (stamped zeros h 0) h (handle_after h) (handle_stamped zeros h 0 zeros_size (omega arith)) (omega arith)
    ∙ ap giving next

-- n handles from h on, used up
handles_used : (n h : ℕ) → 1 ≤ h → h + n ≤ 65535 → after (giving h) (use_handles h n) ≡ giving (h + n)
unfolding use_handles
handles_used zero h low high = ap giving (sym (add-zero h))
handles_used (suc n) h low high =
    ap (λ (d : DeviceState). after d (use_handles (h + 1) n)) (handle_used h low (omega arith))
    ∙ handles_used n (h + 1) (omega arith) (omega arith)
    ∙ ap giving (omega arith)

-- the device whose log 0 gives handle 65,535 next, from which P3 starts, is the one that 65,534 events and their clearings make of a new device
pub last_handle_reached : after new_unit (use_handles 1 65534) ≡ last_handle
unfolding Device.make
last_handle_reached = handles_used 65534 1 (omega arith) (omega arith)
