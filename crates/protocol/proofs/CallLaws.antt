-- The mailbox's answers said of a record's bytes; the reply in its buffer; a record served, by another name. Assumes nothing.
use mathlib.Core.Path.{◌≡◌, sym, ap, ap₂, subst, ◌∙◌}
use mathlib.Core.List.{List}
use Prim.Native.Nat.{ℕ, ◌-◌, ◌≤◌}
use native.Mathlib.Omega.{arith}
use lib.ListN.{length, take, drop, get_or, length-drop, length-append}
use lib.Seq.{take_all}
use Rattle.wire.specs.Wire.{field, splice}
use Rattle.mailbox.specs.declared.device.Device.{Device}
use Rattle.mailbox.specs.declared.device.Made.{Made}
use Rattle.mailbox.specs.declared.device.Answer.{Answer}
use Rattle.mailbox.specs.declared.device_calls.EventAnswer.{EventAnswer}
use Rattle.mailbox.specs.declared.device_calls.MediaAnswer.{MediaAnswer}
use Rattle.mailbox.specs.declared.device_calls.LineAnswer.{LineAnswer}
use Rattle.mailbox.specs.State.{DeviceState, state_of}
use Rattle.mailbox.specs.Ending.{AfterEnding}
use Rattle.mailbox.specs.Outcome.{Outcome}
use Rattle.mailbox.specs.Mailbox.{outcome, area_after}
use Rattle.mailbox.specs.DeviceCalls.{MakeOutcome, EventOutcome, MediaOutcome, LineOutcome, make, event_report, media_report, line_test}
use Rattle.mailbox.specs.Relations.{Answered, Makes, EventDone, MediaDone, LineDone}
use Rattle.protocol.specs.declared.calls.Served.{Served}
use Rattle.protocol.specs.Calls.{new_call, media_call, line_call}
use Rattle.protocol.specs.Runs.{Printed}
use Rattle.protocol.specs.Relations.{Serves}

-- all that comes after the first n elements
pub rest_of : (n : ℕ) (xs : List ℕ) → take (length xs - n) (drop n xs) ≡ drop n xs
rest_of n xs = take_all (length xs - n) (drop n xs) (rw length-drop (omega arith))

-- a command and an event report at equal arguments: what was called with, and what a record's fields say
pub command_at : {op op' time time' room room' : ℕ} {payload payload' area area' before before' after : List ℕ} {d : Device} {r : Answer}
    → AfterEnding d time (λ (e : Device). Answered (outcome (state_of d) op payload time area room) e r before after) → op ≡ op' → payload ≡ payload' → time ≡ time' → area ≡ area' → room ≡ room'
    → before ≡ before' → AfterEnding d time' (λ (e : Device). Answered (outcome (state_of d) op' payload' time' area' room') e r before' after)
command_at {after = after} {d = d} {r = r} h eo ep et ea er eb =
    subst (λ (x : ℕ × Outcome × List ℕ). AfterEnding d x.0 (λ (e : Device). Answered x.1 e r x.2 after)) (λ i. (et i, outcome (state_of d) (eo i) (ep i) (et i) (ea i) (er i), eb i)) h

pub event_at : {time time' log log' : ℕ} {bytes bytes' : List ℕ} {d : Device} {r : EventAnswer}
    → AfterEnding d time (λ (e : Device). EventDone (event_report (state_of d) time log bytes) e r) → time ≡ time' → log ≡ log' → bytes ≡ bytes'
    → AfterEnding d time' (λ (e : Device). EventDone (event_report (state_of d) time' log' bytes') e r)
event_at {d = d} {r = r} h et el eb =
    subst (λ (x : ℕ × EventOutcome). AfterEnding d x.0 (λ (e : Device). EventDone x.1 e r)) (λ i. (et i, event_report (state_of d) (et i) (el i) (eb i))) h

-- the label area after a command, at an equal opcode and payload
pub area_at : (code : ℕ) (area : List ℕ) {op op' : ℕ} {payload payload' after : List ℕ} → after ≡ area_after op payload code area → op ≡ op' → payload ≡ payload'
    → after ≡ area_after op' payload' code area
area_at code area h eo ep = h ∙ ap₂ (λ (o : ℕ) (p : List ℕ). area_after o p code area) eo ep

-- the calls at the record's fields
pub make_as : (bytes : List ℕ) (v p : ℕ) {r : Made} → Makes (make v p) r → v ≡ field bytes 2 2 → p ≡ field bytes 4 2 → Makes (new_call bytes) r
make_as bytes v p {r} h ev ep = subst (λ (o : MakeOutcome). Makes o r) (λ i. make (ev i) (ep i)) h

pub media_as : (bytes : List ℕ) (time address n kind : ℕ) {d : Device} {r : MediaAnswer}
    → AfterEnding d time (λ (e : Device). MediaDone (media_report (state_of d) time address n kind) e r) → time ≡ field bytes 2 8 → address ≡ field bytes 10 8 → n ≡ field bytes 18 4
    → kind ≡ get_or bytes 22 0 → AfterEnding d (field bytes 2 8) (λ (e : Device). MediaDone (media_call (state_of d) bytes) e r)
media_as bytes time address n kind {d} {r} h et ea en ek =
    subst (λ (x : ℕ × MediaOutcome). AfterEnding d x.0 (λ (e : Device). MediaDone x.1 e r)) (λ i. (et i, media_report (state_of d) (et i) (ea i) (en i) (ek i))) h

pub line_as : (bytes : List ℕ) (address : ℕ) (d : Device) {r : LineAnswer} → LineDone (line_test (state_of d) address) r → address ≡ field bytes 2 8
    → LineDone (line_call (state_of d) bytes) r
line_as bytes address d {r} h ea = subst (λ (o : LineOutcome). LineDone o r) (λ i. line_test (state_of d) (ea i)) h

-- the reply lies in the buffer
pub reply_fits : {o : Outcome} {d : Device} {a : Answer} {before after : List ℕ} → Answered o d a before after → length after ≡ length before → a.length ≤ length after
unfolding splice
reply_fits told kept = omega (arith, told.size, simp length-append at (ap length told.bytes))

-- a record served, by another name
pub serves_as : {o p : Printed DeviceState} {used : ℕ} {r : Served} {before after : List ℕ} → Serves o used r before after → p ≡ o → Serves p used r before after
serves_as {o} {p} {used} {r} {before} {after} h e = subst (λ (x : Printed DeviceState). Serves x used r before after) (sym e) h
