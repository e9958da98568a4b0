-- The mailbox's answers said of a record's bytes, each answer with its line, and which of them serves a record of each mark. Assumes nothing.
use mathlib.Core.Path.{◌≡◌, refl, sym, ap, ap₂, subst, ◌∙◌}
use mathlib.Core.Bool.{Bool, cond}
use mathlib.Core.List.{List, [], ◌∷◌}
use Prim.Native.Nat.{ℕ, ◌+◌}
use lib.ListN.{length, take, drop}
use lib.Seq.{take_at}
use Rattle.wire.specs.Wire.{field, splice}
use Rattle.mailbox.specs.declared.device.Device.{Device}
use Rattle.mailbox.specs.declared.device.Made.{Made}
use Rattle.mailbox.specs.declared.device.Answer.{Answer}
use Rattle.mailbox.specs.declared.device_calls.EventAnswer.{EventAnswer}
use Rattle.mailbox.specs.declared.device_calls.MediaAnswer.{MediaAnswer}
use Rattle.mailbox.specs.declared.device_calls.LineAnswer.{LineAnswer}
use Rattle.mailbox.specs.State.{DeviceState, ValidDevice, state_of}
use Rattle.mailbox.specs.Ending.{AfterEnding}
use Rattle.mailbox.specs.LineStatus.{status_number, status_type}
use Rattle.mailbox.specs.Outcome.{Outcome}
use Rattle.mailbox.specs.Relations.{Answered, Makes, EventDone, MediaDone, LineDone}
use Rattle.protocol.specs.declared.calls.Served.{Served}
use Rattle.protocol.specs.Text.{numbers_line}
use Rattle.protocol.specs.Records.{mark_of, NW, CM, EV, MD, LT}
use Rattle.protocol.specs.Calls.{new_call, media_call, line_call}
use Rattle.protocol.specs.Relations.{PutsLine, Serves}
use Rattle.protocol.specs.Runs.{Printed}
use Rattle.protocol.proofs.Laws.{puts_line_as}
use Rattle.bench.specs.Lines.{command_line, told_line}
use Rattle.bench.specs.Calls.{Kept, command_call, area_left, keeps_area, event_call, first_record, serve_command, serve_event, serve_media, serve_line, serve_record}
use Rattle.bench.specs.Relations.{Begins, kept_of, Leaves}

-- the reply, read back out of the reply buffer
reply_read : {o : Outcome} {d : Device} {a : Answer} {before after : List ℕ} → Answered o d a before after → take a.length after ≡ o.reply
unfolding splice
reply_read {o} {before = before} told =
    ap₂ take told.size told.bytes ∙ take_at o.reply (drop (0 + length o.reply) before) (length o.reply) refl

-- each record served
pub command_served : (bytes area : List ℕ) {d : Device} {a : Answer} {area' held reply before after : List ℕ} {used e : ℕ}
    → AfterEnding d (field bytes 2 8) (λ (f : Device). Answered (command_call (kept_of d area) bytes) f a held reply) → area' ≡ area_left (kept_of d area) bytes a.code
    → PutsLine used (command_line a.code (take a.length reply)) before after e
    → Leaves (serve_command (kept_of d area) bytes) used (record { used = e; device = a.device }) area' before after
unfolding serve_command
command_served bytes area {d} call left put =
    let told = call.done in
    record {
      line = puts_line_as put (ap₂ command_line told.code (reply_read told));
      next = λ i. record { device = told.next i; area = (left ∙ ap (area_left (kept_of d area) bytes) told.code) i };
      valid = told.valid;
    }

pub event_served : (bytes : List ℕ) {d : Device} {a : EventAnswer} {before after : List ℕ} {used e : ℕ}
    → AfterEnding d (field bytes 2 8) (λ (f : Device). EventDone (event_call (state_of d) bytes) f a)
    → PutsLine used (told_line EV a.code (cond a.stored 1 0 ∷ [])) before after e
    → Serves (serve_event (state_of d) bytes) used (record { used = e; device = a.device }) before after
unfolding serve_event
event_served bytes call put =
    let told = call.done in
    record {
      line = puts_line_as put (ap₂ (λ (c : ℕ) (b : Bool). told_line EV c (cond b 1 0 ∷ [])) told.code told.stored);
      next = told.next;
      valid = told.valid;
    }

pub media_served : (bytes : List ℕ) {d : Device} {a : MediaAnswer} {before after : List ℕ} {used e : ℕ}
    → AfterEnding d (field bytes 2 8) (λ (f : Device). MediaDone (media_call (state_of d) bytes) f a)
    → PutsLine used (told_line MD a.code (a.stored ∷ a.dropped ∷ [])) before after e
    → Serves (serve_media (state_of d) bytes) used (record { used = e; device = a.device }) before after
unfolding serve_media
media_served bytes call put =
    let told = call.done in
    record { line = puts_line_as put (λ i. told_line MD (told.code i) (told.stored i ∷ told.dropped i ∷ [])); next = told.next; valid = told.valid }

pub line_served : (bytes : List ℕ) (d : Device) {a : LineAnswer} {before after : List ℕ} {used e x y : ℕ} → LineDone (line_call (state_of d) bytes) a
    → x ≡ status_number a.answer → y ≡ status_type a.answer → PutsLine used (told_line LT a.code (x ∷ y ∷ [])) before after e
    → PutsLine used (serve_line (state_of d) bytes).line before after e
unfolding serve_line
line_served bytes d told ex ey put = puts_line_as put (λ i. told_line LT (told.code i) ((ex ∙ told.number) i ∷ (ey ∙ told.kind) i ∷ []))

-- a line test leaves the device
pub line_stays : (bytes : List ℕ) {d : Device} {before after : List ℕ} {used e : ℕ} → PutsLine used (serve_line (state_of d) bytes).line before after e → ValidDevice d
    → Serves (serve_line (state_of d) bytes) used (record { used = e; device = d }) before after
unfolding serve_line
line_stays bytes put valid = record { line = put; next = refl; valid = valid }

-- the first record served
pub begun : (bytes : List ℕ) {m : Made} {e : ℕ} {before after : List ℕ} → Makes (new_call bytes) m → PutsLine 0 (numbers_line NW (m.code ∷ [])) before after e
    → Begins (first_record bytes) (new_call bytes).code (record { code = m.code; used = e; device = m.device }) before after
unfolding first_record
begun bytes made put =
    record { number = made.code; line = puts_line_as put (ap (λ (c : ℕ). numbers_line NW (c ∷ [])) made.code); next = made.next; valid = made.valid }

-- a record that sees the device alone leaves the area
pub area_kept : (k : Kept) {o : Printed DeviceState} {used : ℕ} {r : Served} {before after : List ℕ} → Serves o used r before after
    → Leaves (keeps_area k o) used r k.area before after
area_kept k served = record { line = served.line; next = λ i. record { device = served.next i; area = k.area }; valid = served.valid }

-- a record served, by another name
pub leaves_as : {o p : Printed Kept} {used : ℕ} {r : Served} {area before after : List ℕ} → Leaves o used r area before after → p ≡ o → Leaves p used r area before after
leaves_as {o} {p} {used} {r} {area} {before} {after} h e = subst (λ (x : Printed Kept). Leaves x used r area before after) (sym e) h

-- which of them serves a record, by its mark
module _ (k : Kept) (r : List ℕ) where
  pub by_command : mark_of r ≡ mark_of CM → serve_record k r ≡ serve_command k r
  unfolding serve_record
  by_command e = rw e

  pub by_event : mark_of r ≡ mark_of EV → serve_record k r ≡ keeps_area k (serve_event k.device r)
  unfolding serve_record
  by_event e = rw e

  pub by_media : mark_of r ≡ mark_of MD → serve_record k r ≡ keeps_area k (serve_media k.device r)
  unfolding serve_record
  by_media e = rw e

  pub by_line : mark_of r ≡ mark_of LT → serve_record k r ≡ keeps_area k (serve_line k.device r)
  unfolding serve_record
  by_line e = rw e
