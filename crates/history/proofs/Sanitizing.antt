-- Sanitize over any call (document 02, W-207): no call but Clear Event Records and the end of a Sanitize takes a record from a log, no call lets a next handle go back, and media is left as the call finds it but by a Sanitize that is answered 0001h. And the examples of
-- `specs/Sanitizing.antt` hold of the definitions, by computation. Assumes nothing.
use mathlib.Core.Path.{◌≡◌, refl, sym, ap, ◌∙◌, subst}
use mathlib.Core.Bool.{Bool, true, false, cond, false≢true}
use mathlib.Core.Logic.{◌⊎◌, inl, inr}
use mathlib.Core.List.{List, map}
use Prim.Native.Nat.{ℕ}
use lib.Dec.{eqb}
use Rattle.wire.proofs.Laws.{either}
use Rattle.events.specs.Log.{LogState, log_at}
use Rattle.events.specs.Report as Event
use Rattle.events.specs.Clear as Clear
use Rattle.events.specs.Onward.{StaysHeld, NextGoesOn}
use Rattle.events.proofs.Laws.{stays_itself, stays_reported, next_reported, next_cleared, emptied_at, each_reported, each_cleared}
use Rattle.wire.specs.Returns.{started}
use Rattle.settings.specs.declared.media.MediaState.{MediaState}
use Rattle.settings.specs.Media.{due}
use Rattle.list_commands.specs.PoisonCommands.{inject_adds}
use Rattle.mailbox.specs.State.{DeviceState, lines_of}
use Rattle.mailbox.specs.Ending.{logs_left, ended}
use Rattle.mailbox.specs.Outcome.{Outcome}
use Rattle.mailbox.specs.EventCommands.{clear_event_records}
use Rattle.mailbox.specs.Mailbox.{inject, answer}
use Rattle.mailbox.specs.DeviceCalls as Device
use Rattle.mailbox.proofs.Laws.{Moved, nothing, one_log, settings, the_clock, list_and_log, the_list, the_media, answer_moves, injection_list, logs_told, media_after}
use Rattle.history.specs.Calls.{Call, command, event_report, media_report, line_test, event_status, damage_total, pool_command, step, after}
use Rattle.history.specs.Cases.{given_of, stated_of}
use Rattle.history.specs.Interrupts.{enabled_unit}
use Rattle.history.specs.Refusals.{found_by, NothingDue}
use Rattle.history.specs.Sanitizing.{NoClear, running, running_calls, sanitize_cases, row_cases}
use Rattle.history.proofs.Computing.{rules}
use Rattle.history.proofs.Demand1.{found_same}

-- ---- what each call leaves of each log, on the device that it finds. P holds between a log and itself, and between a log and what a report makes of it
module _ (P : LogState → LogState → Type 0) (itself : (s : LogState) → P s s) (one : (s : LogState) (r : List ℕ) (t : ℕ) → P s (Event.reported s r t)) where
  -- of each log, before and after
  record Each (d e : DeviceState) : Type 0 where
    each : (k : ℕ) → P (log_at d.logs k) (log_at e.logs k)

  each_same : (d e : DeviceState) → e.logs ≡ d.logs → Each d e
  each_same d e same = record { each = λ k. subst (λ (ls : List LogState). P (log_at d.logs k) (log_at ls k)) (sym same) (itself (log_at d.logs k)) }

  injection_each : (d : DeviceState) (p : List ℕ) (time : ℕ) → Each d (inject d p time).next
  injection_each d p time = by (inject_adds (lines_of d) d.poison p) (injection_list d p time).logs
    where
      by : (b : Bool) → (inject d p time).next.logs ≡ cond b (logs_told d p time) d.logs → Each d (inject d p time).next
      by true e = record { each = λ k. subst (λ (ls : List LogState). P (log_at d.logs k) (log_at ls k)) (sym e) (each_reported P itself one d.logs 0 _ _ k) }
      by false e = each_same d _ e

  -- a command, where it is no Clear Event Records, or where P holds of a clear too
  abbrev Unless : ℕ → Type 0
  Unless op = (op ≡ 0x0101 → ⊥) ⊎ ((s : LogState) (p : List ℕ) → P s (Clear.clear_log s p).log)

  command_each : (d : DeviceState) (op : ℕ) (p : List ℕ) (time : ℕ) (area : List ℕ) (room : ℕ) → Unless op → Each d (answer d op p time area room).next
  unfolding clear_event_records
  command_each d op p time area room unless = moved (answer_moves d op p time area room)
    where
      cleared : op ≡ 0x0101 → Unless op → Each d (clear_event_records d p).next
      cleared e (inl f) = absurd (f e)
      cleared e (inr clear) = record { each = each_cleared P itself clear d.logs p }

      moved : {o : Outcome} → Moved d op p time o → Each d o.next
      moved (nothing r is quiet) = rw is (each_same d d refl)
      moved (one_log e is) = rw is (cleared e unless)
      moved (settings e is) = rw is (each_same d _ refl)
      moved (the_clock e c is) = rw is (each_same d _ refl)
      moved (list_and_log e is) = rw is (injection_each d p time)
      moved (the_list e is) = rw is (each_same d _ refl)
      moved (the_media e m is) = rw is (each_same d _ refl)

  event_each : (d : DeviceState) (time log : ℕ) (bytes : List ℕ) → Each d (Device.event_answer d time log bytes).next
  unfolding Device.event_answer
  event_each d time log bytes = record { each = each_reported P itself one d.logs log bytes _ }

  record MediaLeaves (d : DeviceState) (o : Device.MediaOutcome) : Type 0 where
    leaves : Each d o.next

  media_each : (d : DeviceState) (time address n kind : ℕ) → Each d (Device.media_answer d time address n kind).next
  unfolding Device.media_answer
  media_each d time address n kind =
      (either (MediaLeaves d) (eqb (Device.media_code (lines_of d) address n kind) 0) (record { leaves = each_same d _ refl }) (record { leaves = each_same d d refl })).leaves

  -- every call that is no clear, or where P holds of a clear too, from the device that it finds
  call_each : (d : DeviceState) (c : Call) → NoClear c ⊎ ((s : LogState) (p : List ℕ) → P s (Clear.clear_log s p).log) → Each (found_by d c) (step d c).next
  unfolding step
  call_each d (command opcode payload time area room) unless = command_each (ended d time) opcode payload time area room unless
  call_each d (event_report time log bytes) unless = event_each (ended d time) time log bytes
  call_each d (media_report time address lines kind) unless = media_each (ended d time) time address lines kind
  call_each d (line_test address) unless = each_same d d refl
  call_each d event_status unless = each_same d d refl
  call_each d damage_total unless = each_same d d refl
  call_each d (pool_command opcode payload time room) unless = each_same d d refl

-- ---- in words
-- No call but Clear Event Records takes a record from a log, where no Sanitize is due at its time: every record stays in its place.
pub records_stay : (d : DeviceState) (c : Call) → NothingDue d c → NoClear c → (k : ℕ) → StaysHeld (log_at d.logs k) (log_at (step d c).next.logs k)
records_stay d c idle spared k =
    subst (λ (e : DeviceState). StaysHeld (log_at e.logs k) (log_at (step d c).next.logs k)) (found_same d c idle) ((call_each StaysHeld stays_itself stays_reported d c (inl spared)).each k)

-- No call lets a log's next handle go back, whether it ends a Sanitize, clears records or is refused: it is as it was, or the one after it.
pub next_goes_on : (d : DeviceState) (c : Call) (k : ℕ) → NextGoesOn (log_at d.logs k) (log_at (step d c).next.logs k)
next_goes_on d c k =
    subst (λ (n : ℕ). ((log_at (step d c).next.logs k).next ≡ n) ⊎ ((log_at (step d c).next.logs k).next ≡ Event.handle_after n)) (found d c)
    ((call_each NextGoesOn (λ s. inl refl) next_reported d c (inr next_cleared)).each k)
  where
    by_end : (d : DeviceState) (b : Bool) → (log_at (logs_left b d.logs) k).next ≡ (log_at d.logs k).next
    by_end d true = ap (λ (l : LogState). l.next) (emptied_at d.logs k)
    by_end d false = refl

    found : (d : DeviceState) (c : Call) → (log_at (found_by d c).logs k).next ≡ (log_at d.logs k).next
    found d (command opcode payload time area room) = by_end d (due d.media time)
    found d (event_report time log bytes) = by_end d (due d.media time)
    found d (media_report time address lines kind) = by_end d (due d.media time)
    found d (line_test address) = refl
    found d event_status = refl
    found d damage_total = refl
    found d (pool_command opcode payload time room) = refl

-- A call leaves media as it finds it; or it is answered 0001h, and found media enabled.
pub call_media : (d : DeviceState) (c : Call) → ((step d c).next.media ≡ (found_by d c).media) ⊎ (((step d c).code ≡ started) × ((found_by d c).media.disabled ≡ false))
unfolding step Device.media_answer Device.event_answer
call_media d (command opcode payload time area room) = media_after (ended d time) opcode payload time area room
call_media d (event_report time log bytes) = inl refl
call_media d (media_report time address lines kind) =
    inl (either (λ (m : Device.MediaOutcome). m.next.media ≡ (ended d time).media) (eqb (Device.media_code (lines_of (ended d time)) address lines kind) 0) refl refl)
call_media d (line_test address) = inl refl
call_media d event_status = inl refl
call_media d damage_total = inl refl
call_media d (pool_command opcode payload time room) = inl refl

-- Media that is disabled when a call comes, and not due to be enabled by it, is left as it was.
pub disabled_stays : (d : DeviceState) (c : Call) → NothingDue d c → d.media.disabled ≡ true → (step d c).next.media ≡ d.media
disabled_stays d c idle off = by (call_media d c)
  where
    found : (found_by d c).media ≡ d.media
    found = ap (λ (e : DeviceState). e.media) (found_same d c idle)

    by : ((step d c).next.media ≡ (found_by d c).media) ⊎ (((step d c).code ≡ started) × ((found_by d c).media.disabled ≡ false)) → (step d c).next.media ≡ d.media
    by (inl same) = same ∙ found
    by (inr starts) = absurd (false≢true (sym starts.1 ∙ ap (λ (m : MediaState). m.disabled) found ∙ off))

-- Media that a call finds enabled is left so, where the call is not answered 0001h.
pub enabled_stays : (d : DeviceState) (c : Call) → ((step d c).code ≡ started → ⊥) → (step d c).next.media ≡ (found_by d c).media
enabled_stays d c other = by (call_media d c)
  where
    by : ((step d c).next.media ≡ (found_by d c).media) ⊎ (((step d c).code ≡ started) × ((found_by d c).media.disabled ≡ false)) → (step d c).next.media ≡ (found_by d c).media
    by (inl same) = same
    by (inr starts) = absurd (other starts.0)

-- ---- the examples
pub sanitize_cases_hold : map given_of sanitize_cases ≡ map stated_of sanitize_cases
unfolding sanitize_cases running rules
sanitize_cases_hold = refl

pub row_cases_hold : map given_of row_cases ≡ map stated_of row_cases
unfolding row_cases rules
row_cases_hold = refl

pub running_reached : after enabled_unit running_calls ≡ running
unfolding running rules
running_reached = refl
