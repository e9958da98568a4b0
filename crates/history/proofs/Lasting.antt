-- What every call keeps of a device: 1 to 1,023 units, valid entries, and of each log whatever a report and a clear of one log keep. So a property of one log
-- that lasts holds of each log of every device that calls lead to from a new one (`reached_holds`). And beside it what the code's types say of a device, and
-- `ValidDevice` does not: five settings, and an overflow time of the poison list of 64 bits (`reached_widths`). Assumes nothing.
use Prim.Native.Nat.{ℕ, zero, suc, ◌+◌, ◌≤◌, ◌<◌, ◌^◌}
use mathlib.Core.Path.{◌≡◌, refl, sym, subst}
use mathlib.Core.Bool.{Bool, true, false, ◌&&◌}
use mathlib.Core.List.{List, [], ◌∷◌}
use native.Mathlib.Omega.{arith}
use borrow.Author.Tests.{eqb-true, leb-true}
use lib.Dec.{eqb, leb}
use lib.ListN.{length, set, replicate}
use Rattle.wire.specs.Wire.{field}
use Rattle.poison.specs.Runs.{Run, run, Chain, some_run, keeps, lost, slots}
use Rattle.poison.specs.State.{Entry, PoisonState, entry, shapes, covers, Typed}
use Rattle.poison.specs.Report.{report_entries, dropped_runs, with_drop, after_report}
use Rattle.poison.specs.Inject.{injects, after_inject}
use Rattle.poison.specs.Clear.{cut_entries}
use Rattle.poison.proofs.Laws.{few_report, few_inject, few_clear, chain_report, chain_inject, chain_clear, typed_insert, typed_report, typed_clear}
use Rattle.events.specs.Log as Log
use Rattle.events.specs.Log.{LogState, ValidState, log_at}
use Rattle.events.specs.Report as Event
use Rattle.events.specs.Clear as Clear
use Rattle.events.proofs.Laws.{report_code_zero, clear_code_zero, valid_new, valid_reported, valid_cleared, valid_emptied, emptied_at}
use Rattle.commands.specs.Numbers.{most_units}
use Rattle.mailbox.specs.State.{DeviceState, lines_of, with_clock, with_policy, with_logs, with_poison, with_media}
use Rattle.mailbox.specs.Ending.{logs_left, ended}
use Rattle.settings.specs.declared.media.MediaState.{MediaState}
use Rattle.settings.specs.Media.{due}
use Rattle.events.specs.Emptied.{emptied}
use Rattle.mailbox.specs.Outcome.{Outcome}
use Rattle.settings.specs.declared.clock.Clock.{Clock}
use Rattle.settings.specs.Clock.{device_time}
use Rattle.settings.specs.Policy.{set_interrupt_policy}
use Rattle.mailbox.specs.EventCommands.{clear_event_records}
use Rattle.list_commands.specs.PoisonCommands.{line_of, line_code, inject_poison, inject_adds, injection_record, clear_poison}
use Rattle.mailbox.specs.Mailbox.{inject, answer, outcome}
use Rattle.mailbox.specs.DeviceCalls as Device
use Rattle.mailbox.proofs.Laws.{Moved, nothing, one_log, settings, the_clock, list_and_log, the_list, the_media, answer_moves, line_inside, media_zero, five_settings}
use Rattle.wire.proofs.Laws.{and_parts, either}
use Rattle.history.specs.Calls.{Call, command, event_report, media_report, line_test, event_status, damage_total, pool_command, step, after}

-- ---- what lasts
-- a property of one log that a new log has, and that a report of 128 bytes at a time of 64 bits, a clear and the end of a Sanitize keep
pub record Lasting (P : LogState → Type 0) : Type 0 where
  pub new : P Log.new
  pub reported : (s : LogState) (r : List ℕ) (t : ℕ) → P s → length r ≡ 128 → t < 2 ^ 64 → P (Event.reported s r t)
  pub cleared : (s : LogState) (p : List ℕ) → P s → P (Clear.clear_log s p).log
  pub ended : (s : LogState) → P s → P (emptied s)

-- validity is such a property
pub valid_lasts : Lasting ValidState
valid_lasts = record { new = valid_new; reported = λ s r t v size small. valid_reported s r t v size; cleared = valid_cleared; ended = valid_emptied }

-- the time that every call sees has 64 bits, whatever the caller's time is
time_small : (c : Clock) (time : ℕ) → device_time c time < 2 ^ 64
unfolding device_time
time_small c time = either (λ (x : ℕ). x < 2 ^ 64) c.set (omega arith) (omega arith)

-- entries on a device of n lines: at most 256, in a chain, each of a type
pub record ValidEntries (n : ℕ) (es : List Entry) : Type 0 where
  pub few : length es ≤ slots
  pub chain : Chain 0 n (shapes es)
  pub typed : Typed es

-- a view of 1 to 1,023 units whose logs have a property, and whose entries are valid
pub record Holding (P : LogState → Type 0) (s : DeviceState) : Type 0 where
  pub some_unit : 1 ≤ s.volatile + s.persistent
  pub few_units : s.volatile + s.persistent ≤ most_units
  pub logs : (k : ℕ) → k < 5 → P (log_at s.logs k)
  pub entries : ValidEntries (lines_of s) s.poison.entries

-- a view of five settings, and of an overflow time of 64 bits of its poison list
pub record Widths (s : DeviceState) : Type 0 where
  pub policy : length s.policy ≡ 5
  pub time : s.poison.overflow_time < 2 ^ 64

-- ---- each call keeps it: the logs
-- one log replaced by another that has the property
set_keeps : (P : LogState → Type 0) (ls : List LogState) (k i : ℕ) (l : LogState) → P l → P (log_at ls i) → P (log_at (set ls k l) i)
set_keeps P [] k i l a h = h
set_keeps P (x ∷ ls) zero zero l a h = a
set_keeps P (x ∷ ls) zero (suc i) l a h = h
set_keeps P (x ∷ ls) (suc k) zero l a h = h
set_keeps P (x ∷ ls) (suc k) (suc i) l a h = set_keeps P ls k i l a h

module _ {P : LogState → Type 0} (lasting : Lasting P) (ls : List LogState) (h : (k : ℕ) → k < 5 → P (log_at ls k)) where
  -- after an event report
  report_keeps : (log : ℕ) (r : List ℕ) (t k : ℕ) → t < 2 ^ 64 → k < 5 → P (log_at (Event.event_report ls log r t).logs k)
  unfolding Event.event_report
  report_keeps log r t k small less = go (eqb (Event.report_code log (length r)) 0) refl
    where
      go : (b : Bool) → eqb (Event.report_code log (length r)) 0 ≡ b → P (log_at (Event.event_report ls log r t).logs k)
      go true e =
          let z = report_code_zero log (length r) (eqb-true (Event.report_code log (length r)) 0 e) in
          rw e (set_keeps P ls log k (Event.reported (log_at ls log) r t) (lasting.reported (log_at ls log) r t (h log z.1) z.0 small) (h k less))
      go false e = rw e (h k less)

  -- after Clear Event Records
  clear_keeps : (p : List ℕ) (k : ℕ) → k < 5 → P (log_at (Clear.clear_event_records ls p).logs k)
  unfolding Clear.clear_event_records
  clear_keeps p k less = go (eqb (Clear.clear_code p) 0) refl
    where
      go : (b : Bool) → eqb (Clear.clear_code p) 0 ≡ b → P (log_at (Clear.clear_event_records ls p).logs k)
      go true e =
          let z = clear_code_zero p (eqb-true (Clear.clear_code p) 0 e) in
          let log = log_at ls (Clear.log_field p) in
          rw e (set_keeps P ls (Clear.log_field p) k (Clear.clear_log log p).log (lasting.cleared log p (h (Clear.log_field p) z.1)) (h k less))
      go false e = rw e (h k less)

-- ---- the list
-- what follows list s on a device of n lines: a list of valid entries, with an overflow time of 64 bits if s has such a time
record Follows (n : ℕ) (s l : PoisonState) : Type 0 where
  entries : ValidEntries n l.entries
  time : s.overflow_time < 2 ^ 64 → l.overflow_time < 2 ^ 64

module _ (n : ℕ) (s : PoisonState) (v : ValidEntries n s.entries) where
  -- the list as it was
  itself : Follows n s s
  itself = record { entries = v; time = λ h. h }

  -- the list with other entries, after some runs were dropped
  dropped : (es : List Entry) (rs : List Run) (time : ℕ) → time < 2 ^ 64 → ValidEntries n es → Follows n s (with_drop s es rs time)
  unfolding with_drop
  dropped es rs time small valid =
      record { entries = valid; time = λ h. either (λ (x : ℕ). x < 2 ^ 64) s.overflow h (either (λ (x : ℕ). x < 2 ^ 64) (some_run rs) small h) }

  -- after a media report that is taken
  media_follows : (a l kind time : ℕ) → time < 2 ^ 64 → a + l ≤ n → kind < 8 → Follows n s (after_report s a l kind time)
  unfolding report_entries with_drop
  media_follows a l kind time small h t =
      dropped (report_entries s.entries a l kind) (dropped_runs s.entries a l) time small (record {
        few = few_report s a l kind time v.few;
        chain = chain_report n a l kind s.entries v.chain h;
        typed = typed_report a l kind s.entries t v.typed;
      })

  -- after an injection that is taken
  entry_follows : (k : ℕ) → k < n → injects s k ≡ true → Follows n s (after_inject s k)
  entry_follows k h i = go (covers s.entries k) refl
    where
      go : (b : Bool) → covers s.entries k ≡ b → Follows n s (after_inject s k)
      go true c = rw c itself
      go false c =
          rw c
          (record {
            entries = record {
              few = rw c at (few_inject s k v.few i);
              chain = chain_inject n k 3 s.entries v.chain h c;
              typed = typed_insert (entry 3 (run k 1)) s.entries (omega arith) v.typed;
            };
            time = λ small. small;
          })

  -- after Inject Poison
  inject_follows : (p : List ℕ) → Follows n s (inject_poison n s p).list
  unfolding inject_poison
  inject_follows p = checked (eqb (line_code n (field p 0 8)) 0) refl
    where
      checked : (b : Bool) → eqb (line_code n (field p 0 8)) 0 ≡ b → Follows n s (inject_poison n s p).list
      checked false e = rw e itself
      checked true e = taken (injects s (line_of (field p 0 8))) refl
        where
          taken : (b : Bool) → injects s (line_of (field p 0 8)) ≡ b → Follows n s (inject_poison n s p).list
          taken true i = rw (e, i) (entry_follows (line_of (field p 0 8)) (line_inside n (field p 0 8) (eqb-true (line_code n (field p 0 8)) 0 e)) i)
          taken false i = rw (e, i) itself

  -- after Clear Poison
  cut_follows : (p : List ℕ) (time : ℕ) → time < 2 ^ 64 → Follows n s (clear_poison n s p time).list
  unfolding clear_poison with_drop
  cut_follows p time small = checked (eqb (line_code n (field p 0 8)) 0) refl
    where
      k : ℕ
      k = line_of (field p 0 8)

      keep : Bool
      keep = keeps k (shapes s.entries)

      checked : (b : Bool) → eqb (line_code n (field p 0 8)) 0 ≡ b → Follows n s (clear_poison n s p time).list
      checked false e = rw e itself
      checked true e =
          rw e
          (dropped (cut_entries keep k s.entries) (lost k (shapes s.entries)) time small (record {
            few = few_clear s k time v.few;
            chain = chain_clear n k keep s.entries v.chain;
            typed = typed_clear keep k s.entries v.typed;
          }))

-- ---- the device
module _ {P : LogState → Type 0} (lasting : Lasting P) where
  module _ (s : DeviceState) (h : Holding P s) where
    -- what a call keeps: the view after it holds the same, and has the widths if s has them
    record Kept (e : DeviceState) : Type 0 where
      holds : Holding P e
      widths : Widths s → Widths e

    record Leaves (o : Outcome) : Type 0 where
      kept : Kept o.next

    -- with a list that follows and other logs that have the property; with either alone; with another clock; with other settings; as it was
    parts_kept : (l : PoisonState) → Follows (lines_of s) s.poison l → (ls : List LogState) → ((k : ℕ) → k < 5 → P (log_at ls k)) → Kept (with_logs (with_poison s l) ls)
    parts_kept l f ls each =
        record {
          holds = record { some_unit = h.some_unit; few_units = h.few_units; logs = each; entries = f.entries };
          widths = λ w. record { policy = w.policy; time = f.time w.time };
        }

    logs_kept : (ls : List LogState) → ((k : ℕ) → k < 5 → P (log_at ls k)) → Kept (with_logs s ls)
    logs_kept ls each = parts_kept s.poison (itself (lines_of s) s.poison h.entries) ls each

    list_kept : (l : PoisonState) → Follows (lines_of s) s.poison l → Kept (with_poison s l)
    list_kept l f = parts_kept l f s.logs h.logs

    clock_kept : (c : Clock) → Kept (with_clock s c)
    clock_kept c =
        record {
          holds = record { some_unit = h.some_unit; few_units = h.few_units; logs = h.logs; entries = h.entries };
          widths = λ w. record { policy = w.policy; time = w.time };
        }

    policy_kept : (p : List ℕ) → Kept (with_policy s (set_interrupt_policy s.policy p).policy)
    policy_kept p =
        record {
          holds = record { some_unit = h.some_unit; few_units = h.few_units; logs = h.logs; entries = h.entries };
          widths = λ w. record { policy = five_settings s.policy p w.policy; time = w.time };
        }

    media_kept : (m : MediaState) → Kept (with_media s m)
    media_kept m =
        record {
          holds = record { some_unit = h.some_unit; few_units = h.few_units; logs = h.logs; entries = h.entries };
          widths = λ w. record { policy = w.policy; time = w.time };
        }

    -- as the end of a due Sanitize leaves it (document 02, W-207)
    ended_kept : (time : ℕ) → Kept (ended s time)
    ended_kept time =
        let k = logs_kept (logs_left (due s.media time) s.logs) (by_end (due s.media time)) in
        record {
          holds = record { some_unit = h.some_unit; few_units = h.few_units; logs = k.holds.logs; entries = h.entries };
          widths = λ w. record { policy = w.policy; time = w.time };
        }
      where
        by_end : (b : Bool) (k : ℕ) → k < 5 → P (log_at (logs_left b s.logs) k)
        by_end true k less = subst P (sym (emptied_at s.logs k)) (lasting.ended (log_at s.logs k) (h.logs k less))
        by_end false k less = h.logs k less

    itself_kept : Kept s
    itself_kept = record { holds = h; widths = λ w. w }

    -- the logs after an event report, whatever its record
    told_keeps : (time log : ℕ) (bytes : List ℕ) (k : ℕ) → k < 5 → P (log_at (Event.event_report s.logs log bytes (device_time s.clock time)).logs k)
    told_keeps time log bytes k = report_keeps lasting s.logs h.logs log bytes (device_time s.clock time) k (time_small s.clock time)

    -- after Inject Poison: the list, and where it added an entry the report of that event to log 0 (document 02, W-204)
    inject_leaves : (p : List ℕ) (time : ℕ) → Leaves (inject s p time)
    unfolding inject Device.event_answer
    inject_leaves p time =
        let follows = inject_follows (lines_of s) s.poison h.entries p in
        either Leaves (inject_adds (lines_of s) s.poison p)
        (record { kept = parts_kept _ follows _ (told_keeps time 0 (injection_record (field p 0 8))) })
        (record { kept = list_kept _ follows })

    -- after a command
    command_kept : (op : ℕ) (p : List ℕ) (time : ℕ) (area : List ℕ) (room : ℕ) → Kept (answer s op p time area room).next
    unfolding clear_event_records
    command_kept op p time area room = keeps_all (answer_moves s op p time area room)
      where
        keeps_all : {o : Outcome} → Moved s op p time o → Kept o.next
        keeps_all (nothing r is quiet) = rw is itself_kept
        keeps_all (one_log e is) = rw is (logs_kept _ (clear_keeps lasting s.logs h.logs p))
        keeps_all (settings e is) = rw is (policy_kept p)
        keeps_all (the_clock e c is) = rw is (clock_kept _)
        keeps_all (list_and_log e is) = rw is (inject_leaves p time).kept
        keeps_all (the_list e is) = rw is (list_kept _ (cut_follows (lines_of s) s.poison h.entries p _ (time_small s.clock time)))
        keeps_all (the_media e m is) = rw is (media_kept _)

    -- after a report
    event_kept : (time log : ℕ) (bytes : List ℕ) → Kept (Device.event_answer s time log bytes).next
    unfolding Device.event_answer
    event_kept time log bytes = logs_kept _ (told_keeps time log bytes)

    media_report_kept : (time address n kind : ℕ) → Kept (Device.media_answer s time address n kind).next
    unfolding Device.media_answer
    media_report_kept time address n kind = go (eqb (Device.media_code (lines_of s) address n kind) 0) refl
      where
        at : ℕ
        at = device_time s.clock time

        go : (b : Bool) → eqb (Device.media_code (lines_of s) address n kind) 0 ≡ b → Kept (Device.media_answer s time address n kind).next
        go true e =
            let z = media_zero (lines_of s) address n kind (eqb-true (Device.media_code (lines_of s) address n kind) 0 e) in
            rw e (list_kept _ (media_follows (lines_of s) s.poison h.entries (line_of address) n kind at (time_small s.clock time) z.1 z.0))
        go false e = rw e itself_kept

  -- after any call: a due Sanitize ended, then the answer of the device that it finds
  module _ (s : DeviceState) (h : Holding P s) where
    then_kept : (time : ℕ) {e : DeviceState} → Kept (ended s time) (ended_kept s h time).holds e → Kept s h e
    then_kept time k = record { holds = k.holds; widths = λ w. k.widths ((ended_kept s h time).widths w) }

    call_kept : (c : Call) → Kept s h (step s c).next
    unfolding step
    call_kept (command opcode payload time area room) = then_kept time (command_kept (ended s time) (ended_kept s h time).holds opcode payload time area room)
    call_kept (event_report time log bytes) = then_kept time (event_kept (ended s time) (ended_kept s h time).holds time log bytes)
    call_kept (media_report time address lines kind) = then_kept time (media_report_kept (ended s time) (ended_kept s h time).holds time address lines kind)
    call_kept (line_test address) = itself_kept s h
    call_kept event_status = itself_kept s h
    call_kept damage_total = itself_kept s h
    call_kept (pool_command opcode payload time room) = itself_kept s h

    -- of each, what it holds
    pub command_leaves : (op : ℕ) (p : List ℕ) (time : ℕ) (area : List ℕ) (room : ℕ) → Holding P (outcome s op p time area room).next
    command_leaves op p time area room = (command_kept (ended s time) (ended_kept s h time).holds op p time area room).holds

    pub event_leaves : (time log : ℕ) (bytes : List ℕ) → Holding P (Device.event_report s time log bytes).next
    event_leaves time log bytes = (event_kept (ended s time) (ended_kept s h time).holds time log bytes).holds

    pub media_leaves : (time address n kind : ℕ) → Holding P (Device.media_report s time address n kind).next
    media_leaves time address n kind = (media_report_kept (ended s time) (ended_kept s h time).holds time address n kind).holds

    pub ended_leaves : (time : ℕ) → Holding P (ended s time)
    ended_leaves time = (ended_kept s h time).holds

  -- new logs, and a new device
  new_logs : (n k : ℕ) → k < n → P (log_at (replicate n Log.new) k)
  new_logs zero k h = absurd (omega arith)
  new_logs (suc n) zero h = lasting.new
  new_logs (suc n) (suc k) h = new_logs n k (omega arith)

  -- a view that holds, and has the widths
  record Wide (s : DeviceState) : Type 0 where
    holds : Holding P s
    widths : Widths s

  make_wide : (volatile persistent : ℕ) → Wide (Device.make volatile persistent).next
  unfolding Device.make
  make_wide volatile persistent = go (leb 1 (volatile + persistent) && leb (volatile + persistent) most_units) refl
    where
      new : (v p : ℕ) → 1 ≤ v + p → v + p ≤ most_units → Wide (Device.new_device v p)
      new v p low high =
          record {
            holds = record { some_unit = low; few_units = high; logs = new_logs 5; entries = record { few = omega arith; chain = omega arith; typed = tt } };
            widths = record { policy = refl; time = omega arith };
          }

      go : (b : Bool) → (leb 1 (volatile + persistent) && leb (volatile + persistent) most_units) ≡ b → Wide (Device.make volatile persistent).next
      go true e =
          let both = and_parts (leb 1 (volatile + persistent)) (leb (volatile + persistent) most_units) e in
          rw e (new volatile persistent (leb-true 1 (volatile + persistent) both.0) (leb-true (volatile + persistent) most_units both.1))
      go false e = rw e (new 1 0 (omega arith) (omega arith))

  pub make_leaves : (volatile persistent : ℕ) → Holding P (Device.make volatile persistent).next
  make_leaves volatile persistent = (make_wide volatile persistent).holds

  -- after any calls, and after any calls on a new device
  calls_leave : (s : DeviceState) → Wide s → (cs : List Call) → Wide (after s cs)
  calls_leave s w [] = w
  calls_leave s w (c ∷ cs) = let l = call_kept s w.holds c in calls_leave (step s c).next (record { holds = l.holds; widths = l.widths w.widths }) cs

  reached_wide : (volatile persistent : ℕ) (cs : List Call) → Wide (after (Device.make volatile persistent).next cs)
  reached_wide volatile persistent cs = calls_leave (Device.make volatile persistent).next (make_wide volatile persistent) cs

  pub reached_holds : (volatile persistent : ℕ) (cs : List Call) → Holding P (after (Device.make volatile persistent).next cs)
  reached_holds volatile persistent cs = (reached_wide volatile persistent cs).holds

  pub reached_widths : (volatile persistent : ℕ) (cs : List Call) → Widths (after (Device.make volatile persistent).next cs)
  reached_widths volatile persistent cs = (reached_wide volatile persistent cs).widths
