-- What each call does to the poison list and to the paper: it keeps the number of lines, it keeps list and paper consistent, and it sets the overflow flag
-- only where a line joins the dropped set, and never clears it. Assumes nothing.
use mathlib.Core.Path.{◌≡◌, refl, sym, ap₂, ◌∙◌}
use mathlib.Core.Bool.{Bool, true, false, cond, false≢true}
use mathlib.Core.List.{List}
use Prim.Native.Nat.{ℕ, ◌+◌, ◌*◌}
use borrow.Author.Tests.{eqb-true, eq-eqb}
use lib.Dec.{eqb}
use lib.ListN.{length}
use Rattle.wire.specs.Wire.{field}
use Rattle.poison.specs.State.{PoisonState}
use Rattle.poison.specs.Inject.{injects}
use Rattle.poison.specs.Paper.{Paper, paper_report}
use Rattle.poison.proofs.Laws.{Consistent, consistent_report, consistent_inject, consistent_clear, Flags, report_flags, inject_flags, clear_flags}
use Rattle.commands.specs.Numbers.{unit_lines}
use Rattle.mailbox.specs.State.{DeviceState, lines_of}
use Rattle.mailbox.specs.Ending.{ended}
use Rattle.mailbox.specs.Outcome.{Outcome}
use Rattle.commands.specs.Commands.{first_code}
use Rattle.settings.specs.Clock.{device_time}
use Rattle.mailbox.specs.EventCommands.{clear_event_records}
use Rattle.list_commands.specs.PoisonCommands.{line_of, line_code, inject_poison, clear_poison}
use Rattle.mailbox.specs.Mailbox.{run_command, answer}
use Rattle.mailbox.specs.DeviceCalls as Device
use Rattle.mailbox.proofs.Laws.{Moved, nothing, one_log, settings, the_clock, list_and_log, the_list, the_media, run_moves, line_inside, media_zero, injection_list}
use Rattle.history.specs.Calls.{Call, command, event_report, media_report, line_test, event_status, damage_total, pool_command, step}
use Rattle.history.specs.Paper.{write_command, write}

-- what holds of a device of n lines and a paper
pub record Holds (n : ℕ) (d : DeviceState) (p : Paper) : Type 0 where
  pub lines : lines_of d ≡ n
  pub consistent : Consistent n d.poison p

-- what a call makes of the list: list and paper are consistent after it, and the flag is set only where a line joins the dropped set
record Kept (n : ℕ) (s t : PoisonState) (q : Paper) : Type 0 where
  consistent : Consistent n t q
  flags : Flags s t q

-- a call that leaves list and paper
kept_same : (n : ℕ) (s : PoisonState) (p : Paper) → Consistent n s p → Kept n s s p
kept_same n s p h = record { consistent = h; flags = record { stays = λ e. e; sets = λ e f. absurd (false≢true (sym e ∙ f)) } }

-- what a call makes of a device d of n lines: device e beside paper q
record Moves (n : ℕ) (d e : DeviceState) (q : Paper) : Type 0 where
  lines : lines_of e ≡ n
  kept : Kept n d.poison e.poison q

-- the part of a device that demand 3 speaks of
pub record Same (d e : DeviceState) : Type 0 where
  pub lines : lines_of e ≡ lines_of d
  pub list : e.poison ≡ d.poison

same_self : (d : DeviceState) → Same d d
same_self d = record { lines = refl; list = refl }

moves_same : (n : ℕ) (d e : DeviceState) (p : Paper) → Same d e → Holds n d p → Moves n d e p
moves_same n d e p s h = record { lines = s.lines ∙ h.lines; kept = rw s.list (kept_same n d.poison p h.consistent) }

-- a command that is neither Inject Poison nor Clear Poison leaves the list
run_leaves : (d : DeviceState) (op : ℕ) (p : List ℕ) (t : ℕ) (area : List ℕ) → eqb op 0x4301 ≡ false → eqb op 0x4302 ≡ false → Same d (run_command d op p t area).next
unfolding clear_event_records
run_leaves d op p t area i c = leaves (run_moves d op p t area)
  where
    leaves : {o : Outcome} → Moved d op p t o → Same d o.next
    leaves (nothing r is quiet) = rw is (same_self d)
    leaves (one_log e is) = rw is (record { lines = refl; list = refl })
    leaves (settings e is) = rw is (record { lines = refl; list = refl })
    leaves (the_clock e x is) = rw is (record { lines = refl; list = refl })
    leaves (list_and_log e is) = absurd (false≢true (sym i ∙ eq-eqb op 0x4301 e))
    leaves (the_list e is) = absurd (false≢true (sym c ∙ eq-eqb op 0x4302 e))
    leaves (the_media e m is) = rw is (record { lines = refl; list = refl })

-- ---- Inject Poison and Clear Poison
inject_keeps : (n : ℕ) (s : PoisonState) (p : Paper) (payload : List ℕ) → Consistent n s p
    → Kept n s (inject_poison n s payload).list (cond (eqb (inject_poison n s payload).code 0) (write_command p 0x4301 payload) p)
unfolding inject_poison
inject_keeps n s p payload h = checked (eqb (line_code n a) 0) refl
  where
    a : ℕ
    a = field payload 0 8

    checked : (b : Bool) → eqb (line_code n a) 0 ≡ b
        → Kept n s (inject_poison n s payload).list (cond (eqb (inject_poison n s payload).code 0) (write_command p 0x4301 payload) p)
    checked true e = taken (injects s (line_of a)) refl
      where
        taken : (b : Bool) → injects s (line_of a) ≡ b
            → Kept n s (inject_poison n s payload).list (cond (eqb (inject_poison n s payload).code 0) (write_command p 0x4301 payload) p)
        taken true i = rw (e, i) (record { consistent = consistent_inject n s p h (line_of a) (line_inside n a (eqb-true (line_code n a) 0 e)) i; flags = inject_flags n s p h (line_of a) })
        taken false i = rw (e, i) (kept_same n s p h)
    checked false e = rw (e, e) (kept_same n s p h)

clear_keeps : (n : ℕ) (s : PoisonState) (p : Paper) (payload : List ℕ) (time : ℕ) → Consistent n s p
    → Kept n s (clear_poison n s payload time).list (cond (eqb (clear_poison n s payload time).code 0) (write_command p 0x4302 payload) p)
unfolding clear_poison
clear_keeps n s p payload time h = checked (eqb (line_code n a) 0) refl
  where
    a : ℕ
    a = field payload 0 8

    checked : (b : Bool) → eqb (line_code n a) 0 ≡ b
        → Kept n s (clear_poison n s payload time).list (cond (eqb (clear_poison n s payload time).code 0) (write_command p 0x4302 payload) p)
    checked true e = rw e (record { consistent = consistent_clear n s p h (line_of a) time; flags = clear_flags n s p h (line_of a) time })
    checked false e = rw (e, e) (kept_same n s p h)

-- ---- the device-side calls
event_leaves : (d : DeviceState) (time log : ℕ) (bytes : List ℕ) → Same d (Device.event_answer d time log bytes).next
unfolding Device.event_answer
event_leaves d time log bytes = record { lines = refl; list = refl }

-- ---- the commands
module _ (n : ℕ) (d : DeviceState) (p : Paper) (h : Holds n d p) where
  -- a call that leaves the device and the paper
  stays : Moves n d d p
  stays = moves_same n d d p (same_self d) h

  -- at its opcode, each of the two
  injects_hold : (op : ℕ) (payload : List ℕ) (time : ℕ) (area : List ℕ) → op ≡ 0x4301
      → Moves n d (run_command d op payload time area).next (cond (eqb (run_command d op payload time area).code 0) (write_command p op payload) p)
  unfolding run_command
  injects_hold op payload time area e =
      let i = injection_list d payload time in
      rw e
      (record {
        lines = ap₂ (λ (v q : ℕ). unit_lines * (v + q)) i.volatile i.persistent ∙ h.lines;
        kept = rw (i.list, i.code, h.lines) (inject_keeps n d.poison p payload h.consistent);
      })

  clears_hold : (op : ℕ) (payload : List ℕ) (time : ℕ) (area : List ℕ) → op ≡ 0x4302
      → Moves n d (run_command d op payload time area).next (cond (eqb (run_command d op payload time area).code 0) (write_command p op payload) p)
  unfolding run_command
  clears_hold op payload time area e =
      rw e (record { lines = h.lines; kept = rw h.lines (clear_keeps n d.poison p payload (device_time d.clock time) h.consistent) })

  -- the paper of any other command is as it was, whatever it answers
  as_it_was : (b : Bool) (op : ℕ) (payload : List ℕ) → eqb op 0x4301 ≡ false → eqb op 0x4302 ≡ false → cond b (write_command p op payload) p ≡ p
  as_it_was true op payload i c = rw (i, c)
  as_it_was false op payload i c = refl

  run_holds : (op : ℕ) (payload : List ℕ) (time : ℕ) (area : List ℕ)
      → Moves n d (run_command d op payload time area).next (cond (eqb (run_command d op payload time area).code 0) (write_command p op payload) p)
  run_holds op payload time area = inject (eqb op 0x4301) refl
    where
      inject : (b : Bool) → eqb op 0x4301 ≡ b
          → Moves n d (run_command d op payload time area).next (cond (eqb (run_command d op payload time area).code 0) (write_command p op payload) p)
      inject true i = injects_hold op payload time area (eqb-true op 0x4301 i)
      inject false i = clear (eqb op 0x4302) refl
        where
          clear : (b : Bool) → eqb op 0x4302 ≡ b
              → Moves n d (run_command d op payload time area).next (cond (eqb (run_command d op payload time area).code 0) (write_command p op payload) p)
          clear true c = clears_hold op payload time area (eqb-true op 0x4302 c)
          clear false c =
              rw (as_it_was (eqb (run_command d op payload time area).code 0) op payload i c)
              (moves_same n d (run_command d op payload time area).next p (run_leaves d op payload time area i c) h)

  command_holds : (op : ℕ) (payload : List ℕ) (time : ℕ) (area : List ℕ) (room : ℕ) → Moves n d (answer d op payload time area room).next (cond (eqb (answer d op payload time area room).code 0) (write_command p op payload) p)
  unfolding answer
  command_holds op payload time area room = admitted (eqb (first_code d.media.disabled op (length payload) (length area) room) 0) refl
    where
      admitted : (b : Bool) → eqb (first_code d.media.disabled op (length payload) (length area) room) 0 ≡ b
          → Moves n d (answer d op payload time area room).next (cond (eqb (answer d op payload time area room).code 0) (write_command p op payload) p)
      admitted true a = rw a (run_holds op payload time area)
      admitted false a = rw (a, a) stays

  -- a media report
  media_holds : (time address lines kind : ℕ)
      → Moves n d (Device.media_answer d time address lines kind).next (cond (eqb (Device.media_answer d time address lines kind).code 0) (paper_report p (line_of address) lines) p)
  unfolding Device.media_answer
  media_holds time address lines kind = checked (eqb (Device.media_code (lines_of d) address lines kind) 0) refl
    where
      checked : (b : Bool) → eqb (Device.media_code (lines_of d) address lines kind) 0 ≡ b
          → Moves n d (Device.media_answer d time address lines kind).next (cond (eqb (Device.media_answer d time address lines kind).code 0) (paper_report p (line_of address) lines) p)
      checked true e =
          rw e
          (record {
            lines = h.lines;
            kept = record { consistent = consistent_report n d.poison p h.consistent (line_of address) lines kind (device_time d.clock time) (media_zero n address lines kind (rw h.lines at (eqb-true (Device.media_code (lines_of d) address lines kind) 0 e))).1; flags = report_flags n d.poison p h.consistent (line_of address) lines kind (device_time d.clock time) };
          })
      checked false e = rw (e, e) stays

-- ---- every call. The end of a Sanitize touches neither the list nor the paper (document 02, W-207): what holds of a device holds of the one that a call finds
module _ (n : ℕ) (d : DeviceState) (p : Paper) (h : Holds n d p) where
  holds_found : (time : ℕ) → Holds n (ended d time) p
  holds_found time = record { lines = h.lines; consistent = h.consistent }

  from_found : (time : ℕ) {e : DeviceState} {q : Paper} → Moves n (ended d time) e q → Moves n d e q
  from_found time m = record { lines = m.lines; kept = m.kept }

  call_moves : (c : Call) → Moves n d (step d c).next (write p c (step d c).code)
  unfolding step write
  call_moves (command opcode payload time area room) = from_found time (command_holds n (ended d time) p (holds_found time) opcode payload time area room)
  call_moves (event_report time log bytes) =
      from_found time (moves_same n (ended d time) (Device.event_report d time log bytes).next p (event_leaves (ended d time) time log bytes) (holds_found time))
  call_moves (media_report time address lines kind) = from_found time (media_holds n (ended d time) p (holds_found time) time address lines kind)
  call_moves (line_test address) = stays n d p h
  call_moves event_status = stays n d p h
  call_moves damage_total = stays n d p h
  call_moves (pool_command opcode payload time room) = stays n d p h

  pub call_holds : (c : Call) → Holds n (step d c).next (write p c (step d c).code)
  call_holds c = let m = call_moves c in record { lines = m.lines; consistent = m.kept.consistent }

  -- A call never clears the overflow flag, and where it sets the flag, some line is in the dropped set after it.
  pub call_flags : (c : Call) → Flags d.poison (step d c).next.poison (write p c (step d c).code)
  call_flags c = (call_moves c).kept.flags
