-- Some build meets `Meets` of specs/Builds.antt: the one that answers by the definitions, with devices that are lists of the view's own length. And some build has
-- each fault. So no theorem of proofs/Builds.antt holds for want of a build. Assumes nothing.
use Prim.Native.Nat.{ℕ, ◌<◌}
use mathlib.Core.Path.{◌≡◌, refl, sym, ◌∙◌}
use mathlib.Core.Bool.{Bool, true, false, cond, true≢false}
use mathlib.Core.List.{List, [], ◌∷◌}
use native.Mathlib.Decide.{ℕ_discrete, dec_lt}
use native.Mathlib.Omega.{arith}
use borrow.Author.Tests.{le-leb, lt-leb}
use lib.Dec.{eqb, leb}
use lib.ListN.{length}
use Rattle.wire.specs.Wire.{splice}
use Rattle.poison.specs.State.{Entry}
use Rattle.poison.specs.LineTest as Line
use Rattle.wire.specs.Returns.{Refused}
use Rattle.settings.specs.Media.{due}
use Rattle.mailbox.specs.LineStatus.{status_number, status_type, status_of}
use Rattle.mailbox.specs.declared.line_status.LineStatus.{LineStatus}
use Rattle.mailbox.specs.declared.line_status.LineStatus.TheVariants.{Unknown, Disabled}
use Rattle.mailbox.specs.Ending.{ended, Ends}
use Rattle.mailbox.specs.State.{DeviceState, ValidDevice, lines_of, state_of}
use Rattle.list_commands.specs.PoisonCommands.{line_of, line_code}
use Rattle.mailbox.specs.Mailbox.{outcome, area_after}
use Rattle.mailbox.specs.Pool.{pool_answer}
use Rattle.mailbox.specs.DeviceCalls as Device
use Rattle.settings.specs.Vector.{numbered}
use Rattle.mailbox.specs.declared.device.Device.{Device}
use Rattle.std.specs.Prelude.{None}
use Rattle.mailbox.proofs.Laws.{carries_numbered, refusal, event_refusal, media_refusal, ended_none}
use Rattle.history.specs.Builds.{Build, Meets, RefusesAll, FixedReply, ChangesNothing, KeepsFirst, of_media}
use Rattle.wire.proofs.Laws.{either}
use Rattle.history.proofs.Lasting.{valid_lasts, make_leaves, command_leaves, event_leaves, media_leaves, ended_leaves}
use Rattle.history.proofs.Views.{device_of, device_again, ValidView, view_valid, device_valid}

-- ---- the build that answers by the definitions
-- the device that a call finds: where a Sanitize is due, one that stands for the view that its end leaves; else the very one given
found_of : Device → ℕ → Device
found_of d time = cond (due d.media time) (device_of (ended (state_of d) time)) d

found_ends : (d : Device) (time : ℕ) → ValidDevice d → Ends d time (found_of d time)
unfolding found_of
found_ends d time v = go (due d.media time) refl
  where
    go : (b : Bool) → due d.media time ≡ b → Ends d time (cond b (device_of (ended (state_of d) time)) d)
    go true e =
        record {
          state = device_again (ended (state_of d) time);
          same = λ f. absurd (true≢false (sym e ∙ f));
          valid = device_valid (ended (state_of d) time) (ended_leaves valid_lasts (state_of d) (view_valid d v) time);
        }
    go false e = record { state = sym (ended_none (state_of d) time e); same = λ f. refl; valid = v }

-- the device handed back: after a refusal the very one that the call found, else one that stands for the view that follows
handed_back : ℕ → DeviceState → Device → Device
handed_back code s d = cond (leb code 1) (device_of s) d

module _ (code : ℕ) (s : DeviceState) (d : Device) where
  -- a number above 1 is a refusal
  above : 1 < code → Refused code
  above h = record { not_success = λ e. omega (arith, e); not_started = λ e. omega (arith, e) }

  -- its view is the one that follows; after a refusal it is the very same; it is valid
  back_view : (Refused code → s ≡ state_of d) → state_of (handed_back code s d) ≡ s
  unfolding handed_back
  back_view h = go (dec_lt 1 code)
    where
      go : Dec (1 < code) → state_of (handed_back code s d) ≡ s
      go (yes l) = rw (lt-leb code 1 l) (sym (h (above l)))
      go (no g) = rw (le-leb code 1 (omega (arith, g))) (device_again s)

  back_same : Refused code → handed_back code s d ≡ d
  unfolding handed_back
  back_same f = rw (lt-leb code 1 (low f))
    where
      low : Refused code → 1 < code
      low f = go (dec_lt 1 code)
        where
          go : Dec (1 < code) → 1 < code
          go (yes l) = l
          go (no g) = by_zero (ℕ_discrete code 0)
            where
              by_zero : Dec (code ≡ 0) → 1 < code
              by_zero (yes e) = absurd (f.not_success e)
              by_zero (no z) = absurd (f.not_started (omega (arith, g, z)))

  back_valid : ValidView s → ValidDevice d → ValidDevice (handed_back code s d)
  unfolding handed_back
  back_valid v w = either ValidDevice (leb code 1) (device_valid s v) w

-- the answer of a line test
line_told : DeviceState → ℕ → LineStatus
line_told s address =
    cond (eqb (line_code (lines_of s) address) 0) (cond s.media.disabled Disabled (status_of (Line.line_test s.poison (line_of address)))) Unknown

-- the build
abbrev by_definition : Build
by_definition =
    record {
      make = λ a. record { code = (Device.make a.volatile a.persistent).code; device = device_of (Device.make a.volatile a.persistent).next };
      command = λ d a.
          let o = outcome (state_of d) a.opcode a.payload a.time a.area (length a.before) in
          record { answer = record { code = o.code; length = length o.reply; vector = numbered o.vector; device = handed_back o.code o.next (found_of d a.time) }; after = splice 0 o.reply a.before; left = area_after a.opcode a.payload o.code a.area };
      event_report = λ d a.
          let o = Device.event_report (state_of d) a.time a.log a.event in
          record { code = o.code; stored = o.stored; vector = numbered o.vector; device = handed_back o.code o.next (found_of d a.time) };
      media_report = λ d a.
          let o = Device.media_report (state_of d) a.time a.address a.lines a.kind in
          record { code = o.code; stored = o.stored; dropped = o.dropped; device = handed_back o.code o.next (found_of d a.time) };
      line_test = λ d a. record { code = (Device.line_test (state_of d) a.address).code; answer = line_told (state_of d) a.address };
      event_status = λ d.
          let o = Device.event_status (state_of d) in
          record { bits = o.bits; waiting = o.waiting; highest = o.highest };
      damage_total = λ d. Device.damage_total (state_of d);
      pool_command = λ d a.
          let o = pool_answer (state_of d) a.opcode a.payload a.time (length a.before) in
          record { answer = record { code = o.code; length = length o.bytes }; after = splice 0 o.bytes a.before };
    }

-- its number and its type are the definition's
line_done : (s : DeviceState) (address : ℕ)
    → (status_number (line_told s address) ≡ (Device.line_test s address).number) × (status_type (line_told s address) ≡ (Device.line_test s address).kind)
unfolding line_told Device.line_test
line_done s address = go (eqb (line_code (lines_of s) address) 0) s.media.disabled refl refl
  where
    go : (b c : Bool) → eqb (line_code (lines_of s) address) 0 ≡ b → s.media.disabled ≡ c
        → (status_number (line_told s address) ≡ (Device.line_test s address).number) × (status_type (line_told s address) ≡ (Device.line_test s address).kind)
    go true true e f = rw (e, f) (refl, refl)
    go true false e f = rw (e, f) (refl, refl)
    go false c e f = rw e (refl, refl)

-- Some build meets the contracts.
pub some_build_meets : (b : Build) × Meets b
some_build_meets = (
  by_definition,
  record {
    make = λ a.
        record {
          code = refl;
          next = device_again (Device.make a.volatile a.persistent).next;
          valid = device_valid (Device.make a.volatile a.persistent).next (make_leaves valid_lasts a.volatile a.persistent);
        };
    command = λ d _ v a.
        let s = state_of d in
        let o = outcome s a.opcode a.payload a.time a.area (length a.before) in
        let e = found_ends d a.time v in
        record {
          found = found_of d a.time;
          ends = e;
          done = record {
            code = refl;
            size = refl;
            vector = carries_numbered o.vector;
            next = back_view o.code o.next (found_of d a.time) (λ f. (refusal s a.opcode a.payload a.time a.area (length a.before) f).1 ∙ sym e.state);
            bytes = refl;
            refused = back_same o.code o.next (found_of d a.time);
            valid = back_valid o.code o.next (found_of d a.time) (command_leaves valid_lasts s (view_valid d v) a.opcode a.payload a.time a.area (length a.before)) e.valid;
          };
        };
    labels = λ d _ v a. refl;
    event_report = λ d _ v a.
        let s = state_of d in
        let o = Device.event_report s a.time a.log a.event in
        let e = found_ends d a.time v in
        record {
          found = found_of d a.time;
          ends = e;
          done = record {
            code = refl;
            stored = refl;
            vector = carries_numbered o.vector;
            next = back_view o.code o.next (found_of d a.time) (λ f. (event_refusal s a.time a.log a.event f).1 ∙ sym e.state);
            refused = back_same o.code o.next (found_of d a.time);
            valid = back_valid o.code o.next (found_of d a.time) (event_leaves valid_lasts s (view_valid d v) a.time a.log a.event) e.valid;
          };
        };
    media_report = λ d _ v a.
        let s = state_of d in
        let o = Device.media_report s a.time a.address a.lines a.kind in
        let e = found_ends d a.time v in
        record {
          found = found_of d a.time;
          ends = e;
          done = record {
            code = refl;
            stored = refl;
            dropped = refl;
            next = back_view o.code o.next (found_of d a.time) (λ f. (media_refusal s a.time a.address a.lines a.kind f).2 ∙ sym e.state);
            refused = back_same o.code o.next (found_of d a.time);
            valid = back_valid o.code o.next (found_of d a.time) (media_leaves valid_lasts s (view_valid d v) a.time a.address a.lines a.kind) e.valid;
          };
        };
    line_test = λ d _ v a. record { code = refl; number = (line_done (state_of d) a.address).0; kind = (line_done (state_of d) a.address).1 };
    event_status = λ d _ v. record { bits = refl; waiting = refl; highest = refl };
    damage_total = λ d _ v. refl;
    pool_command = λ d _ v a. record { code = refl; size = refl; bytes = refl };
  },
)

-- ---- the four useless builds: some build has each fault, so that no theorem of proofs/Builds.antt holds for want of one
-- one that refuses all
abbrev refuser : Build
refuser =
    record {
      make = λ a. record { code = 2; device = device_of (Device.make 1 0).next };
      command = λ d a. record { answer = record { code = 3; length = 0; vector = None; device = d }; after = a.before; left = a.area };
      event_report = λ d a. record { code = 2; stored = false; vector = None; device = d };
      media_report = λ d a. record { code = 2; stored = 0; dropped = 0; device = d };
      line_test = λ d a. record { code = 2; answer = Unknown };
      event_status = by_definition.event_status;
      damage_total = by_definition.damage_total;
      pool_command = λ d a. record { answer = record { code = 3; length = 0 }; after = a.before };
    }

-- Some build refuses all.
pub some_build_refuses_all : (b : Build) × RefusesAll b
some_build_refuses_all = (
  refuser,
  record {
    make = λ a. record { not_success = λ e. omega arith; not_started = λ e. omega arith };
    command = λ d h a. record { not_success = λ e. omega arith; not_started = λ e. omega arith };
    event_report = λ d h a. record { not_success = λ e. omega arith; not_started = λ e. omega arith };
    media_report = λ d h a. record { not_success = λ e. omega arith; not_started = λ e. omega arith };
    line_test = λ d h a. record { not_success = λ e. omega arith; not_started = λ e. omega arith };
    pool_command = λ d h a. record { not_success = λ e. omega arith; not_started = λ e. omega arith };
  },
)

-- one that accepts all, replies nothing and changes nothing
abbrev idle : Build
idle =
    record {
      make = by_definition.make;
      command = λ d a. record { answer = record { code = 0; length = 0; vector = None; device = d }; after = a.before; left = a.area };
      event_report = λ d a. record { code = 0; stored = true; vector = None; device = d };
      media_report = λ d a. record { code = 0; stored = a.lines; dropped = 0; device = d };
      line_test = by_definition.line_test;
      event_status = by_definition.event_status;
      damage_total = by_definition.damage_total;
      pool_command = λ d a. record { answer = record { code = 0; length = 0 }; after = a.before };
    }

-- Some build has a fixed reply.
pub some_build_replies_fixed : (b : Build) × FixedReply b
some_build_replies_fixed = (idle, record { bytes = []; fixed = λ d h a e. refl })

-- Some build changes nothing.
pub some_build_changes_nothing : (b : Build) × ChangesNothing b
some_build_changes_nothing = (idle, record { command = λ d h a. refl; event_report = λ d h a. refl; media_report = λ d h a. refl })

-- whether a list has an entry
some_entry : List Entry → Bool
some_entry [] = false
some_entry (e ∷ es) = true

-- one that keeps the first media report, and answers later ones as stored
abbrev first_only : Build
first_only =
    record {
      make = by_definition.make;
      command = by_definition.command;
      event_report = by_definition.event_report;
      media_report = λ d a. cond (some_entry (state_of d).poison.entries) (idle.media_report d a) (by_definition.media_report d a);
      line_test = by_definition.line_test;
      event_status = by_definition.event_status;
      damage_total = by_definition.damage_total;
      pool_command = by_definition.pool_command;
    }

-- a list that is not empty has one
not_empty : (es : List Entry) → (es ≡ [] → ⊥) → some_entry es ≡ true
unfolding some_entry
not_empty [] h = absurd (h refl)
not_empty (e ∷ es) h = refl

-- Some build keeps the first report and pretends later.
pub some_build_keeps_first : (b : Build) × KeepsFirst b
some_build_keeps_first = (first_only, of_media (λ d _ h a. rw (not_empty (state_of d).poison.entries h)))
