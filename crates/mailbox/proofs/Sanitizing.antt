-- Sanitize in words (document 02, W-207), of the definitions: its start; while media is disabled the commands on memory are refused and no line is answered Clean; what a command leaves of media; when the work is due, and
-- that its end comes once. What the end leaves is in Endings. Assumes nothing.
use mathlib.Core.Path.{◌≡◌, refl, sym, ap, ap₂, ◌∙◌, subst}
use mathlib.Core.Logic.{◌⊎◌, inl, inr}
use mathlib.Core.Bool.{Bool, true, false, cond, false≢true}
use mathlib.Core.List.{List}
use Prim.Native.Nat.{ℕ, ◌+◌, ◌≤◌, ◌<◌}
use native.Mathlib.Omega.{arith}
use native.Mathlib.Decide.{ℕ_discrete}
use lib.Dec.{eqb}
use lib.ListN.{length}
use borrow.Author.Tests.{le-leb, lt-leb, ne_eqb}
use Rattle.wire.specs.Returns.{success, started, busy, media_disabled, need}
use Rattle.commands.specs.Commands.{admission, while_disabled, blocked, first_code}
use Rattle.settings.specs.Media.{duration, sanitize, due}
use Rattle.list_commands.specs.PoisonCommands.{line_of, line_code}
use Rattle.commands.proofs.Laws.{first_admitted, first_zero, first_not_started}
use Rattle.mailbox.specs.State.{DeviceState, lines_of, with_media}
use Rattle.mailbox.specs.Ending.{ended}
use Rattle.mailbox.specs.Outcome.{Outcome, changes, refused}
use Rattle.mailbox.specs.EventCommands.{clear_event_records}
use Rattle.mailbox.specs.Mailbox.{run_command, answer}
use Rattle.mailbox.specs.DeviceCalls.{told, line_test}
use Rattle.mailbox.specs.LineStatus.{status_of}
use Rattle.mailbox.specs.declared.line_status.LineStatus.TheVariants.{Unknown, Disabled}
use Rattle.poison.specs.LineTest.{line_test as list_test}
use Rattle.mailbox.proofs.Accepted.{admitted_runs}
use Rattle.mailbox.proofs.Endings.{ended_none, ended_due}
use Rattle.mailbox.proofs.Moving.{Moved, nothing, one_log, settings, the_clock, list_and_log, the_list, the_media, run_moves}
use Rattle.mailbox.proofs.Raising.{injection_list}

-- what media disabled refuses is the answer, where the checks before let it through
stopped : (d : DeviceState) (op : ℕ) (p : List ℕ) (time : ℕ) (area : List ℕ) (room code : ℕ) → d.media.disabled ≡ true → while_disabled op ≡ code → (code ≡ 0 → ⊥)
    → admission op (length p) (length area) room ≡ 0 → answer d op p time area room ≡ refused code d
unfolding answer
stopped d op p time area room code off stops some z =
    let e : code ≡ first_code d.media.disabled op (length p) (length area) room
    = sym (ap (λ (b : Bool). blocked b op) off ∙ stops) ∙ first_admitted d.media.disabled op (length p) (length area) room z in
    ap (λ (n : ℕ). need (eqb n success) (refused n d) (run_command d op p time area)) (sym e) ∙ ap (λ (b : Bool). need b (refused code d) (run_command d op p time area)) (ne_eqb code 0 some)

-- ---- the start: a Sanitize that the checks before its own let through, on the device that it finds
module _ (d : DeviceState) (p : List ℕ) (time : ℕ) (area : List ℕ) (room : ℕ) (z : admission 0x4400 (length p) (length area) room ≡ 0) where
  -- where none runs: 0001h, no reply, no vector, and media disabled from the caller's time on, for as long as the table says; nothing else changes
  pub sanitize_starts : d.media.disabled ≡ false → answer d 0x4400 p time area room ≡ changes started (with_media d (sanitize (d.volatile + d.persistent) time))
  unfolding run_command
  sanitize_starts on =
      admitted_runs d 0x4400 p time area room (sym (first_admitted d.media.disabled 0x4400 (length p) (length area) room z) ∙ ap (λ (b : Bool). blocked b 0x4400) on)

  -- while one runs: 0006h
  pub sanitize_busy : d.media.disabled ≡ true → answer d 0x4400 p time area room ≡ refused busy d
  unfolding while_disabled
  sanitize_busy off = stopped d 0x4400 p time area room busy off refl (λ e. omega (arith, e)) z

-- one that is answered 0001h is the first of these: no check gives that number
pub sanitize_started : (d : DeviceState) (p : List ℕ) (time : ℕ) (area : List ℕ) (room : ℕ) → (answer d 0x4400 p time area room).code ≡ started
    → answer d 0x4400 p time area room ≡ changes started (with_media d (sanitize (d.volatile + d.persistent) time))
unfolding answer run_command
sanitize_started d p time area room s = go (ℕ_discrete (first_code d.media.disabled 0x4400 (length p) (length area) room) 0)
  where
    go : Dec (first_code d.media.disabled 0x4400 (length p) (length area) room ≡ 0) → answer d 0x4400 p time area room ≡ changes started (with_media d (sanitize (d.volatile + d.persistent) time))
    go (yes z) = admitted_runs d 0x4400 p time area room z
    go (no f) = absurd (first_not_started d.media.disabled 0x4400 (length p) (length area) room
        (ap (λ (b : Bool). (need b (refused (first_code d.media.disabled 0x4400 (length p) (length area) room) d) (run_command d 0x4400 p time area)).code) (sym (ne_eqb _ 0 f)) ∙ s))

-- ---- while media is disabled: Inject Poison, Clear Poison, Get LSA and Set LSA are 0007h directly after the length check, whatever their address, range or reserved bytes
pub disabled_refused : (d : DeviceState) (op : ℕ) (p : List ℕ) (time : ℕ) (area : List ℕ) (room : ℕ) → d.media.disabled ≡ true → while_disabled op ≡ media_disabled
    → admission op (length p) (length area) room ≡ 0 → answer d op p time area room ≡ refused media_disabled d
disabled_refused d op p time area room off stops z = stopped d op p time area room media_disabled off stops (λ e. omega (arith, e)) z

-- media is left as it was, whatever the command; or the command is answered 0001h, and found media enabled: while a Sanitize runs another is refused
pub media_after : (d : DeviceState) (op : ℕ) (p : List ℕ) (time : ℕ) (area : List ℕ) (room : ℕ)
    → ((answer d op p time area room).next.media ≡ d.media) ⊎ (((answer d op p time area room).code ≡ started) × (d.media.disabled ≡ false))
unfolding answer while_disabled clear_event_records
media_after d op p time area room = go (ℕ_discrete first 0)
  where
    first : ℕ
    first = first_code d.media.disabled op (length p) (length area) room

    Left : Outcome → Type 0
    Left o = (o.next.media ≡ d.media) ⊎ ((o.code ≡ started) × (d.media.disabled ≡ false))

    -- a Sanitize that the checks let through found media enabled
    found_enabled : first ≡ 0 → op ≡ 0x4400 → (b : Bool) → d.media.disabled ≡ b → d.media.disabled ≡ false
    found_enabled z e false off = off
    found_enabled z e true off = absurd (omega (arith, sym (ap₂ blocked off e) ∙ (first_zero d.media.disabled op (length p) (length area) room z).1))

    moved : first ≡ 0 → {o : Outcome} → Moved d op p time o → Left o
    moved z (nothing r is quiet) = inl (ap (λ (o : Outcome). o.next.media) is)
    moved z (one_log e is) = inl (ap (λ (o : Outcome). o.next.media) is)
    moved z (settings e is) = inl (ap (λ (o : Outcome). o.next.media) is)
    moved z (the_clock e c is) = inl (ap (λ (o : Outcome). o.next.media) is)
    moved z (list_and_log e is) = inl (ap (λ (o : Outcome). o.next.media) is ∙ (injection_list d p time).media)
    moved z (the_list e is) = inl (ap (λ (o : Outcome). o.next.media) is)
    moved z (the_media e m is) = inr (ap (λ (o : Outcome). o.code) is, found_enabled z e d.media.disabled refl)

    go : Dec (first ≡ 0) → Left (answer d op p time area room)
    go (no f) = inl (ap (λ (b : Bool). (need b (refused first d) (run_command d op p time area)).next.media) (ne_eqb first 0 f))
    go (yes z) = subst Left (sym (admitted_runs d op p time area room z)) (moved z (run_moves d op p time area))

-- no line is answered Clean, whatever the list
pub disabled_not_clean : (d : DeviceState) (address : ℕ) → d.media.disabled ≡ true → (line_test d address).number ≡ 0 → ⊥
unfolding line_test
disabled_not_clean d address off = by d.media.disabled off (eqb (line_code (lines_of d) address) 0)
  where
    by : (c : Bool) → c ≡ true → (b : Bool)
        → (need b (told (line_code (lines_of d) address) Unknown) (cond c (told success Disabled) (told success (status_of (list_test d.poison (line_of address)))))).number ≡ 0 → ⊥
    by true e true h = omega (arith, h)
    by true e false h = omega (arith, h)
    by false e b h = absurd (false≢true e)

-- ---- the end comes once: where it came nothing is due at any time, and nothing is due at the time of a call on the device that it finds
pub ended_once : (d : DeviceState) (time : ℕ) → due d.media time ≡ true → (later : ℕ) → due (ended d time).media later ≡ false
unfolding due
ended_once d time e later = ap (λ (x : DeviceState). due x.media later) (ended_due d time e)

pub found_not_due : (d : DeviceState) (time : ℕ) → due (ended d time).media time ≡ false
unfolding due
found_not_due d time = by (due d.media time) refl
  where
    by : (b : Bool) → due d.media time ≡ b → due (ended d time).media time ≡ false
    by true e = ended_once d time e time
    by false e = ap (λ (x : DeviceState). due x.media time) (ended_none d time e) ∙ e

-- it is due from the beginning plus the duration on, and not before; a time before the beginning is not past it
pub due_from : (units begun time : ℕ) → begun + duration units ≤ time → due (sanitize units begun) time ≡ true
unfolding due sanitize
due_from units begun time h = le-leb _ _ h

pub not_due_before : (units begun time : ℕ) → time < begun + duration units → due (sanitize units begun) time ≡ false
unfolding due sanitize
not_due_before units begun time h = lt-leb _ _ h
