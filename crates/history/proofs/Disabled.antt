-- From the start of a Sanitize to its end (document 02, W-207), over every list of calls: until a call comes whose time is at least the duration past the beginning no line is answered Clean, whatever the calls and their order;
-- that call finds media enabled and every log emptied; and nothing is due any more until another Sanitize starts. Assumes nothing.
use mathlib.Core.Path.{◌≡◌, sym, ap, ◌∙◌}
use mathlib.Core.Bool.{true}
use mathlib.Core.List.{List, [], ◌∷◌}
use Prim.Native.Nat.{ℕ, ◌+◌, ◌≤◌}
use Rattle.wire.specs.Returns.{started}
use Rattle.settings.specs.Media.{enabled, duration, sanitize, due}
use Rattle.settings.specs.declared.media.MediaState.{MediaState}
use Rattle.mailbox.specs.State.{DeviceState, state_of}
use Rattle.mailbox.specs.LineStatus.{status_number}
use Rattle.mailbox.specs.Relations.{LineDone}
use Rattle.mailbox.specs.declared.device.Device.{Device}
use Rattle.mailbox.specs.declared.device_calls.LineAnswer.{LineAnswer}
use Rattle.mailbox.specs.declared.line_status.LineStatus.TheVariants.{Clean}
use Rattle.mailbox.specs.Ending.{ended}
use Rattle.mailbox.specs.Outcome.{Outcome}
use Rattle.mailbox.specs.DeviceCalls as Device
use Rattle.mailbox.proofs.Laws.{sanitize_started, disabled_not_clean, due_from, not_due_before, ended_due, end_empties}
use Rattle.history.specs.Calls.{Call, command, event_report, media_report, line_test, event_status, damage_total, pool_command, step, after}
use Rattle.history.specs.Ran.{Steps}
use Rattle.history.specs.Refusals.{NothingDue}
use Rattle.history.specs.Sanitizing.{Before, AllBefore, From, NoneStarts, FindsEnded, Led, none, more}
use Rattle.history.proofs.Demand1.{found_same}
use Rattle.history.proofs.Sanitizing.{disabled_stays, enabled_stays}

-- ---- a device whose media a Sanitize disabled, on so many units at a time
module _ (units time : ℕ) where
  abbrev End : ℕ
  End = time + duration units

  -- nothing is due before the end
  early : (d : DeviceState) → d.media ≡ sanitize units time → (c : Call) → Before End c → NothingDue d c
  early d is (command opcode payload t area room) h = ap (λ (m : MediaState). due m t) is ∙ not_due_before units time t h
  early d is (event_report t log bytes) h = ap (λ (m : MediaState). due m t) is ∙ not_due_before units time t h
  early d is (media_report t address lines kind) h = ap (λ (m : MediaState). due m t) is ∙ not_due_before units time t h
  early d is (line_test address) h = tt
  early d is event_status h = tt
  early d is damage_total h = tt
  early d is (pool_command opcode payload time room) h = tt

  over : (d : DeviceState) → d.media ≡ sanitize units time → (t : ℕ) → End ≤ t → due d.media t ≡ true
  over d is t h = ap (λ (m : MediaState). due m t) is ∙ due_from units time t h

  off : (d : DeviceState) → d.media ≡ sanitize units time → d.media.disabled ≡ true
  unfolding sanitize
  off d is = ap (λ (m : MediaState). m.disabled) is

  -- so that media stays as the Sanitize left it: over a list of calls, and over calls of the code
  lasts : (d : DeviceState) → d.media ≡ sanitize units time → (cs : List Call) → AllBefore End cs → (after d cs).media ≡ sanitize units time
  lasts d is [] h = is
  lasts d is (c ∷ cs) h = lasts (step d c).next (disabled_stays d c (early d is c h.0) (off d is) ∙ is) cs h.1

  code_lasts : (d e : Device) → (state_of d).media ≡ sanitize units time → Led End d e → (state_of e).media ≡ sanitize units time
  code_lasts d e is (none _ same) = ap (λ (x : Device). (state_of x).media) same ∙ is
  code_lasts d e is (more b _ led c code s h) =
      let before = code_lasts d b is led in
      ap (λ (x : DeviceState). x.media) s.next ∙ disabled_stays (state_of b) c (early (state_of b) before c h) (off (state_of b) before) ∙ before

  -- a call at the end or later finds the work ended
  late : (d : DeviceState) → d.media ≡ sanitize units time → (c : Call) → From End c → FindsEnded d c
  late d is (command opcode payload t area room) h = record { media = ap (λ (x : DeviceState). x.media) (ended_due d t (over d is t h)); logs = end_empties d t (over d is t h) }
  late d is (event_report t log bytes) h = record { media = ap (λ (x : DeviceState). x.media) (ended_due d t (over d is t h)); logs = end_empties d t (over d is t h) }
  late d is (media_report t address lines kind) h = record { media = ap (λ (x : DeviceState). x.media) (ended_due d t (over d is t h)); logs = end_empties d t (over d is t h) }
  late d is (line_test address) h = absurd h
  late d is event_status h = absurd h
  late d is damage_total h = absurd h
  late d is (pool_command opcode payload time room) h = absurd h

-- ---- a device whose media is enabled: nothing is due, and no call but one that is answered 0001h changes that
idle : (d : DeviceState) → d.media ≡ enabled → (c : Call) → NothingDue d c
unfolding due
idle d is (command opcode payload t area room) = ap (λ (m : MediaState). due m t) is
idle d is (event_report t log bytes) = ap (λ (m : MediaState). due m t) is
idle d is (media_report t address lines kind) = ap (λ (m : MediaState). due m t) is
idle d is (line_test address) = tt
idle d is event_status = tt
idle d is damage_total = tt
idle d is (pool_command opcode payload time room) = tt

enabled_lasts : (d : DeviceState) → d.media ≡ enabled → (cs : List Call) → NoneStarts d cs → (after d cs).media ≡ enabled
enabled_lasts d is [] n = is
enabled_lasts d is (c ∷ cs) n =
    enabled_lasts (step d c).next (enabled_stays d c n.0 ∙ ap (λ (x : DeviceState). x.media) (found_same d c (idle d is c)) ∙ is) cs n.1

-- ---- any device, and a Sanitize on it that was answered 0001h, started
module _ (d : DeviceState) (p : List ℕ) (time : ℕ) (area : List ℕ) (room : ℕ) (begun : (step d (command 0x4400 p time area room)).code ≡ started) where
  -- the device that it left, and the time from which on its work is due to end
  abbrev pub left : DeviceState
  left = (step d (command 0x4400 p time area room)).next

  abbrev pub end : ℕ
  end = time + duration (d.volatile + d.persistent)

  recorded : left.media ≡ sanitize (d.volatile + d.persistent) time
  unfolding step
  recorded = ap (λ (o : Outcome). o.next.media) (sanitize_started (ended d time) p time area room begun)

  -- "While disabled the line test answers Disabled": whatever calls come before the end, in any order, refused ones among them, no line is answered Clean after them.
  pub none_clean : (cs : List Call) → AllBefore end cs → (address : ℕ) → (Device.line_test (after left cs) address).number ≡ 0 → ⊥
  none_clean cs h address =
      disabled_not_clean (after left cs) address (off (d.volatile + d.persistent) time (after left cs) (lasts (d.volatile + d.persistent) time left recorded cs h))

  -- "The first later command, event report or media report whose time is at least that far past the beginning first ends the work": it finds every log emptied, its next handle kept, and media enabled.
  pub work_ends : (cs : List Call) → AllBefore end cs → (c : Call) → From end c → FindsEnded (after left cs) c
  work_ends cs h c = late (d.volatile + d.persistent) time (after left cs) (lasts (d.volatile + d.persistent) time left recorded cs h) c

  -- The ending happens once: from that call on, whatever calls come, nothing is due at any call until a Sanitize is answered 0001h again.
  pub ends_once : (cs : List Call) → AllBefore end cs → (c : Call) → From end c → (later : List Call) → NoneStarts (after left cs) (c ∷ later) → (next : Call) → NothingDue (after (after left cs) (c ∷ later)) next
  ends_once cs h c f later n next =
      idle (after (after left cs) (c ∷ later)) (enabled_lasts (step (after left cs) c).next (enabled_stays (after left cs) c n.0 ∙ (work_ends cs h c f).media) later n.1) next

-- `none_clean` of calls of the code, from the device that a Sanitize answered 0001h left: its line test answers Clean for no address.
pub code_none_clean : (d e f : Device) (p : List ℕ) (time : ℕ) (area : List ℕ) (room : ℕ) → Steps d e (command 0x4400 p time area room) started
    → Led (time + duration (d.volatile + d.persistent)) e f → (address : ℕ) (r : LineAnswer) → LineDone (Device.line_test (state_of f) address) r → r.answer ≡ Clean → ⊥
code_none_clean d e f p time area room s led address r a clean =
    let is = ap (λ (x : DeviceState). x.media) s.next ∙ recorded (state_of d) p time area room (sym s.number) in
    disabled_not_clean (state_of f) address (off (d.volatile + d.persistent) time (state_of f) (code_lasts (d.volatile + d.persistent) time e f is led)) (sym a.number ∙ ap status_number clean)
