-- Of each function over parts of a device: that the parts of a valid device meet what it requires (`_asks`), and that what it ensures of the parts is what a call on the
-- device ensures (`_gives`); the same of a command handed on by what its opcode sees, and of the end of a Sanitize log by log. Assumes nothing.
use mathlib.Core.Path.{◌≡◌, refl, sym, ap, ap₂, subst, ◌∙◌}
use mathlib.Core.Bool.{Bool, true, false}
use mathlib.Core.List.{List, ◌∷◌, []}
use Prim.Native.Nat.{ℕ, ◌+◌, ◌*◌, ◌≤◌, ◌<◌}
use native.Mathlib.Omega.{arith}
use lib.ListN.{length, length-set, get_or, set}
use denote.Laws.{Is}
use denote.Struct.Laws as LL
use Rattle.poison.specs.State.{capacity, ValidList, ValidShapes}
use Rattle.poison.specs.contracts.list.PoisonList as PoisonListT
use Rattle.poison.proofs.list.PoisonList.TheLaws as PoisonListL
use Rattle.poison.proofs.Laws.{Sized, valid_shapes, valid_more}
use Rattle.events.specs.Log.{ValidLog, blank}
use Rattle.events.specs.Emptied.{Empties, EmptiesAll}
use Rattle.events.specs.declared.log.Log.{Log}
use Rattle.events.proofs.Laws.{valid_set, set_five}
use Rattle.events.specs.contracts.log.Log as LogT
use Rattle.events.proofs.log.Log.TheLaws as LogL
use Rattle.mailbox.specs.declared.device.Device.{Device}
use Rattle.commands.specs.Numbers.{unit_lines, most_units}
use Rattle.mailbox.specs.State.{ValidDevice, state_of}
use Rattle.settings.specs.Vector.{numbered}
use Rattle.mailbox.specs.Ending.{Ends, AfterEnding}
use Rattle.mailbox.specs.Mailbox.{answer, outcome, area_after}
use Rattle.mailbox.specs.DeviceCalls.{event_report, media_report}
use Rattle.mailbox.specs.Pool.{pool_answer}
use Rattle.settings.specs.Relations.{Replied}
use Rattle.wire.specs.declared.done.Done as Wire
use Rattle.mailbox.specs.Relations.{Answered, EventDone, MediaDone}
use Rattle.mailbox.specs.ByParts.{AreaParts, ListParts, InjectParts, LogParts, SettingsParts, EventParts, MediaParts, AreaAnswered, of_area, of_list, of_injection, of_log, log_at, log_named, device_of, with_log, ListAnswered, InjectAnswered, LogAnswered, SettingsAnswered, PoolIn, EventIn, MediaIn}
use Rattle.settings.specs.Media.{enabled, due}
use Rattle.settings.specs.declared.media.MediaState.{MediaState}
use Rattle.mailbox.proofs.Laws.{ends_none, ends_due, after_command, after_event, after_media, not_area, not_area_sized, other_leaves, numbered_none, command_vector, list_parts_answered, inject_parts_answered, log_parts_answered, settings_parts_answered, pool_parts_answered, event_parts_done, media_parts_done}
use Rattle.mailbox.specs.contracts.device.Device as DeviceT
use Rattle.mailbox.proofs.device.Device.TheLaws as DeviceL
use Rattle.labels.specs.Labels.{label_size}
use Rattle.embed.specs.declared.Done.{Done}
use Rattle.embed.specs.Left.{answered, LogEmptied, WorkEnded, Commanded, WithoutArea}
use Rattle.embed.proofs.Indexed.{count}

-- what lies behind the pointer is a device: each number fits its field, each array has its length
abbrev pub Held : Device → Type 0
Held d = Is DeviceT.the_row d (LL.val DeviceT.the_type DeviceL.the_laws d ∷ [])

list_held : (d : Device) → Held d → Is PoisonListT.the_row d.poison (LL.val PoisonListT.the_type PoisonListL.the_laws d.poison ∷ [])
list_held d was = (LL.owed DeviceT.the_type DeviceL.the_laws d _ was).1.1.1.1.1.0

pub sized : (d : Device) → Held d → Sized d.poison
sized d was =
    let owed = LL.owed PoisonListT.the_type PoisonListL.the_laws d.poison _ (list_held d was) in
    record { starts = owed.0.1.0.1; lengths = owed.1.0.1.0.1; kinds = owed.1.1.0.1.0.1 }

-- there are five logs
five : (d : Device) → Held d → length d.logs ≡ 5
five d was = count LogT.the_type LogL.the_laws 5 d.logs _ (LL.owed DeviceT.the_type DeviceL.the_laws d _ was).1.1.1.1.0

-- ---- the line test and the damage total
-- a device's list is valid on the largest device
any_lines : (d : Device) → ValidDevice d → ValidList capacity d.poison
any_lines d v = valid_more (omega (arith, v.few_units)) v.poison

pub test_asks : (d : Device) → ValidDevice d → ValidShapes capacity d.poison
test_asks d v = valid_shapes (any_lines d v)

-- ---- a command of the second mailbox (document 02, W-208)
module _ (d : Device) (opcode : ℕ) (payload : List ℕ) (time : ℕ) (reply : List ℕ) (v : ValidDevice d) where
  module _ (k : ℕ) (named : (k ≡ log_named payload) × (k < 5)) where
    pub pool_command_in_asks : (d.volatile + d.persistent ≤ most_units) × ValidList (unit_lines * (d.volatile + d.persistent)) d.poison × ValidLog (get_or d.logs k blank)
    pool_command_in_asks = (v.few_units, v.poison, v.logs.each k named.1)

  module _ (k : ℕ) (named : (k ≡ log_named payload) × (k < 5)) where
    pub pool_command_in_gives : (r : Wire.Done) (after : List ℕ)
        → PoolIn d.volatile d.persistent d.clock d.policy (get_or d.logs k blank) d.poison opcode payload time r reply after
        → Replied (pool_answer (state_of d) opcode payload time (length reply)) r reply after
    pool_command_in_gives r after a = pool_parts_answered d named.0 a

-- ---- the end of a Sanitize: one log
module _ (d : Device) (number : ℕ) (v : ValidDevice d) where
  module _ (k : ℕ) (named : (k ≡ log_at number) × (k < 5)) where
    pub emptied_asks : ValidLog (get_or d.logs k blank)
    emptied_asks = v.logs.each k named.1

  module _ (many : length d.logs ≡ 5) (k : ℕ) (named : (k ≡ log_at number) × (k < 5)) where
    pub emptied_gives : (r : Log) → Empties (get_or d.logs k blank) r → LogEmptied d (log_at number) (with_log d k r) × ValidDevice (with_log d k r)
    emptied_gives r e = (
      subst (λ (j : ℕ). LogEmptied d j (with_log d k r)) named.0 (record { log = r; empties = e; left = refl }),
      record { some_unit = v.some_unit; few_units = v.few_units; logs = valid_set d.logs k r many named.1 v.logs e.valid; poison = v.poison },
    )

-- a log put in its place leaves their number
pub logs_stay : (k : ℕ) (b c : Device) → LogEmptied b k c → length c.logs ≡ length b.logs
logs_stay k b c e = ap (λ (x : Device). length x.logs) e.left ∙ length-set b.logs k e.log

-- a device with these logs
abbrev with : Device → List Log → Device
with d ls = device_of d.volatile d.persistent d.clock d.policy ls d.poison d.media

-- all five one after the other: the device with each in its place, and their states
all_emptied : (d d1 d2 d3 d4 d5 : Device) → length d.logs ≡ 5 → LogEmptied d 0 d1 → LogEmptied d1 1 d2 → LogEmptied d2 2 d3 → LogEmptied d3 3 d4 → LogEmptied d4 4 d5
    → EmptiesAll d.logs d5.logs × (d5 ≡ with d d5.logs)
all_emptied d d1 d2 d3 d4 d5 many e1 e2 e3 e4 e5 = go d.logs refl
  where
    -- each device, from the one before it
    next : (k : ℕ) (b c : Device) (ls : List Log) → b ≡ with d ls → (e : LogEmptied b k c) → (c ≡ with d (set ls k e.log)) × Empties (get_or ls k blank) e.log
    next k b c ls at e = (e.left ∙ ap (λ (x : Device). with_log x k e.log) at, subst (λ (x : Device). Empties (get_or x.logs k blank) e.log) at e.empties)

    go : (ls : List Log) → ls ≡ d.logs → EmptiesAll d.logs d5.logs × (d5 ≡ with d d5.logs)
    go ls is =
        let s1 = next 0 d d1 ls (ap (with d) (sym is)) e1 in
        let s2 = next 1 d1 d2 _ s1.0 e2 in
        let s3 = next 2 d2 d3 _ s2.0 e3 in
        let s4 = next 3 d3 d4 _ s3.0 e4 in
        let s5 = next 4 d4 d5 _ s4.0 e5 in
        let at = ap (λ (x : Device). x.logs) s5.0 in (
          subst (λ (x : List Log). EmptiesAll d.logs x) (sym at) (subst (λ (x : List Log). EmptiesAll x (set (set (set (set (set ls 0 e1.log) 1 e2.log) 2 e3.log) 3 e4.log) 4 e5.log)) is (set_five ls (ap length is ∙ many) s1.1 s2.1 s3.1 s4.1 s5.1)),
          s5.0 ∙ ap (with d) (sym at),
        )

module _ (d : Device) (v : ValidDevice d) (d1 : Device) (e1 : LogEmptied d (log_at 0) d1 × ValidDevice d1) (d2 : Device) (e2 : LogEmptied d1 (log_at 1) d2 × ValidDevice d2) (d3 : Device)
    (e3 : LogEmptied d2 (log_at 2) d3 × ValidDevice d3) (d4 : Device) (e4 : LogEmptied d3 (log_at 3) d4 × ValidDevice d4) (d5 : Device) (e5 : LogEmptied d4 (log_at 4) d5 × ValidDevice d5) where
  pub enabled_gives : length d5.logs ≡ 5 → (r : MediaState) → r ≡ enabled → WorkEnded d (device_of d5.volatile d5.persistent d5.clock d5.policy d5.logs d5.poison r)
  unfolding log_at
  enabled_gives many r on =
      let all = all_emptied d d1 d2 d3 d4 d5 (counted many) e1.0 e2.0 e3.0 e4.0 e5.0 in
      record { logs = all.0; left = ap₂ (λ (x : Device) (m : MediaState). device_of x.volatile x.persistent x.clock x.policy d5.logs x.poison m) all.1 on }
    where
      back : (k : ℕ) (b c : Device) → LogEmptied b k c → length c.logs ≡ 5 → length b.logs ≡ 5
      back k b c e h = sym (logs_stay k b c e) ∙ h

      counted : length d5.logs ≡ 5 → length d.logs ≡ 5
      counted h = back 0 d d1 e1.0 (back 1 d1 d2 e2.0 (back 2 d2 d3 e3.0 (back 3 d3 d4 e4.0 (back 4 d4 d5 e5.0 h))))

-- where it is due; and where it is not
module _ (d : Device) (time : ℕ) (v : ValidDevice d) where
  pub end_work_gives : due d.media time ≡ true → {e : Device} → WorkEnded d e → Ends d time e
  end_work_gives is {e} w = subst (Ends d time) (sym w.left) (ends_due d time v is w.logs refl)

  pub due_gives : due d.media time ≡ false → (r : Bool) → r ≡ due d.media time → Ends d time d
  due_gives is r e = ends_none d time v is

-- ---- a command: a due Sanitize is ended first, and left the device e; then what the label area decides, it decides without the device; else the function of the part that the opcode sees is handed the device
module _ (d : Device) (opcode : ℕ) (payload : List ℕ) (time : ℕ) (area reply : List ℕ) where
  -- what the call through the pointer ensures
  abbrev Called : Done → Device → List ℕ → List ℕ → Type 0
  Called r f left after =
      AfterEnding d time (λ (x : Device). Answered (outcome (state_of d) opcode payload time area (length reply)) x (answered r f) reply after) × (left ≡ area_after opcode payload r.code area)

  module _ (v : ValidDevice d) (e : Device) (ends : Ends d time e) where
    on_found : (r : Done) {f : Device} {left after : List ℕ} → Commanded e opcode payload time area reply r f left after → Called r f left after
    on_found r a = (after_command ends opcode payload area (length reply) a.0, a.1)

    module _ (is : of_area opcode (length area) ≡ true) where
      pub run_on_area_asks : ValidDevice e × (of_area opcode (length area) ≡ true)
      run_on_area_asks = (ends.valid, is)

      pub run_on_area_gives : (r : Done) (left after : List ℕ) {f : Device} → Commanded e opcode payload time area reply r f left after → Called r f left after
      run_on_area_gives r left after a = on_found r a

    module _ (is : of_area opcode (length area) ≡ false) where
      pub run_on_device_asks : ValidDevice e × (of_area opcode (length area) ≡ false)
      run_on_device_asks = (ends.valid, is)

      pub run_on_device_gives : (r : Done) (left after : List ℕ) {f : Device} → Commanded e opcode payload time area reply r f left after → Called r f left after
      run_on_device_gives r left after a = on_found r a

  module _ (v : ValidDevice d × (of_area opcode (length area) ≡ true)) where
    pub area_command_asks : of_area opcode (length area) ≡ true
    area_command_asks = v.1

    pub area_command_gives : (r : AreaParts) (left after : List ℕ) → AreaAnswered d.media.disabled opcode payload r reply after area left
        → Commanded d opcode payload time area reply (record { code = r.code; vector = 0; length = r.length }) d left after
    area_command_gives r left after e = (command_vector (sym numbered_none) (e.answered d time v.0 refl), e.area)

  module _ (v : ValidDevice d × (of_area opcode (length area) ≡ false)) where
    -- a function that is not told of the area answers at the one that is lent, and the area stays
    at_area : (r : Done) {e : Device} {after : List ℕ} → WithoutArea d opcode payload time reply r e after → Commanded d opcode payload time area reply r e area after
    at_area r a = (a area (not_area opcode (length area) v.1).0, other_leaves opcode payload r.code area (not_area opcode (length area) v.1).2)

    module _ (is : of_list opcode ≡ true) where
      pub run_on_list_asks : ValidDevice d × (of_list opcode ≡ true)
      run_on_list_asks = (v.0, is)

      pub run_on_list_gives : (r : Done) (after : List ℕ) {e : Device} → WithoutArea d opcode payload time reply r e after → Commanded d opcode payload time area reply r e area after
      run_on_list_gives r after a = at_area r a

    module _ (list : of_list opcode ≡ false) where
      module _ (is : of_injection opcode ≡ true) where
        pub run_injection_asks : ValidDevice d × (of_injection opcode ≡ true)
        run_injection_asks = (v.0, is)

        pub run_injection_gives : (r : Done) (after : List ℕ) {e : Device} → WithoutArea d opcode payload time reply r e after → Commanded d opcode payload time area reply r e area after
        run_injection_gives r after a = at_area r a

      module _ (injection : of_injection opcode ≡ false) where
        module _ (is : of_log opcode ≡ true) where
          pub run_on_log_asks : ValidDevice d × (of_log opcode ≡ true)
          run_on_log_asks = (v.0, is)

          pub run_on_log_gives : (r : Done) (after : List ℕ) {e : Device} → WithoutArea d opcode payload time reply r e after → Commanded d opcode payload time area reply r e area after
          run_on_log_gives r after a = at_area r a

        module _ (log : of_log opcode ≡ false) where
          pub run_on_settings_asks : ValidDevice d × (of_area opcode label_size ≡ false) × (of_list opcode ≡ false) × (of_injection opcode ≡ false) × (of_log opcode ≡ false)
          run_on_settings_asks = (v.0, not_area_sized opcode (length area) v.1, list, injection, log)

          pub run_on_settings_gives : (r : Done) (after : List ℕ) {e : Device} → WithoutArea d opcode payload time reply r e after → Commanded d opcode payload time area reply r e area after
          run_on_settings_gives r after a = at_area r a

-- ---- and that function, over its parts
module _ (d : Device) (opcode : ℕ) (payload : List ℕ) (time : ℕ) (reply : List ℕ) where
  -- what the call through the pointer ensures: an answer, and the buffer after, whatever the area
  abbrev Gives : ℕ → ℕ → ℕ → Device → List ℕ → Type 0
  Gives code vector n next after =
      (area : List ℕ) → length area ≡ label_size
      → Answered (answer (state_of d) opcode payload time area (length reply)) d (record { code = code; length = n; vector = numbered vector; device = next }) reply after

  module _ (v : ValidDevice d × (of_list opcode ≡ true)) where
    pub list_command_asks : (1 ≤ d.volatile + d.persistent) × (d.volatile + d.persistent ≤ most_units) × ValidList (unit_lines * (d.volatile + d.persistent)) d.poison × (of_list opcode ≡ true)
    list_command_asks = (v.0.some_unit, v.0.few_units, v.0.poison, v.1)

    pub list_command_gives : (r : ListParts) (after : List ℕ)
        → ListAnswered d.media.disabled d.volatile d.persistent d.clock d.poison opcode payload time r reply after
        → Gives r.code 0 r.length (device_of d.volatile d.persistent d.clock d.policy d.logs r.list d.media) after
    list_command_gives r after e area sized = command_vector (sym numbered_none) (list_parts_answered d v.0 area sized e)

  -- Inject Poison: the list and log 0
  module _ (v : ValidDevice d × (of_injection opcode ≡ true)) where
    module _ (k : ℕ) (named : (k ≡ log_at 0) × (k < 5)) where
      pub inject_command_asks : (1 ≤ d.volatile + d.persistent) × (d.volatile + d.persistent ≤ most_units) × ValidList (unit_lines * (d.volatile + d.persistent)) d.poison × ValidLog (get_or d.logs k blank)
      inject_command_asks = (v.0.some_unit, v.0.few_units, v.0.poison, v.0.logs.each k named.1)

    module _ (many : length d.logs ≡ 5) (k : ℕ) (named : (k ≡ log_at 0) × (k < 5)) where
      pub inject_command_gives : (r : InjectParts) (after : List ℕ)
          → InjectAnswered d.media.disabled d.volatile d.persistent d.clock d.policy (get_or d.logs k blank) d.poison payload time r reply after
          → Gives r.code r.vector 0 (device_of d.volatile d.persistent d.clock d.policy (set d.logs k r.log) r.list d.media) after
      unfolding log_at
      inject_command_gives r after e =
          let at : (j : ℕ) → j ≡ 0
          → InjectAnswered d.media.disabled d.volatile d.persistent d.clock d.policy (get_or d.logs j blank) d.poison payload time r reply after
          → Gives r.code r.vector 0 (device_of d.volatile d.persistent d.clock d.policy (set d.logs j r.log) r.list d.media) after
          = λ j z. rw z (λ a area sized. inject_parts_answered d v.0 opcode area sized many v.1 a) in
          at k named.0 e

  -- one log
  module _ (v : ValidDevice d × (of_log opcode ≡ true)) where
    module _ (k : ℕ) (named : (k ≡ log_named payload) × (k < 5)) where
      pub log_command_asks : ValidLog (get_or d.logs k blank) × (of_log opcode ≡ true)
      log_command_asks = (v.0.logs.each k named.1, v.1)

    module _ (many : length d.logs ≡ 5) (k : ℕ) (named : (k ≡ log_named payload) × (k < 5)) where
      pub log_command_gives : (r : LogParts) (after : List ℕ) → LogAnswered (get_or d.logs k blank) opcode payload r reply after
          → Gives r.code 0 r.length (with_log d k r.log) after
      log_command_gives r after e area sized = command_vector (sym numbered_none) (log_parts_answered d v.0 many k area sized time named.0 e)

  -- the settings
  module _ (v : ValidDevice d × (of_area opcode label_size ≡ false) × (of_list opcode ≡ false) × (of_injection opcode ≡ false) × (of_log opcode ≡ false)) where
    pub settings_command_asks : (1 ≤ d.volatile + d.persistent) × (d.volatile + d.persistent ≤ most_units) × (of_area opcode label_size ≡ false) × (of_list opcode ≡ false) × (of_injection opcode ≡ false) × (of_log opcode ≡ false)
    settings_command_asks = (v.0.some_unit, v.0.few_units, v.1, v.2, v.3, v.4)

    pub settings_command_gives : (r : SettingsParts) (after : List ℕ)
        → SettingsAnswered d.volatile d.persistent d.clock d.policy d.media opcode payload time r reply after
        → Gives r.code 0 r.length (device_of d.volatile d.persistent r.clock r.policy d.logs d.poison r.media) after
    settings_command_gives r after e area sized = command_vector (sym numbered_none) (settings_parts_answered d v.0 area sized e)

-- ---- the event report, on the device e that it finds
module _ (d : Device) (time log : ℕ) (event : List ℕ) (v : ValidDevice d) (e : Device) (ends : Ends d time e) where
  module _ (k : ℕ) (named : (k ≡ log_at log) × (k < 5)) where
    pub event_report_in_asks : ValidLog (get_or e.logs k blank)
    event_report_in_asks = ends.valid.logs.each k named.1

  module _ (many : length e.logs ≡ 5) (k : ℕ) (named : (k ≡ log_at log) × (k < 5)) where
    pub event_report_in_gives : (r : EventParts) → EventIn (get_or e.logs k blank) e.clock e.policy time log event r
        → AfterEnding d time (λ (x : Device). EventDone (event_report (state_of d) time log event) x (record { code = r.code; stored = r.stored; vector = numbered r.vector; device = with_log e k r.log }))
    event_report_in_gives r a = after_event ends log event (event_parts_done e ends.valid many k named.0 a)

-- ---- the media report, likewise
module _ (d : Device) (time address n kind : ℕ) (v : ValidDevice d) (e : Device) (ends : Ends d time e) where
  pub media_report_in_asks : (1 ≤ e.volatile + e.persistent) × (e.volatile + e.persistent ≤ most_units) × ValidList (unit_lines * (e.volatile + e.persistent)) e.poison
  media_report_in_asks = (ends.valid.some_unit, ends.valid.few_units, ends.valid.poison)

  pub media_report_in_gives : (r : MediaParts) → MediaIn e.volatile e.persistent e.clock e.poison time address n kind r
      → AfterEnding d time (λ (x : Device). MediaDone (media_report (state_of d) time address n kind) x
      (record { code = r.code; stored = r.stored; dropped = r.dropped; device = device_of e.volatile e.persistent e.clock e.policy e.logs r.list e.media }))
  media_report_in_gives r a = after_media ends address n kind (media_parts_done e ends.valid a)
