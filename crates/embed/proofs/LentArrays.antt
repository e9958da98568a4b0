-- A caller that lends the three arrays of a device's list one by one, and puts together again what is left in them: that the arrays of a valid device meet what is asked of such arrays (`_asks`),
-- and that an answer over them is the device's (`_gives`). The functions of `embed` lend the list whole; these say the same of its arrays. Assumes nothing.
use mathlib.Core.Path.{◌≡◌, sym, ◌∙◌}
use mathlib.Core.Bool.{Bool, true}
use mathlib.Core.List.{List}
use Prim.Native.Nat.{ℕ, ◌+◌, ◌*◌, ◌≤◌, ◌<◌}
use native.Mathlib.Omega.{arith}
use lib.ListN.{length, get_or, set}
use Rattle.poison.specs.State.{capacity, list_of, ValidRuns, ValidSlots, ValidList, total_in}
use Rattle.poison.specs.LineTest.{list_in}
use Rattle.poison.proofs.Laws.{Sized, valid_runs, valid_slots, total_is, valid_more}
use Rattle.events.specs.Log.{ValidLog, blank}
use Rattle.events.specs.declared.log.Log.{Log}
use Rattle.mailbox.specs.declared.device.Device.{Device}
use Rattle.commands.specs.Numbers.{unit_lines, most_units}
use Rattle.mailbox.specs.State.{DeviceState, ValidDevice, state_of}
use Rattle.settings.specs.Vector.{numbered}
use Rattle.mailbox.specs.Ending.{Ends, AfterEnding}
use Rattle.mailbox.specs.Mailbox.{answer}
use Rattle.mailbox.specs.DeviceCalls.{media_report, line_test, damage_total}
use Rattle.mailbox.specs.Relations.{Answered, MediaDone}
use Rattle.mailbox.specs.ByParts.{of_list, of_injection, log_at, log_named, device_of, ListAnswered, InjectAnswered, MediaIn}
use Rattle.mailbox.proofs.Laws.{after_media, numbered_none, command_vector, list_parts_answered, inject_parts_answered, media_parts_done}
use Rattle.labels.specs.Labels.{label_size}
use Rattle.embed.specs.declared.Line.{Line}
use Rattle.embed.specs.Left.{LineTold, seen}

-- what a command of the list answers, and what it leaves beside the arrays
pub record ListLeft : Type 0 where
  pub code : ℕ
  pub length : ℕ
  pub count : ℕ
  pub overflow : Bool
  pub since : ℕ

-- what Inject Poison answers, and what it leaves beside the arrays, and of log 0
pub record InjectLeft : Type 0 where
  pub code : ℕ
  pub vector : ℕ
  pub count : ℕ
  pub log : Log

-- what a media report answers, and what it leaves beside the arrays
pub record MediaLeft : Type 0 where
  pub code : ℕ
  pub stored : ℕ
  pub dropped : ℕ
  pub count : ℕ
  pub overflow : Bool
  pub since : ℕ

-- ---- the line test
-- a device's list is valid on the largest device
any_lines : (d : Device) → ValidDevice d → ValidList capacity d.poison
any_lines d v = valid_more (omega (arith, v.few_units)) v.poison

pub line_in_asks : (d : Device) (address : ℕ) → ValidDevice d → Sized d.poison
    → (d.volatile + d.persistent ≤ most_units) × ValidRuns capacity d.poison.count d.poison.starts d.poison.lengths × (length d.poison.kinds ≡ 256)
line_in_asks d address v long = (v.few_units, valid_runs d.poison long (any_lines d v), long.kinds)

-- the test sees no other part of the device
abbrev seen_of : Device → DeviceState
seen_of d = seen d.volatile d.persistent d.media.disabled (list_in d.poison.count d.poison.starts d.poison.lengths d.poison.kinds d.poison.overflow)

pub line_in_gives : (d : Device) (address : ℕ) → ValidDevice d → (r : Line) → LineTold (line_test (seen_of d) address) r → LineTold (line_test (state_of d) address) r
unfolding line_test
line_in_gives d address v r told = record { code = told.code; answer = told.answer; kind = told.kind }

-- ---- the damage total
pub total_in_asks : (d : Device) → ValidDevice d → d.poison.count ≤ 256
total_in_asks d v = v.poison.few

pub total_in_gives : (d : Device) → ValidDevice d → Sized d.poison → (r : ℕ) → r ≡ total_in d.poison.count d.poison.lengths → r ≡ damage_total (state_of d)
total_in_gives d v long r e = e ∙ total_is d.poison long

-- ---- a command of the second mailbox (document 02, W-208)
module _ (d : Device) (opcode : ℕ) (payload : List ℕ) (time : ℕ) (reply : List ℕ) (v : ValidDevice d) where
  module _ (long : Sized d.poison) (k : ℕ) (named : (k ≡ log_named payload) × (k < 5)) where
    pub pool_command_in_asks : (d.volatile + d.persistent ≤ most_units) × ValidSlots (unit_lines * (d.volatile + d.persistent)) d.poison.count d.poison.starts d.poison.lengths d.poison.kinds
        × ValidLog (get_or d.logs k blank)
    pool_command_in_asks = (v.few_units, valid_slots d.poison long v.poison, v.logs.each k named.1)

-- ---- a command over the list, or over the list and log 0
module _ (d : Device) (opcode : ℕ) (payload : List ℕ) (time : ℕ) (reply : List ℕ) where
  -- what the call through the pointer ensures: an answer, and the buffer after, whatever the area
  abbrev Gives : ℕ → ℕ → ℕ → Device → List ℕ → Type 0
  Gives code vector n next after =
      (area : List ℕ) → length area ≡ label_size
      → Answered (answer (state_of d) opcode payload time area (length reply)) d (record { code = code; length = n; vector = numbered vector; device = next }) reply after

  module _ (v : ValidDevice d × (of_list opcode ≡ true)) where
    pub list_command_in_place_asks : Sized d.poison
        → (1 ≤ d.volatile + d.persistent) × (d.volatile + d.persistent ≤ most_units) × ValidSlots (unit_lines * (d.volatile + d.persistent)) d.poison.count d.poison.starts d.poison.lengths d.poison.kinds × (of_list opcode ≡ true)
    list_command_in_place_asks long = (v.0.some_unit, v.0.few_units, valid_slots d.poison long v.0.poison, v.1)

    pub list_command_in_place_gives : (r : ListLeft) (starts lengths kinds after : List ℕ)
        → ListAnswered d.media.disabled d.volatile d.persistent d.clock d.poison opcode payload time (record { code = r.code; length = r.length; list = list_of starts lengths kinds r.count r.overflow r.since }) reply after
        → Gives r.code 0 r.length (device_of d.volatile d.persistent d.clock d.policy d.logs (list_of starts lengths kinds r.count r.overflow r.since) d.media) after
    list_command_in_place_gives r starts lengths kinds after e area sized = command_vector (sym numbered_none) (list_parts_answered d v.0 area sized e)

  -- Inject Poison: the list's arrays and log 0
  module _ (v : ValidDevice d × (of_injection opcode ≡ true)) where
    module _ (long : Sized d.poison) (k : ℕ) (named : (k ≡ log_at 0) × (k < 5)) where
      pub inject_in_place_asks : (1 ≤ d.volatile + d.persistent) × (d.volatile + d.persistent ≤ most_units) × ValidSlots (unit_lines * (d.volatile + d.persistent)) d.poison.count d.poison.starts d.poison.lengths d.poison.kinds × ValidLog (get_or d.logs k blank)
      inject_in_place_asks = (v.0.some_unit, v.0.few_units, valid_slots d.poison long v.0.poison, v.0.logs.each k named.1)

    module _ (many : length d.logs ≡ 5) (k : ℕ) (named : (k ≡ log_at 0) × (k < 5)) where
      pub inject_in_place_gives : (r : InjectLeft) (starts lengths kinds after : List ℕ)
          → ((overflow : Bool) (since : ℕ) → InjectAnswered d.media.disabled d.volatile d.persistent d.clock d.policy (get_or d.logs k blank) (list_of d.poison.starts d.poison.lengths d.poison.kinds d.poison.count overflow since) payload time (record { code = r.code; vector = r.vector; list = list_of starts lengths kinds r.count overflow since; log = r.log }) reply after)
          → Gives r.code r.vector 0 (device_of d.volatile d.persistent d.clock d.policy (set d.logs k r.log) (list_of starts lengths kinds r.count d.poison.overflow d.poison.overflow_time) d.media) after
      unfolding log_at
      inject_in_place_gives r starts lengths kinds after e =
          let at : (j : ℕ) → j ≡ 0
          → InjectAnswered d.media.disabled d.volatile d.persistent d.clock d.policy (get_or d.logs j blank) d.poison payload time (record { code = r.code; vector = r.vector; list = list_of starts lengths kinds r.count d.poison.overflow d.poison.overflow_time; log = r.log }) reply after
          → Gives r.code r.vector 0 (device_of d.volatile d.persistent d.clock d.policy (set d.logs j r.log) (list_of starts lengths kinds r.count d.poison.overflow d.poison.overflow_time) d.media) after
          = λ j z. rw z (λ a area sized. inject_parts_answered d v.0 opcode area sized many v.1 a) in
          at k named.0 (e d.poison.overflow d.poison.overflow_time)

-- ---- the media report, on the device e that it finds
module _ (d : Device) (time address n kind : ℕ) (v : ValidDevice d) (e : Device) (ends : Ends d time e) where
  pub media_report_in_place_asks : Sized e.poison → (1 ≤ e.volatile + e.persistent) × (e.volatile + e.persistent ≤ most_units) × ValidSlots (unit_lines * (e.volatile + e.persistent)) e.poison.count e.poison.starts e.poison.lengths e.poison.kinds
  media_report_in_place_asks long = (ends.valid.some_unit, ends.valid.few_units, valid_slots e.poison long ends.valid.poison)

  pub media_report_in_place_gives : (r : MediaLeft) (starts lengths kinds : List ℕ)
      → MediaIn e.volatile e.persistent e.clock e.poison time address n kind (record { code = r.code; stored = r.stored; dropped = r.dropped; list = list_of starts lengths kinds r.count r.overflow r.since })
      → AfterEnding d time (λ (x : Device). MediaDone (media_report (state_of d) time address n kind) x
      (record { code = r.code; stored = r.stored; dropped = r.dropped; device = device_of e.volatile e.persistent e.clock e.policy e.logs (list_of starts lengths kinds r.count r.overflow r.since) e.media }))
  media_report_in_place_gives r starts lengths kinds a = after_media ends address n kind (media_parts_done e ends.valid a)
