-- The device as document 01 speaks of it (the view), the view of a device of the code, and what holds of every device made and changed by
-- these calls: document 01's one premise. Assumes nothing.
use Rattle.std.specs.Prelude.{ℕ, ◌+◌, ◌*◌, ◌≤◌, List}
use Rattle.poison.specs.State as P
use Rattle.events.specs.Log as E
use Rattle.settings.specs.declared.clock.Clock.{Clock}
use Rattle.settings.specs.declared.media.MediaState.{MediaState}
use Rattle.mailbox.specs.declared.device.Device.{Device}
use Rattle.commands.specs.Numbers.{unit_lines, most_units}

-- the units of each kind of memory; the clock; the interrupt policy, a byte a log; the five logs; the poison list; media (document 02, W-207)
pub record DeviceState : Type 0 where
  pub volatile : ℕ
  pub persistent : ℕ
  pub clock : Clock
  pub policy : List ℕ
  pub logs : List E.LogState
  pub poison : P.PoisonState
  pub media : MediaState

-- the lines of a device: volatile plus persistent units
abbrev pub lines_of : DeviceState → ℕ
lines_of d = unit_lines * (d.volatile + d.persistent)

-- the device with one part replaced
abbrev pub with_clock : DeviceState → Clock → DeviceState
with_clock d c = record { volatile = d.volatile; persistent = d.persistent; clock = c; policy = d.policy; logs = d.logs; poison = d.poison; media = d.media }

abbrev pub with_policy : DeviceState → List ℕ → DeviceState
with_policy d p = record { volatile = d.volatile; persistent = d.persistent; clock = d.clock; policy = p; logs = d.logs; poison = d.poison; media = d.media }

abbrev pub with_logs : DeviceState → List E.LogState → DeviceState
with_logs d ls = record { volatile = d.volatile; persistent = d.persistent; clock = d.clock; policy = d.policy; logs = ls; poison = d.poison; media = d.media }

abbrev pub with_poison : DeviceState → P.PoisonState → DeviceState
with_poison d l = record { volatile = d.volatile; persistent = d.persistent; clock = d.clock; policy = d.policy; logs = d.logs; poison = l; media = d.media }

abbrev pub with_media : DeviceState → MediaState → DeviceState
with_media d m = record { volatile = d.volatile; persistent = d.persistent; clock = d.clock; policy = d.policy; logs = d.logs; poison = d.poison; media = m }

-- the view of a device of the code
abbrev pub state_of : Device → DeviceState
state_of d =
    record {
      volatile = d.volatile;
      persistent = d.persistent;
      clock = d.clock;
      policy = d.policy;
      logs = E.states_of d.logs;
      poison = P.state_of d.poison;
      media = d.media;
    }

-- a device made here and changed only by these calls: 1 to 1,023 units, five valid logs, a valid poison list on its lines
pub record ValidDevice (d : Device) : Type 0 where
  pub some_unit : 1 ≤ d.volatile + d.persistent
  pub few_units : d.volatile + d.persistent ≤ most_units
  pub logs : E.ValidLogs d.logs
  pub poison : P.ValidList (unit_lines * (d.volatile + d.persistent)) d.poison
