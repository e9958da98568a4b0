-- The end of a Sanitize (document 02, W-207), which comes first in every command, event report and media report. Assumes nothing.
use Rattle.std.specs.Prelude.{ℕ, ◌≡◌, Bool, true, false, List, map}
use Rattle.events.specs.Log.{LogState}
use Rattle.events.specs.Emptied.{emptied, EmptiesAll}
use Rattle.settings.specs.Media.{enabled, due}
use Rattle.settings.specs.declared.media.MediaState.{MediaState}
use Rattle.mailbox.specs.declared.device.Device.{Device}
use Rattle.mailbox.specs.State.{DeviceState, ValidDevice, state_of, with_logs, with_media}

-- the logs, and media, by whether the work is due to end: "all five logs are emptied with their overflow counts and times, next handles go on, and media is enabled"
abbrev pub logs_left : Bool → List LogState → List LogState
logs_left true ls = map emptied ls
logs_left false ls = ls

abbrev pub media_left : Bool → MediaState → MediaState
media_left true m = enabled
media_left false m = m

-- the device that a call at the caller's time finds: "The first later command, event report or media report whose time is at least that far past the beginning first ends the work".
-- Nothing else of the device changes, and nothing where no work is due to end.
abbrev pub found : DeviceState → Bool → DeviceState
found d ends = with_media (with_logs d (logs_left ends d.logs)) (media_left ends d.media)

abbrev pub ended : DeviceState → ℕ → DeviceState
ended d time = found d (due d.media time)

-- a device of the code and the one that such a call finds: the view is `ended`, and the value is the very same where nothing is due
pub record Ends (d : Device) (time : ℕ) (e : Device) : Type 0 where
  pub state : state_of e ≡ ended (state_of d) time
  pub same : due d.media time ≡ false → e ≡ d
  pub valid : ValidDevice e

-- where the work is due to end: all five logs are emptied, media is enabled, and nothing else changes, bytes of the poison list past its entries included
pub record WorkEnded (d e : Device) : Type 0 where
  pub logs : EmptiesAll d.logs e.logs
  pub left : e ≡ record { volatile = d.volatile; persistent = d.persistent; clock = d.clock; policy = d.policy; logs = e.logs; poison = d.poison; media = enabled }

-- what a call that carries a time ensures: of the device that it finds, which is the one that a refusal leaves ("demand 1's \"device as it was\" is the device after it")
pub record AfterEnding (d : Device) (time : ℕ) (Done : Device → Type 0) : Type 0 where
  pub found : Device
  pub ends : Ends d time found
  pub done : Done found
