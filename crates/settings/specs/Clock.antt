-- The clock (document 01, "Clock") and its two commands. Assumes nothing.
use Rattle.std.specs.Prelude.{ℕ, ◌+◌, ◌-◌, ◌^◌, min, true, false, cond, List}
use Rattle.wire.specs.Wire.{le, field}
use Rattle.settings.specs.declared.clock.Clock.{Clock}
use Rattle.settings.specs.Reply.{Reply, replied}

-- a clock that was never set
abbrev pub unset : Clock
unset = record { set = false; value = 0; since = 0 }

-- "Before Set Timestamp the device time is 0. Afterwards it is the value set plus the time elapsed since; elapsed is 0 if the caller's clock is behind
-- the setting (house), and a sum above 2^64-1 is 2^64-1 (house)." (`◌-◌` is 0 where its second number is the larger.)
unfoldable pub device_time : Clock → ℕ → ℕ
device_time c time = cond c.set (min (c.value + (time - c.since)) (2 ^ 64 - 1)) 0

-- 0300h: "Get Timestamp replies those 8 bytes."
unfoldable pub get_timestamp : Clock → ℕ → Reply
get_timestamp c time = replied (le 8 (device_time c time))

-- 0301h: the clock set to the payload's 8 bytes at the caller's time
unfoldable pub set_timestamp : List ℕ → ℕ → Clock
set_timestamp p time = record { set = true; value = field p 0 8; since = time }
