-- Whether media is disabled, since when and for how long, and the command that disables it: Sanitize (document 02, W-207). Assumes nothing.
use Rattle.std.specs.Prelude.{ℕ, ◌+◌, ◌*◌, Bool, true, false, cond, ◌&&◌, List, [], ◌∷◌, leb}
use Rattle.settings.specs.declared.media.MediaState.{MediaState}

-- media is enabled
abbrev pub enabled : MediaState
enabled = record { disabled = false; since = 0; lasts = 0 }

-- a row of the table: up to how many units, how many seconds
pub record Row : Type 0 where
  pub units : ℕ
  pub seconds : ℕ

abbrev pub row : ℕ → ℕ → Row
row units seconds = record { units = units; seconds = seconds }

-- "4 seconds up to 512 MiB, 8 to 1 GiB, 15 to 2, 30 to 4, 60 to 8, 120 to 16, 240 to 32, 480 to 64, 900 to 128, 1,800 to 256 GiB": a unit is 256 MiB, a GiB four units
unfoldable pub rows : List Row
rows = row 2 4 ∷ row 4 8 ∷ row 8 15 ∷ row 16 30 ∷ row 32 60 ∷ row 64 120 ∷ row 128 240 ∷ row 256 480 ∷ row 512 900 ∷ row 1024 1800 ∷ []

-- the seconds of the first row that so many units are up to
abbrev pub seconds_in : List Row → ℕ → ℕ
seconds_in [] units = 0
seconds_in (r ∷ rs) units = cond (leb units r.units) r.seconds (seconds_in rs units)

-- how long a Sanitize takes on a device of so many units, in nanoseconds
unfoldable pub duration : ℕ → ℕ
unfolding rows
duration units = seconds_in rows units * 1000000000

-- 4400h: "The device now records whether media is disabled, since when and for how long", on a device of so many units at the caller's time
unfoldable pub sanitize : ℕ → ℕ → MediaState
sanitize units time = record { disabled = true; since = time; lasts = duration units }

-- "whose time is at least that far past the beginning": the sum is of whole numbers, so that one past 2^64-1 is never reached
unfoldable pub due : MediaState → ℕ → Bool
due m time = m.disabled && leb (m.since + m.lasts) time
