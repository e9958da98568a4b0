-- Laws of media (document 02, W-207): the ten rows of the table of a Sanitize's seconds and their edges, computed; and a time before the beginning. Assumes nothing.
use mathlib.Core.Path.{◌≡◌, refl}
use mathlib.Core.Bool.{true, false}
use mathlib.Core.List.{List, [], ◌∷◌}
use Prim.Native.Nat.{ℕ, ◌+◌, ◌*◌, ◌<◌}
use native.Mathlib.Omega.{arith}
use borrow.Author.Tests.{lt-leb}
use Rattle.settings.specs.Media.{rows, duration, due}
use Rattle.settings.specs.declared.media.MediaState.{MediaState}

-- every row at its edges, the fewest and the most units of each, in nanoseconds
abbrev durations : List ℕ → List ℕ
durations [] = []
durations (n ∷ ns) = duration n ∷ durations ns

abbrev nanoseconds : List ℕ → List ℕ
nanoseconds [] = []
nanoseconds (n ∷ ns) = n * 1000000000 ∷ n * 1000000000 ∷ nanoseconds ns

pub rows_are : durations (1 ∷ 2 ∷ 3 ∷ 4 ∷ 5 ∷ 8 ∷ 9 ∷ 16 ∷ 17 ∷ 32 ∷ 33 ∷ 64 ∷ 65 ∷ 128 ∷ 129 ∷ 256 ∷ 257 ∷ 512 ∷ 513 ∷ 1023 ∷ [])
    ≡ nanoseconds (4 ∷ 8 ∷ 15 ∷ 30 ∷ 60 ∷ 120 ∷ 240 ∷ 480 ∷ 900 ∷ 1800 ∷ [])
unfolding duration rows
rows_are = refl

-- "a time before the beginning is not past it"
pub before_not_due : (m : MediaState) (time : ℕ) → m.disabled ≡ true → time < m.since → false ≡ due m time
unfolding due
before_not_due m time e h = simp (e, lt-leb (m.since + m.lasts) time (omega arith))
