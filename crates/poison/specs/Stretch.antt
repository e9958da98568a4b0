-- A turn of the code's media report: how far the lines from a line on are all covered, or all uncovered.
use Rattle.std.specs.Prelude.{◌≡◌, Bool, true, false, List, ◌⊎◌, ℕ, ◌≤◌, ◌<◌}
use Rattle.poison.specs.declared.report.Stretch.{Stretch}
use Rattle.poison.specs.declared.report.Stretch.TheVariants.{Covered, Uncovered}
use Rattle.poison.specs.Runs.{Run, in_runs}

-- from line a to line `stop`, which is at most e, all lines are covered or none is; uncovered lines end where the extent does or at a covered line
pub record Stretches (rs : List Run) (a e stop : ℕ) (covered : Bool) : Type 0 where
  pub ahead : a < stop
  pub within : stop ≤ e
  pub same : (k : ℕ) → a ≤ k → k < stop → in_runs rs k ≡ covered
  pub edge : covered ≡ false → (stop ≡ e) ⊎ (in_runs rs stop ≡ true)

-- what the code answers of such lines
abbrev pub StretchFrom : List Run → ℕ → ℕ → Stretch → Type 0
StretchFrom rs a e (Covered stop) = Stretches rs a e stop true
StretchFrom rs a e (Uncovered stop) = Stretches rs a e stop false
