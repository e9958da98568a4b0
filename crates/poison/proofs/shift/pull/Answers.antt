-- `poison::shift::pull` meets its contract (Moves). Assumes nothing.
use Rattle.poison.proofs.Moves.{pull_moved}
use Rattle.poison.proofs.shift.pull.Goals as goal

pub returns : goal.returns
returns g c =
    rw c.copy_within.ensures.after (pull_moved _ _ _ c.requires.0)
