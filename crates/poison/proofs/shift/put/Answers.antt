-- `poison::shift::put` meets its contract (Moves). Assumes nothing.
use native.Mathlib.Omega.{arith}
use Rattle.poison.proofs.Moves.{put_moved}
use Rattle.poison.proofs.shift.put.Goals as goal

pub returns : goal.returns
returns g c =
    put_moved c.args.slots.now c.args.at c.args.n c.args.v c.copy_within.ensures.after c.requires.0 c.requires.1 (omega arith) (omega arith) (omega arith) (omega arith)
