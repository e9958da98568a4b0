-- `walk::write` meets its contract where the range is halved: the records of one half, and those of the other after them. Assumes nothing.
use Rattle.host.proofs.Halvings.{wrote_halves}
use Rattle.host.proofs.walk.+write.Goals as goal

pub returns-in-Halved : goal.returns-in-Halved
returns-in-Halved t c = wrote_halves c.in-Halved.ensures c.requires.2 c.write-next.ensures c.write.ensures
