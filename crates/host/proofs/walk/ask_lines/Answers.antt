-- `host::walk::ask_lines` meets its contract. Assumes nothing.
use Rattle.std.proofs.Common.{arith}
use Rattle.host.proofs.Halvings.{halved, whole}
use Rattle.host.proofs.WalkCalls.{range_asked}
use Rattle.host.proofs.walk.ask_lines.Goals as goal

pub returns-in-0 : goal.returns-in-0
returns-in-0 c = whole c.requires.0 (range_asked c.requires.0 c.requires.1 c.ask-size.ensures.answer) c.first_half.ensures (omega arith) c.requires.1

pub returns-in_default : goal.returns-in_default
returns-in_default c = halved c.requires.0 (range_asked c.requires.0 c.requires.1 c.ask-size.ensures.answer) c.first_half.ensures (omega arith)
