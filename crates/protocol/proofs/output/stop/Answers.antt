-- `protocol::output::stop` meets its contract: nothing at the end of the input, BAD where bytes are left. Assumes nothing.
use native.Mathlib.Omega.{arith}
use Rattle.protocol.proofs.Printing.{stops_quietly, stops}
use Rattle.protocol.proofs.output.stop.Goals as goal

pub returns-then-left-eq0 : goal.returns-then-left-eq0
returns-then-left-eq0 c =
    stops_quietly c.args.left c.args.offset c.args.used _ c.if-left-eq0.true (omega (arith, c.requires))

pub returns : goal.returns
returns c =
    stops c.args.left c.args.offset c.if-left-eq0.false c.put_bad.ensures c.requires
