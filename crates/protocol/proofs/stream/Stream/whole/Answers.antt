-- `protocol::stream::Stream::whole` meets its contract. Assumes nothing.
use native.Mathlib.Omega.{arith}
use Rattle.protocol.proofs.RecordLaws.{finds_cut, finds_there}
use Rattle.protocol.proofs.stream.Stream.whole.Goals as goal

pub returns-then-here-n : goal.returns-then-here-n
returns-then-here-n c =
    let w = c.want-here in
    finds_cut c.args.n w.ensures (omega (arith, w.auto, c.requires.2)) c.if-here-n.true

pub returns : goal.returns
returns c =
    let w = c.want-here in
    finds_there c.args.n w.ensures (omega (arith, w.auto, c.requires.2)) c.if-here-n.false
