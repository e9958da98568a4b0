-- `protocol::stream::Stream::want` meets its contract: the bytes left are moved to the front and kept by the reads. Assumes nothing.
use mathlib.Core.Path.{refl}
use native.Mathlib.Omega.{arith}
use borrow.Author.Tests.{lt-ltb}
use mathlib.Core.Path.{◌∙◌}
use Rattle.protocol.proofs.StreamLaws.{continues_here, continues_front}
use Rattle.protocol.proofs.stream.Stream.want.Goals as goal

pub returns-then-n-left : goal.returns-then-n-left
returns-then-n-left c =
    record {
      same = continues_here c.args.self _ c.requires.0 c.requires.2;
      short = λ less. absurd (omega (arith, less, c.if-n-left.true));
      idle = λ _. (refl, refl);
    }

pub returns : goal.returns
returns c =
    let moved = c.move_down in
    let got = c.read_until-filled in
    let reads = got.ensures.reads in
    record {
      same =
          continues_front c.args.self got.result.end _ got.result.ended _ _ _ c.requires.0 c.flush-unwritten.ensures reads.more
          (omega (arith, reads.fits, moved.auto.input, c.requires.2)) moved.ensures reads.kept;
      short = λ less. got.ensures.ended ∙ lt-ltb got.result.end c.args.n (omega (arith, less));
      idle = λ there. absurd (omega (arith, there, c.if-n-left.false));
    }
