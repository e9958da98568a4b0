-- `bench::serve::media` meets its contract: the call, then its line. Assumes nothing.
use Rattle.bench.proofs.CallLaws.{media_served}
use Rattle.bench.proofs.serve.media.Goals as goal

pub returns : goal.returns
returns c =
    media_served c.args.bytes.now c.media-answer.ensures c.put_told-used.ensures
