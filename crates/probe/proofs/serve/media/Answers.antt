-- `probe::serve::media` meets its contract. Assumes nothing.
use Rattle.protocol.proofs.Laws.{puts_line_as}
use Rattle.probe.specs.Calls.{serve_media}
use Rattle.probe.proofs.serve.media.Goals as goal

pub returns : goal.returns
unfolding serve_media
returns c =
    let told = c.media-answer.ensures.done in
    record { line = puts_line_as c.put_numbers-end.ensures (cc); next = told.next; valid = told.valid }
