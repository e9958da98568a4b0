-- `probe::serve::make` meets its contract. Assumes nothing.
use Rattle.protocol.proofs.Laws.{puts_line_as}
use Rattle.probe.specs.Calls.{serve_new}
use Rattle.probe.proofs.serve.make.Goals as goal

pub returns : goal.returns
unfolding serve_new
returns c =
    let made = c.make-made.ensures in
    record { line = puts_line_as c.put_numbers-end.ensures (cc); next = made.next; valid = made.valid }
