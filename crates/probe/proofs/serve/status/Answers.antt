-- `probe::serve::status` meets its contract. Assumes nothing.
use mathlib.Core.Path.{refl}
use Rattle.protocol.proofs.Laws.{puts_line_as}
use Rattle.probe.specs.Calls.{serve_status}
use Rattle.probe.proofs.serve.status.Goals as goal

pub returns : goal.returns
unfolding serve_status
returns c =
    record { line = puts_line_as c.put_numbers-end.ensures (cc); next = refl; valid = c.requires.0 }
