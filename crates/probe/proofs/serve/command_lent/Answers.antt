-- `probe::serve::command_lent` meets its contract: the store is the area that the command left, and behind it what was not lent. Assumes nothing.
use Rattle.probe.specs.Calls.{serve_lent}
use Rattle.probe.proofs.serve.command_lent.Goals as goal

pub returns : goal.returns
unfolding serve_lent
returns c =
    let served = c.command-served.ensures in
    record { line = served.0.line; next = (cc); valid = served.0.valid; inside = c.requires.3 }
