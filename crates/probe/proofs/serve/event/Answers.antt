-- `probe::serve::event` meets its contract. Assumes nothing.
use Rattle.protocol.proofs.Laws.{puts_line_as}
use Rattle.probe.specs.Calls.{serve_event}
use Rattle.probe.proofs.serve.event.Goals as goal

pub returns : goal.returns
unfolding serve_event
returns c =
    let told = c.call_event-answer.ensures.done in
    record { line = puts_line_as c.put_numbers-end.ensures (cc told.vector.number); next = told.next; valid = told.valid }
