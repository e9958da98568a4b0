-- `probe::serve::command` meets its contract: the call, then what came back in its buffer, and the vector. Assumes nothing.
use Prim.Native.Nat.{◌+◌, ◌≤◌}
use native.Mathlib.Omega.{arith}
use lib.ListN.{length, length-replicate}
use Rattle.protocol.proofs.Laws.{reply_fits, length_column, puts_then, puts_line_as}
use Rattle.host_records.proofs.Laws.{buffer_short}
use Rattle.probe.specs.Calls.{serve_command}
use Rattle.probe.proofs.serve.command.Goals as goal
use Rattle.probe.proofs.serve.command.Goals.{After-put_buffer-columns}

-- where the columns of the buffer end, at the latest
short : (c : After-put_buffer-columns) → c.put_buffer-columns.result + 22 ≤ length c.args.out.now
short c =
    let told = c.call_command-answer in
    let inside = reply_fits told.ensures.0.done (simp length-replicate (omega arith)) in
    omega (arith, buffer_short _ _ _ told.result.length _ _ c.put_buffer-columns.ensures inside)

pub put_buffer-columns-requires : goal.put_buffer-columns-requires
put_buffer-columns-requires c =
    let inside = reply_fits c.call_command-answer.ensures.0.done (simp length-replicate (omega arith)) in
    (inside, omega (arith, inside), c.requires.4)

pub put_number-last-requires : goal.put_number-last-requires
put_number-last-requires c = omega (arith, short (goal.at.put_number-last-requires c).After-put_buffer-columns)

pub end_line-end-requires : goal.end_line-end-requires
end_line-end-requires c = omega (arith, length_column, short (goal.at.end_line-end-requires c).After-put_buffer-columns)

pub returns : goal.returns
unfolding serve_command
returns c =
    let told = c.call_command-answer.ensures in
    let done = told.0.done in
    let ends : c.put_number-last.result + 1 ≤ length c.args.out.now = omega (arith, length_column, short (goal.at.returns c).After-put_buffer-columns) in
    let text = puts_then (puts_then c.put_buffer-columns.ensures c.put_number-last.ensures (omega arith)) c.end_line-end.ensures (omega arith) in
    (record { line = puts_line_as (record { puts = text; room = omega arith }) (cc done.vector.number); next = done.next; valid = done.valid }, (cc))
