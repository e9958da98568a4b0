-- `bench::serve::command` meets its contract: what is printed of the reply buffer is the reply. Assumes nothing.
use native.Mathlib.Omega.{arith}
use lib.ListN.{length-take}
use Rattle.protocol.proofs.Laws.{reply_fits}
use Rattle.bench.proofs.CallLaws.{command_served}
use Rattle.bench.proofs.serve.command.Goals as goal

pub slice_bounds-put_command-end : goal.slice_bounds-put_command-end
slice_bounds-put_command-end c =
    let call = c.call_command-answer in
    reply_fits call.ensures.0.done call.auto.reply

pub slice_bounds-put_command-end-2 : goal.slice_bounds-put_command-end-2
slice_bounds-put_command-end-2 c =
    let call = c.call_command-answer in
    let fits = reply_fits call.ensures.0.done call.auto.reply in
    simp length-take (omega (arith, fits))

pub put_command-used-requires : goal.put_command-used-requires
put_command-used-requires c =
    let call = c.call_command-answer in
    let fits = reply_fits call.ensures.0.done call.auto.reply in
    (c.requires.3, simp length-take (omega (arith, fits, call.auto.reply, c.requires.2)))

pub returns : goal.returns
returns c =
    let call = c.call_command-answer in
    command_served c.args.bytes.now c.args.area.now call.ensures.0 call.ensures.1 c.put_command-used.ensures
