-- `host::walk::ask` meets its contract. Assumes nothing.
use Rattle.std.proofs.Common.{refl, arith}
use Rattle.host.proofs.WalkReplies.{request_built}
use Rattle.host.proofs.WalkCalls.{asked, asked_code}
use Rattle.host.proofs.walk.ask.Goals as goal

pub returns : goal.returns
returns c =
    let told = asked c.args.device c.args.address c.args.lines (request_built c.args.address c.args.lines refl c.get_poison_list.ensures) refl
    c.command-answer.ensures.0.done in
    record { answer = told; code = λ room. asked_code c.args.device c.args.address c.args.lines (omega arith) (omega arith) room told }
