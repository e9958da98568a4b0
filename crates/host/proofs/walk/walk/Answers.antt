-- `host::walk::walk` meets its contract where the records are written. Assumes nothing.
use Rattle.std.proofs.Common.{sym, ◌∙◌, arith}
use Rattle.host.proofs.WalkCalls.{given}
use Rattle.host.proofs.walk.walk.Goals as goal

pub returns : goal.returns
returns c = given c.args.device _ _ (sym (c.ask-asked.ensures.code (omega arith)) ∙ c.if-asked-ne-SUCCESS.false) (omega arith) c.write-length.ensures
