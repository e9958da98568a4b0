-- `list_commands::poison_commands::flags` meets its contract. Assumes nothing.
use Rattle.list_commands.proofs.Headers.{flags_of}
use Rattle.list_commands.proofs.poison_commands.flags.Goals as goal

pub returns : goal.returns
returns c =
    let h = c.from.ensures in let k = c.from-2.ensures in
    rw (c.from.ensures, c.from-2.ensures) (flags_of c.args.overflow c.args.n)
