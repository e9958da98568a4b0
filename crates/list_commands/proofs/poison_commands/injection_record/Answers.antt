-- `list_commands::poison_commands::injection_record` meets its contract. Assumes nothing.
use Rattle.list_commands.specs.PoisonCommands.{injection_record}
use Rattle.list_commands.proofs.poison_commands.injection_record.Goals as goal

pub returns : goal.returns
unfolding injection_record
returns c =
    cc
