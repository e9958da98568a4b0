-- `list_commands::poison_commands::check_line` meets its contract. Assumes nothing.
use Rattle.list_commands.proofs.Addresses.{line_range}
use mathlib.Core.Path.{◌∙◌}
use Rattle.list_commands.proofs.poison_commands.check_line.Goals as goal

pub returns : goal.returns
returns c =
    c.check_range.ensures ∙ line_range _ _
