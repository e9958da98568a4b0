-- `list_commands::poison_commands::check_range` meets its contract. Assumes nothing.
use Rattle.list_commands.proofs.Addresses.{range_checks}
use mathlib.Core.Path.{◌∙◌}
use Rattle.list_commands.proofs.poison_commands.check_range.Goals as goal

pub returns : goal.returns
returns c =
    c.first_refusal.ensures ∙ range_checks _ _ _ _ _ c.check_aligned-aligned.ensures c.check_end-inside.ensures
