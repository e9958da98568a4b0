-- `list_commands::poison_commands::put_header` meets its contract. Assumes nothing.
use Rattle.list_commands.proofs.Headers.{header_written}
use mathlib.Core.Path.{◌∙◌}
use borrow.Author.Rules.{rules}
use Rattle.list_commands.proofs.poison_commands.put_header.Goals as goal

pub returns : goal.returns
returns c =
    (cc) ∙ header_written _ _ _ _ _ (search rules)
