-- `commands::identity::identify` meets its contract. Assumes nothing.
use Rattle.commands.specs.Identity.{identify}
use Rattle.settings.proofs.Laws.{bytes_written}
use Rattle.commands.proofs.IdentityLaws.{identity_written, identity_length}
use mathlib.Core.Path.{refl, ◌∙◌}
use borrow.Author.Rules.{rules}
use Rattle.commands.proofs.identity.identify.Goals as goal

pub returns : goal.returns
unfolding identify
returns c =
    bytes_written refl (identity_length _ _) ((cc) ∙ identity_written _ _ _ (search rules))
