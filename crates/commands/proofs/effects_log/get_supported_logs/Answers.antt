-- `commands::effects_log::get_supported_logs` meets its contract. Assumes nothing.
use Rattle.commands.specs.EffectsLog.{get_supported_logs}
use Rattle.settings.proofs.Laws.{bytes_written}
use Rattle.commands.proofs.EffectsLaws.{supported_written, supported_length}
use mathlib.Core.Path.{refl, ◌∙◌}
use borrow.Author.Rules.{rules}
use Rattle.commands.proofs.effects_log.get_supported_logs.Goals as goal

pub returns : goal.returns
unfolding get_supported_logs
returns c =
    bytes_written refl (supported_length _) ((cc) ∙ supported_written _ c.effects_size-size.result _ c.effects_size-size.ensures (search rules))
