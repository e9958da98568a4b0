-- What the functions of this crate ensure: records of equations between their answers and the definitions, one field for each part of an answer.
-- Assumes nothing.
use Rattle.std.specs.Prelude.{◌≡◌}
use Rattle.settings.specs.declared.policy.PolicySet.{PolicySet}
use Rattle.settings.specs.Policy.{PolicyChange}
-- a command that reads, with the reply buffer before and after it: "On Success of length n the first n reply bytes are written, the others stay."
pub use Rattle.wire.specs.Done.{Writes as Replied}

-- Set Event Interrupt Policy: its number, and the settings that follow
pub record PolicyDone (o : PolicyChange) (r : PolicySet) : Type 0 where
  pub code : r.code ≡ o.code
  pub policy : r.policy ≡ o.policy
