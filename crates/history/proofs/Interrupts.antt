-- The examples of W-204 (document 02) hold of the definitions: one statement over each table of `specs/Interrupts.antt`, by computation. Assumes nothing.
use mathlib.Core.Path.{◌≡◌, refl}
use mathlib.Core.List.{map}
use lib.ListN.{replicate}
use Rattle.history.specs.Cases.{new_unit, full, given_of, stated_of}
use Rattle.history.specs.Interrupts.{policy_set, enabled_unit, interrupt_cases, injection_cases, other_injection_cases}
use Rattle.history.proofs.Computing.{rules}

-- every row of a table: what the definitions give is what the document says
pub interrupt_cases_hold : map given_of interrupt_cases ≡ map stated_of interrupt_cases
unfolding interrupt_cases rules
interrupt_cases_hold = refl

pub injection_cases_hold : map given_of injection_cases ≡ map stated_of injection_cases
unfolding injection_cases rules
injection_cases_hold = refl

pub other_injection_cases_hold : map given_of other_injection_cases ≡ map stated_of other_injection_cases
unfolding other_injection_cases full rules
other_injection_cases_hold = refl

-- the device that they start from is the one that Set Event Interrupt Policy makes of a new one
pub enabled_reached : policy_set new_unit (replicate 5 1) ≡ enabled_unit
unfolding rules
enabled_reached = refl
