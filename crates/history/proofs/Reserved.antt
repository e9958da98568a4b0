-- The examples of W-205 (document 02) hold of the definitions: one statement over the table of `specs/Reserved.antt`, by computation. Assumes nothing.
use mathlib.Core.Path.{◌≡◌, refl}
use mathlib.Core.List.{map}
use Rattle.history.specs.Cases.{given_of, stated_of}
use Rattle.history.specs.Reserved.{reserved_cases}
use Rattle.history.proofs.Computing.{rules}

-- every row of the table: what the definitions give is what the document says
pub reserved_cases_hold : map given_of reserved_cases ≡ map stated_of reserved_cases
unfolding reserved_cases rules
reserved_cases_hold = refl
