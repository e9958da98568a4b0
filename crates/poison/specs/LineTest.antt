-- Line test (document 01, "Poison list"): "Damaged 1 with the type if covered; else, with type 0, Unknown 2 if the flag is set; else Clean 0."
use Rattle.std.specs.Prelude.{Bool, cond, List, ℕ}
use Rattle.poison.specs.declared.line_test.LineTest.{LineTest}
use Rattle.poison.specs.declared.line_test.LineTest.TheVariants.{Clean, Damaged, Unknown}
use Rattle.poison.specs.State.{PoisonState, covers, kind_at, entries_in}

-- the answer for line k
abbrev pub line_test : PoisonState → ℕ → LineTest
line_test s k = cond (covers s.entries k) (Damaged (kind_at s.entries k)) (cond s.overflow Unknown Clean)

-- the list that arrays hold, as a line test sees it: the answer does not depend on the overflow time
abbrev pub list_in : ℕ → List ℕ → List ℕ → List ℕ → Bool → PoisonState
list_in n starts lengths kinds overflow = record { entries = entries_in n starts lengths kinds; overflow = overflow; overflow_time = 0 }

-- document 01's number for each answer, and the type beside it
abbrev pub answer_number : LineTest → ℕ
answer_number Clean = 0
answer_number (Damaged kind) = 1
answer_number Unknown = 2

abbrev pub answer_type : LineTest → ℕ
answer_type Clean = 0
answer_type (Damaged kind) = kind
answer_type Unknown = 0
