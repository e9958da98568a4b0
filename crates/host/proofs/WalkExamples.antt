-- The walk worked out by computation (document 02, W-202). Assumes nothing.
use mathlib.Core.Path.{◌≡◌, refl}
use mathlib.Core.List.{List, [], ◌∷◌}
use Rattle.poison.specs.Runs.{run}
use Rattle.poison.specs.State.{Entry, entry}
use Rattle.poison.specs.Range.{sharing, kept}
use Rattle.host.specs.Walk.{halves, walked, walk}

-- lines 1 to 3 of type 1, line 5 of type 2, and line 6 of type 3
three : List Entry
three = entry 1 (run 1 3) ∷ entry 2 (run 5 1) ∷ entry 3 (run 6 1) ∷ []

-- replies of one record: 7 lines are asked for as 3 and 4, the odd line in the second half, and the first entry is cut
by_one : walk 1 three 0 7 ≡ entry 1 (run 1 2) ∷ entry 1 (run 3 1) ∷ entry 2 (run 5 1) ∷ entry 3 (run 6 1) ∷ []
unfolding three walk walked halves sharing kept
by_one = refl

-- replies of three records: the range is not halved
by_three : walk 3 three 0 7 ≡ three
unfolding three walk walked halves sharing kept
by_three = refl

-- all lines of the largest device: the lowest halves come down to lines 0 to 6 after 29 halvings, and the rest of the device has no entry
by_one_of_all : walk 1 three 0 4290772992 ≡ walk 1 three 0 7
unfolding three walk walked halves sharing kept
by_one_of_all = refl
