-- The two commands of the label area by computation (document 02, W-206): each row is a number given and the number that the document says. Assumes nothing.
use mathlib.Core.Path.{◌≡◌, refl}
use mathlib.Core.List.{[], ◌∷◌, ◌++◌}
use Rattle.wire.specs.Wire.{le, number, part, field, splice}
use Rattle.wire.specs.Done.{written}
use Rattle.labels.specs.Labels.{get_labels, set_code, set_labels}

-- a Get of two bytes from offset 1 on, before and after a Set of them
got : get_labels 2048 (le 4 1 ++ le 4 2) (10 ∷ 11 ∷ 12 ∷ 13 ∷ 14 ∷ []) ≡ written (11 ∷ 12 ∷ [])
unfolding get_labels le number part field
got = refl

set : set_labels (le 4 1 ++ le 4 0 ++ 7 ∷ 8 ∷ []) (10 ∷ 11 ∷ 12 ∷ 13 ∷ 14 ∷ []) ≡ 10 ∷ 7 ∷ 8 ∷ 13 ∷ 14 ∷ []
unfolding set_labels le number part field splice
set = refl

-- the number of a Get of so many bytes from an offset on: a length of 2,048 and one more; an end at 4,096 and past it; sums that 32 bits would take for small ones
get_numbers :
    (get_labels 2048 (le 4 0 ++ le 4 2048) []).code
    ∷ (get_labels 2048 (le 4 0 ++ le 4 2049) []).code
    ∷ (get_labels 2048 (le 4 2048 ++ le 4 2048) []).code
    ∷ (get_labels 2048 (le 4 2049 ++ le 4 2048) []).code
    ∷ (get_labels 2048 (le 4 4096 ++ le 4 0) []).code
    ∷ (get_labels 2048 (le 4 4097 ++ le 4 0) []).code
    ∷ (get_labels 2048 (le 4 0xffffffff ++ le 4 1) []).code
    ∷ (get_labels 2048 (le 4 0xffffffff ++ le 4 0xffffffff) []).code
    ∷ []
    ≡ 0 ∷ 2 ∷ 0 ∷ 2 ∷ 0 ∷ 2 ∷ 2 ∷ 2 ∷ []
unfolding get_labels le number part field
get_numbers = refl

-- the number of a Set: no data at offset 4,096 and past it; one byte and two at the area's last; sums that 32 bits would take for small ones; each reserved byte
set_numbers :
    set_code (le 4 4096 ++ le 4 0)
    ∷ set_code (le 4 4097 ++ le 4 0)
    ∷ set_code (le 4 4095 ++ le 4 0 ++ 1 ∷ [])
    ∷ set_code (le 4 4095 ++ le 4 0 ++ 1 ∷ 2 ∷ [])
    ∷ set_code (le 4 0xffffffff ++ le 4 0 ++ 1 ∷ [])
    ∷ set_code (le 4 0 ++ 1 ∷ 0 ∷ 0 ∷ 0 ∷ [])
    ∷ set_code (le 4 0 ++ 0 ∷ 1 ∷ 0 ∷ 0 ∷ [])
    ∷ set_code (le 4 0 ++ 0 ∷ 0 ∷ 1 ∷ 0 ∷ [])
    ∷ set_code (le 4 0 ++ 0 ∷ 0 ∷ 0 ∷ 1 ∷ [])
    ∷ []
    ≡ 0 ∷ 2 ∷ 0 ∷ 2 ∷ 2 ∷ 2 ∷ 2 ∷ 2 ∷ 2 ∷ []
unfolding set_code le number part field
set_numbers = refl
