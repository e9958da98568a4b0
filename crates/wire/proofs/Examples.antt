-- The definitions of `specs/Wire.antt` at written-out bytes. `le` and `field` would also undo each other if both took the highest byte first: these say which it
-- is ("Numbers in payloads, replies and bench records are little-endian", document 01), and what a splice replaces. By computation; assumes nothing.
use mathlib.Core.Path.{◌≡◌, refl}
use mathlib.Core.List.{[], ◌∷◌}
use Rattle.wire.specs.Wire.{le, number, part, field, splice}

pub lowest_written_first : le 4 0x12345678 ≡ 0x78 ∷ 0x56 ∷ 0x34 ∷ 0x12 ∷ []
unfolding le
lowest_written_first = refl

pub lowest_read_first : field (9 ∷ 0x78 ∷ 0x56 ∷ 0x34 ∷ 0x12 ∷ 9 ∷ []) 1 4 ≡ 0x12345678
unfolding field number part
lowest_read_first = refl

pub middle_replaced : splice 1 (7 ∷ 8 ∷ []) (0 ∷ 1 ∷ 2 ∷ 3 ∷ []) ≡ 0 ∷ 7 ∷ 8 ∷ 3 ∷ []
unfolding splice
middle_replaced = refl
