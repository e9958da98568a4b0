-- W-206 (document 02): commands that are lent one label area in turn, for "nobody writes the area between"; and examples by number, one table of what the definitions give and what the document says,
-- on a device of one unit. Assumes nothing.
use Rattle.std.specs.Prelude.{ℕ, ◌≡◌, List, [], ◌∷◌, ◌++◌, map, length, take, drop, replicate}
use Rattle.wire.specs.Returns.{success}
use Rattle.wire.specs.Wire.{le, field, part}
use Rattle.labels.specs.Labels.{label_size, zero_area}
use Rattle.mailbox.specs.Mailbox.{outcome, area_after}
use Rattle.commands.specs.EffectsLog.{effects_log_id}
use Rattle.history.specs.Cases.{new_unit, Case, case}

-- ---- "nobody writes the area between": commands come one after the other, each lent the area as the last one left it, and none of them is a Set LSA that was answered Success. From the area before
-- them to the area after
pub data Untouched (area : List ℕ) : List ℕ → Type 0 where
  none : (left : List ℕ) → left ≡ area → Untouched area left
  more : (lent left : List ℕ) → Untouched area lent → (opcode : ℕ) (payload : List ℕ) (code : ℕ) → (opcode ≡ 0x4103 → code ≡ success → ⊥) → left ≡ area_after opcode payload code lent
      → Untouched area left

-- ---- the payloads
-- Get LSA: "(offset 4, length 4)"
abbrev pub get : (offset n : ℕ) → List ℕ
get offset n = le 4 offset ++ le 4 n

-- Set LSA: "(offset 4, four reserved, data)"
abbrev pub set : (offset : ℕ) → List ℕ → List ℕ
set offset bytes = le 4 offset ++ le 4 0 ++ bytes

-- no data, at offset 0, with these reserved bytes
abbrev pub reserved : List ℕ → List ℕ
reserved bytes = le 4 0 ++ bytes

-- ---- what is asked
-- the numbers of the two commands, at an area of 4,096 zeros
abbrev pub get_number : List ℕ → ℕ
get_number p = (outcome new_unit 0x4102 p 0 zero_area 2048).code

abbrev pub set_number : List ℕ → ℕ
set_number p = (outcome new_unit 0x4103 p 0 zero_area 2048).code

-- the area that a Set leaves of one, and the reply of a Get from one
abbrev pub written : List ℕ → List ℕ → List ℕ
written area p = area_after 0x4103 p (outcome new_unit 0x4103 p 0 area 2048).code area

abbrev pub read : List ℕ → List ℕ → List ℕ
read area p = (outcome new_unit 0x4102 p 0 area 2048).reply

-- an area of 4,096 zeros after a Set of 1, 2, 3 at offset 16
abbrev pub three_set : List ℕ
three_set = written zero_area (set 16 (1 ∷ 2 ∷ 3 ∷ []))

-- the number of a command that is lent an area of so many zeros and a reply buffer of `room` bytes
abbrev pub lent_number : (size opcode : ℕ) → List ℕ → (room : ℕ) → ℕ
lent_number size opcode p room = (outcome new_unit opcode p 0 (replicate size 0) room).code

-- ---- the table
unfoldable pub label_cases : List Case
label_cases =
    -- a Set of three bytes at offset 16: "writes the data and no other byte of the area", 4,096 bytes as before; a Get of the same range gives them back, one of the bytes around it zeros with them
    case (set_number (set 16 (1 ∷ 2 ∷ 3 ∷ [])) ∷ length three_set ∷ []) (0 ∷ 4096 ∷ [])
    ∷ case (take 20 three_set) (replicate 16 0 ++ (1 ∷ 2 ∷ 3 ∷ 0 ∷ []))
    ∷ case (drop 4090 three_set) (replicate 6 0)
    ∷ case (read three_set (get 16 3)) (1 ∷ 2 ∷ 3 ∷ [])
    ∷ case (read three_set (get 15 5)) (0 ∷ 1 ∷ 2 ∷ 3 ∷ 0 ∷ [])
    -- a second Set over the middle byte; "a Get of a range apart from it gives what it gave just before"
    ∷ case (read (written three_set (set 17 (9 ∷ []))) (get 16 3)) (1 ∷ 9 ∷ 3 ∷ [])
    ∷ case (read (written three_set (set 100 (9 ∷ []))) (get 16 3)) (1 ∷ 2 ∷ 3 ∷ [])
    -- "Get length over 2,048": 2,048 and one more; "end past 4,096": at it and past it, also with length 0
    ∷ case (map get_number (get 0 2048 ∷ get 0 2049 ∷ get 2048 2048 ∷ get 2049 2048 ∷ get 4095 1 ∷ get 4096 1 ∷ get 4096 0 ∷ get 4097 0 ∷ [])) (0 ∷ 2 ∷ 0 ∷ 2 ∷ 0 ∷ 2 ∷ 0 ∷ 2 ∷ [])
    -- the same of Set: a byte at 4,095 and at 4,096; no data at 4,096 and at 4,097
    ∷ case (map set_number (set 4095 (1 ∷ []) ∷ set 4096 (1 ∷ []) ∷ set 4096 [] ∷ set 4097 [] ∷ [])) (0 ∷ 2 ∷ 0 ∷ 2 ∷ [])
    -- "Sums are of whole numbers" (document 01): sums that 32 bits, or 16, would take for small ones
    ∷ case (map get_number (get 0xffffffff 1 ∷ get 0xfffff800 2048 ∷ get 0xffff 1 ∷ [])) (2 ∷ 2 ∷ 2 ∷ [])
    ∷ case (map set_number (set 0xffffffff (1 ∷ []) ∷ set 0xffffffff [] ∷ set 0xffff (1 ∷ []) ∷ [])) (2 ∷ 2 ∷ 2 ∷ [])
    -- "reserved bytes of Set not zero": each of the four, by its lowest and by its highest bit
    ∷ case (map set_number (reserved (1 ∷ 0 ∷ 0 ∷ 0 ∷ []) ∷ reserved (0 ∷ 1 ∷ 0 ∷ 0 ∷ []) ∷ reserved (0 ∷ 0 ∷ 1 ∷ 0 ∷ []) ∷ reserved (0 ∷ 0 ∷ 0 ∷ 1 ∷ []) ∷ [])) (replicate 4 2)
    ∷ case (map set_number (reserved (0x80 ∷ 0 ∷ 0 ∷ 0 ∷ []) ∷ reserved (0 ∷ 0x80 ∷ 0 ∷ 0 ∷ []) ∷ reserved (0 ∷ 0 ∷ 0x80 ∷ 0 ∷ []) ∷ reserved (0 ∷ 0 ∷ 0 ∷ 0x80 ∷ []) ∷ [])) (replicate 4 2)
    -- "Get payload not 8 or Set payload under 8, 0016h"
    ∷ case (map get_number (replicate 7 0 ∷ replicate 8 0 ∷ replicate 9 0 ∷ [])) (0x16 ∷ 0 ∷ 0x16 ∷ [])
    ∷ case (map set_number (replicate 7 1 ∷ replicate 8 0 ∷ replicate 9 0 ∷ [])) (0x16 ∷ 0 ∷ 0 ∷ [])
    -- a refused Set leaves the area
    ∷ case (part 14 6 (written three_set (set 4095 (7 ∷ 7 ∷ [])))) (0 ∷ 0 ∷ 1 ∷ 2 ∷ 3 ∷ 0 ∷ [])
    -- "area not 4,096 bytes, 0100h with the first check": before an opcode that there is not, a payload over 2,048 bytes and a wrong length; of a command that does not see it; with the reply buffer
    ∷ case
    (lent_number 4095 0x7777 [] 2048 ∷ lent_number 4097 0x4102 (replicate 2049 0) 2048 ∷ lent_number 0 0x4102 [] 2048 ∷ lent_number 4095 0x0300 [] 2048 ∷ lent_number 4097 0x0300 [] 2047 ∷ lent_number 4096 0x0300 [] 2047 ∷ [])
    (replicate 6 0x100)
    -- "Both join the effects log, 4103h with effect 6": 60 bytes with Sanitize (W-207), of which bytes 36 to 43 are theirs; a byte past the end is refused
    ∷ case ((outcome new_unit 0x0401 (effects_log_id ++ le 4 0 ++ le 4 60) 0 zero_area 2048).code ∷ (outcome new_unit 0x0401 (effects_log_id ++ le 4 0 ++ le 4 61) 0 zero_area 2048).code ∷ []) (0 ∷ 2 ∷ [])
    ∷ case (outcome new_unit 0x0401 (effects_log_id ++ le 4 36 ++ le 4 8) 0 zero_area 2048).reply (2 ∷ 0x41 ∷ 0 ∷ 0 ∷ 3 ∷ 0x41 ∷ 6 ∷ 0 ∷ [])
    ∷ case (field (outcome new_unit 0x0400 [] 0 zero_area 2048).reply 24 4 ∷ []) (60 ∷ [])
    -- "Identify's label size becomes 4,096"
    ∷ case (field (outcome new_unit 0x4000 [] 0 zero_area 2048).reply 56 4 ∷ []) (label_size ∷ [])
    ∷ []
