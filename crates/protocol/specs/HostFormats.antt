-- The records of `probe` that call the host library (document 10, "Records that a request brings", W-202): what their sizes depend on. A field stands after the two
-- bytes of the mark. Assumes nothing.
use Rattle.std.specs.Prelude.{ℕ, ◌+◌, ◌*◌, ◌≤◌, ◌≡◌, Bool, true, ◌&&◌, cond, List, eqb, leb, ltb, length, get_or}
use Rattle.wire.specs.Wire.{field}

-- "room, payload length and record length at most 4,096 each"; "every room but `WK`'s .. reply length at most 4,096"
abbrev pub within : ℕ → Bool
within n = leb n 4096

-- the opcode of `RQ`, `RP` and `RW`
abbrev pub opcode_of : List ℕ → ℕ
opcode_of r = field r 2 2

-- the bytes of `RQ` before its size is known: opcode 2, room 2, fill 1, and then "0100h log 1. 0101h log 1, flags 1, n 2, .. 0102h, 0300h, 0400h, 4000h none. 0103h n 1 ..
-- 0301h value 8. 0401h identifier 16, offset 4, length 4. 4300h address 8, lines 8. 4301h address 8. 4302h address 8, data 64". 0 for any other opcode:
-- "`RQ`, `RP` and `RW` know the twelve opcodes of document 01, whatever has landed"
unfoldable pub request_head : ℕ → ℕ
request_head op =
    cond (eqb op 0x0100) 8
    (cond (eqb op 0x0101) 11
    (cond (eqb op 0x0102) 7
    (cond (eqb op 0x0103) 8
    (cond (eqb op 0x0300) 7
    (cond (eqb op 0x0301) 15
    (cond (eqb op 0x0400) 7
    (cond (eqb op 0x0401) 31
    (cond (eqb op 0x4000) 7
    (cond (eqb op 0x4300) 23
    (cond (eqb op 0x4301) 15
    (cond (eqb op 0x4302) 79 0)))))))))))

-- whether an opcode is one of the twelve
abbrev pub knows : ℕ → Bool
knows op = ltb 0 (request_head op)

-- of `RQ`: "n handles of 2 (n at most 1,000 ..)", "0103h n 1 (4 or 5, else `BAD`), n bytes"
unfoldable pub request_within : List ℕ → Bool
request_within h =
    cond (eqb (opcode_of h) 0x0101) (leb (field h 9 2) 1000)
    (cond (eqb (opcode_of h) 0x0103) (leb 4 (get_or h 7 0) && leb (get_or h 7 0) 5) true)

unfoldable pub request_rest : List ℕ → ℕ
request_rest h =
    cond (eqb (opcode_of h) 0x0101) (2 * field h 9 2)
    (cond (eqb (opcode_of h) 0x0103) (get_or h 7 0) 0)

-- what a whole `RQ` record has: its room within the limit, the fields of its opcode, and as many handles as it says
pub record RequestRead (r : List ℕ) : Type 0 where
  pub room : field r 4 2 ≤ 4096
  pub fields : request_head (opcode_of r) ≤ length r
  pub handles : opcode_of r ≡ 0x0101 → (field r 9 2 ≤ 1000) × (11 + 2 * field r 9 2 ≤ length r)
