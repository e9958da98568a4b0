-- The definitions of the text and of the records' sizes, tried by computation: numbers in decimal, bytes in hexadecimal, the line BAD; records that are read.
-- Assumes nothing.
use mathlib.Core.Path.{◌≡◌, refl}
use mathlib.Core.Bool.{Bool, true, false}
use mathlib.Core.List.{List, [], ◌∷◌, ◌++◌}
use Prim.Native.Nat.{ℕ}
use lib.ListN.{replicate}
use Rattle.wire.specs.Wire.{field, number, part}
use Rattle.protocol.specs.declared.formats.Format.{Format}
use Rattle.protocol.specs.declared.formats.Format.TheVariants.{Bench, Probe}
use Rattle.protocol.specs.Text.{numeral, decimal, hex, columns, numbers_line, bad_line, last_line}
use Rattle.protocol.specs.Records.{NW, whole, tells, front_size}
use Rattle.protocol.specs.Formats.{bench_fixed, bench_size, probe_least, probe_fixed, probe_head, probe_within, probe_rest, probe_size, fixed, head, size}
use Rattle.protocol.specs.HostFormats.{request_head, request_within, request_rest}

-- 0, 9, 10, 258
numbers : decimal 0 ++ decimal 9 ++ decimal 10 ++ decimal 258 ≡ 48 ∷ 57 ∷ 49 ∷ 48 ∷ 50 ∷ 53 ∷ 56 ∷ []
unfolding numeral
numbers = refl

-- 18446744073709551615, the largest
largest : decimal 18446744073709551615 ≡ 49 ∷ 56 ∷ 52 ∷ 52 ∷ 54 ∷ 55 ∷ 52 ∷ 52 ∷ 48 ∷ 55 ∷ 51 ∷ 55 ∷ 48 ∷ 57 ∷ 53 ∷ 53 ∷ 49 ∷ 54 ∷ 49 ∷ 53 ∷ []
unfolding numeral
largest = refl

-- 009f a0ff
bytes : hex (0 ∷ 159 ∷ 160 ∷ 255 ∷ []) ≡ 48 ∷ 48 ∷ 57 ∷ 102 ∷ 97 ∷ 48 ∷ 102 ∷ 102 ∷ []
unfolding hex
bytes = refl

-- "NW 0 1 10"
columns_line : numbers_line NW (0 ∷ 1 ∷ 10 ∷ []) ≡ 78 ∷ 87 ∷ 32 ∷ 48 ∷ 32 ∷ 49 ∷ 32 ∷ 49 ∷ 48 ∷ 10 ∷ []
unfolding columns numeral
columns_line = refl

-- "BAD 6", and nothing where no byte is left
stopped_line : last_line 1 6 ++ last_line 0 6 ≡ 66 ∷ 65 ∷ 68 ∷ 32 ∷ 54 ∷ 10 ∷ []
unfolding last_line bad_line numeral
stopped_line = refl

-- the size of the record that is read at the front of some bytes, 0 for none
read : Format → Bool → List ℕ → ℕ
read f first = front_size (fixed f first) (head f) (size f)

-- of `bench`: no byte, one byte, NW as first and later, LT as first, later and cut, CM with a payload of one byte, of none left, of one byte cut, and too long
bench_sizes : List ℕ
bench_sizes =
    read Bench true []
    ∷ read Bench false (76 ∷ [])
    ∷ read Bench true (78 ∷ 87 ∷ 1 ∷ 0 ∷ 0 ∷ 0 ∷ 9 ∷ [])
    ∷ read Bench false (78 ∷ 87 ∷ 1 ∷ 0 ∷ 0 ∷ 0 ∷ 9 ∷ [])
    ∷ read Bench true (76 ∷ 84 ∷ replicate 8 0)
    ∷ read Bench false (76 ∷ 84 ∷ replicate 8 0)
    ∷ read Bench false (76 ∷ 84 ∷ replicate 7 0)
    ∷ read Bench false (67 ∷ 77 ∷ replicate 10 0 ++ (1 ∷ 0 ∷ 7 ∷ 7 ∷ []))
    ∷ read Bench false (67 ∷ 77 ∷ replicate 10 0 ++ (1 ∷ 0 ∷ []))
    ∷ read Bench false (67 ∷ 77 ∷ replicate 10 0 ++ (1 ∷ []))
    ∷ read Bench false (67 ∷ 77 ∷ replicate 10 0 ++ (1 ∷ 8 ∷ replicate 2049 0))
    ∷ read Bench false (69 ∷ 86 ∷ replicate 137 0)
    ∷ read Bench false (77 ∷ 68 ∷ replicate 21 0)
    ∷ []

bench_records : bench_sizes ≡ 0 ∷ 0 ∷ 6 ∷ 0 ∷ 0 ∷ 10 ∷ 0 ∷ 15 ∷ 0 ∷ 0 ∷ 0 ∷ 139 ∷ 23 ∷ []
unfolding read bench_sizes front_size tells whole fixed head size bench_fixed bench_size field number part
bench_records = refl

-- of `probe`: NW as first and later, LT as first and later, CM with a room of 4,096 and a payload of one byte, that byte cut, and with a room of 4,097; EV with a
-- record of three bytes, and with one of 4,097; ES, DT, an unknown mark; PC as first, PC with a room of 4,096 and a payload of one byte, with a room of 4,097, and with a payload of 4,097
probe_sizes : List ℕ
probe_sizes =
    read Probe true (78 ∷ 87 ∷ 1 ∷ 0 ∷ 0 ∷ 0 ∷ 9 ∷ [])
    ∷ read Probe false (78 ∷ 87 ∷ 1 ∷ 0 ∷ 0 ∷ 0 ∷ 9 ∷ [])
    ∷ read Probe true (76 ∷ 84 ∷ replicate 8 0)
    ∷ read Probe false (76 ∷ 84 ∷ replicate 8 0)
    ∷ read Probe false (67 ∷ 77 ∷ replicate 10 0 ++ (0 ∷ 16 ∷ 255 ∷ 1 ∷ 0 ∷ 7 ∷ 7 ∷ []))
    ∷ read Probe false (67 ∷ 77 ∷ replicate 10 0 ++ (0 ∷ 16 ∷ 255 ∷ 1 ∷ 0 ∷ []))
    ∷ read Probe false (67 ∷ 77 ∷ replicate 10 0 ++ (1 ∷ 16 ∷ 255 ∷ 1 ∷ 0 ∷ 7 ∷ 7 ∷ []))
    ∷ read Probe false (69 ∷ 86 ∷ replicate 9 0 ++ (3 ∷ 0 ∷ 7 ∷ 7 ∷ 7 ∷ 7 ∷ []))
    ∷ read Probe false (69 ∷ 86 ∷ replicate 9 0 ++ (1 ∷ 16 ∷ replicate 4097 0))
    ∷ read Probe false (69 ∷ 83 ∷ [])
    ∷ read Probe false (68 ∷ 84 ∷ 9 ∷ [])
    ∷ read Probe false (68 ∷ 85 ∷ 9 ∷ [])
    ∷ read Probe true (80 ∷ 67 ∷ replicate 15 0)
    ∷ read Probe false (80 ∷ 67 ∷ replicate 10 0 ++ (0 ∷ 16 ∷ 255 ∷ 1 ∷ 0 ∷ 7 ∷ 7 ∷ []))
    ∷ read Probe false (80 ∷ 67 ∷ replicate 10 0 ++ (1 ∷ 16 ∷ 255 ∷ 1 ∷ 0 ∷ 7 ∷ 7 ∷ []))
    ∷ read Probe false (80 ∷ 67 ∷ replicate 10 0 ++ (0 ∷ 16 ∷ 255 ∷ 1 ∷ 16 ∷ replicate 4097 0))
    ∷ []

probe_records : probe_sizes ≡ 6 ∷ 6 ∷ 0 ∷ 10 ∷ 18 ∷ 0 ∷ 0 ∷ 16 ∷ 0 ∷ 2 ∷ 2 ∷ 0 ∷ 0 ∷ 18 ∷ 0 ∷ 0 ∷ []
unfolding read probe_sizes front_size tells whole fixed head size probe_least probe_fixed probe_head probe_within probe_rest probe_size field number part
probe_records = refl

-- of the host library's records: RQ 0100h with its log, and cut; 0101h with two handles, a handle cut, and 1,001 of them; 0103h with four settings, and with six;
-- 4302h; an opcode that is none of the twelve; a room of 4,097. RP of two bytes, of 4,097, of an unknown opcode; RW of one byte, and with a room of 4,097; WK with a
-- room of 65,536, and of one more
host_sizes : List ℕ
host_sizes =
    read Probe false (82 ∷ 81 ∷ 0 ∷ 1 ∷ 0 ∷ 16 ∷ 9 ∷ 4 ∷ 7 ∷ [])
    ∷ read Probe false (82 ∷ 81 ∷ 0 ∷ 1 ∷ 0 ∷ 16 ∷ 9 ∷ [])
    ∷ read Probe false (82 ∷ 81 ∷ 1 ∷ 1 ∷ 0 ∷ 16 ∷ 9 ∷ 4 ∷ 0 ∷ 2 ∷ 0 ∷ 1 ∷ 0 ∷ 2 ∷ 0 ∷ 7 ∷ [])
    ∷ read Probe false (82 ∷ 81 ∷ 1 ∷ 1 ∷ 0 ∷ 16 ∷ 9 ∷ 4 ∷ 0 ∷ 2 ∷ 0 ∷ 1 ∷ 0 ∷ 2 ∷ [])
    ∷ read Probe false (82 ∷ 81 ∷ 1 ∷ 1 ∷ 0 ∷ 16 ∷ 9 ∷ 4 ∷ 0 ∷ 233 ∷ 3 ∷ replicate 2002 0)
    ∷ read Probe false (82 ∷ 81 ∷ 3 ∷ 1 ∷ 0 ∷ 16 ∷ 9 ∷ 4 ∷ replicate 4 0)
    ∷ read Probe false (82 ∷ 81 ∷ 3 ∷ 1 ∷ 0 ∷ 16 ∷ 9 ∷ 6 ∷ replicate 6 0)
    ∷ read Probe false (82 ∷ 81 ∷ 2 ∷ 67 ∷ 0 ∷ 0 ∷ 9 ∷ replicate 72 0)
    ∷ read Probe false (82 ∷ 81 ∷ 1 ∷ 64 ∷ 0 ∷ 0 ∷ 9 ∷ replicate 72 0)
    ∷ read Probe false (82 ∷ 81 ∷ 0 ∷ 1 ∷ 1 ∷ 16 ∷ 9 ∷ 4 ∷ [])
    ∷ read Probe false (82 ∷ 80 ∷ 0 ∷ 3 ∷ 0 ∷ 0 ∷ 0 ∷ 0 ∷ 2 ∷ 0 ∷ 7 ∷ 7 ∷ [])
    ∷ read Probe false (82 ∷ 80 ∷ 0 ∷ 3 ∷ 0 ∷ 0 ∷ 0 ∷ 0 ∷ 1 ∷ 16 ∷ replicate 4097 0)
    ∷ read Probe false (82 ∷ 80 ∷ 3 ∷ 3 ∷ 0 ∷ 0 ∷ 0 ∷ 0 ∷ 2 ∷ 0 ∷ 7 ∷ 7 ∷ [])
    ∷ read Probe false (82 ∷ 87 ∷ 0 ∷ 3 ∷ 0 ∷ 0 ∷ 0 ∷ 0 ∷ 0 ∷ 16 ∷ 9 ∷ 1 ∷ 0 ∷ 7 ∷ [])
    ∷ read Probe false (82 ∷ 87 ∷ 0 ∷ 3 ∷ 0 ∷ 0 ∷ 0 ∷ 0 ∷ 1 ∷ 16 ∷ 9 ∷ 1 ∷ 0 ∷ 7 ∷ [])
    ∷ read Probe false (87 ∷ 75 ∷ replicate 16 0 ++ (0 ∷ 0 ∷ 1 ∷ 0 ∷ 9 ∷ []))
    ∷ read Probe false (87 ∷ 75 ∷ replicate 16 0 ++ (1 ∷ 0 ∷ 1 ∷ 0 ∷ 9 ∷ []))
    ∷ []

host_records : host_sizes ≡ 8 ∷ 0 ∷ 15 ∷ 0 ∷ 0 ∷ 12 ∷ 0 ∷ 79 ∷ 0 ∷ 0 ∷ 12 ∷ 0 ∷ 0 ∷ 14 ∷ 0 ∷ 23 ∷ 0 ∷ []
unfolding read host_sizes front_size tells whole fixed head size probe_least probe_fixed probe_head probe_within probe_rest probe_size request_head request_within request_rest field number part
host_records = refl

-- of the label store's records: AR of 8,192 bytes, of one more, and cut; AB that ends at 8,192, one past it, and of 65,535 and 65,535
label_sizes : List ℕ
label_sizes =
    read Probe false (65 ∷ 82 ∷ 0 ∷ 32 ∷ 0 ∷ 0 ∷ 9 ∷ [])
    ∷ read Probe false (65 ∷ 82 ∷ 1 ∷ 32 ∷ 0 ∷ 0 ∷ 9 ∷ [])
    ∷ read Probe false (65 ∷ 82 ∷ 0 ∷ 32 ∷ 0 ∷ [])
    ∷ read Probe false (65 ∷ 66 ∷ 255 ∷ 31 ∷ 1 ∷ 0 ∷ 9 ∷ [])
    ∷ read Probe false (65 ∷ 66 ∷ 255 ∷ 31 ∷ 2 ∷ 0 ∷ 9 ∷ [])
    ∷ read Probe false (65 ∷ 66 ∷ 255 ∷ 255 ∷ 255 ∷ 255 ∷ 9 ∷ [])
    ∷ []

label_records : label_sizes ≡ 6 ∷ 0 ∷ 0 ∷ 6 ∷ 0 ∷ 0 ∷ []
unfolding read label_sizes front_size tells whole fixed head size probe_least probe_fixed probe_head probe_within probe_rest probe_size field number part
label_records = refl
