-- Document 01's example of the bench program, one of its label area and one of a Sanitize, from the bytes of the input to the bytes of the output, by computation with the definitions
-- that the contracts cite. Assumes nothing.
use mathlib.Core.Path.{◌≡◌, refl}
use mathlib.Core.List.{List, [], ◌∷◌, ◌++◌}
use Prim.Native.Nat.{ℕ}
use lib.ListN.{length, take, drop, replicate}
use Rattle.mailbox.proofs.Laws.{rules}
use Rattle.labels.specs.Labels.{zero_area}
use Rattle.protocol.specs.Text.{numeral, columns, hex, bad_line, last_line}
use Rattle.protocol.specs.Records.{whole, tells, front_size}
use Rattle.protocol.specs.Runs.{reading}
use Rattle.protocol.proofs.Laws.{printed}
use Rattle.protocol.specs.Formats.{bench_fixed, bench_size, fixed, head, size}
use Rattle.bench.specs.Lines.{command_line, told_line}
use Rattle.bench.specs.Calls.{first_record, serve_command, serve_event, serve_media, serve_line, serve_record, bench}

-- what is printed for an input that begins with NW
program : ℕ → List ℕ → List ℕ
program n l =
    let first = take (reading bench 0 l) l in
    (first_record first).line ++ printed bench n (record { device = (first_record first).next; area = zero_area }) (length first) (drop (length first) l)

-- to unfold this is to unfold every definition of the line below
unfoldable steps : Unit {0}
unfolding program printed rules numeral columns hex bad_line last_line whole tells front_size fixed head size bench_fixed bench_size command_line told_line first_record serve_command serve_event serve_media serve_line serve_record
steps = tt

-- "NW 1 0; MD time 0, address 128, 3 lines, type 2; CM time 0, 4302h, address 192, 64 zero bytes; LT 192; LT 128; CM time 0, 4300h, address 0, 16 lines"
input : List ℕ
input =
    (78 ∷ 87 ∷ 1 ∷ 0 ∷ 0 ∷ 0 ∷ [])
    ++ (77 ∷ 68 ∷ []) ++ replicate 8 0 ++ (128 ∷ []) ++ replicate 7 0 ++ (3 ∷ 0 ∷ 0 ∷ 0 ∷ 2 ∷ [])
    ++ (67 ∷ 77 ∷ []) ++ replicate 8 0 ++ (2 ∷ 67 ∷ 72 ∷ 0 ∷ 192 ∷ []) ++ replicate 71 0
    ++ (76 ∷ 84 ∷ 192 ∷ []) ++ replicate 7 0
    ++ (76 ∷ 84 ∷ 128 ∷ []) ++ replicate 7 0
    ++ (67 ∷ 77 ∷ []) ++ replicate 9 0 ++ (67 ∷ 16 ∷ []) ++ replicate 9 0 ++ (16 ∷ []) ++ replicate 7 0

-- the lines of document 01
output : List ℕ
output =
    (78 ∷ 87 ∷ 32 ∷ 48 ∷ 10 ∷ [])
    ++ (77 ∷ 68 ∷ 32 ∷ 48 ∷ 32 ∷ 51 ∷ 32 ∷ 48 ∷ 10 ∷ [])
    ++ (67 ∷ 77 ∷ 32 ∷ 48 ∷ 32 ∷ 48 ∷ 10 ∷ [])
    ++ (76 ∷ 84 ∷ 32 ∷ 48 ∷ 32 ∷ 48 ∷ 32 ∷ 48 ∷ 10 ∷ [])
    ++ (76 ∷ 84 ∷ 32 ∷ 48 ∷ 32 ∷ 49 ∷ 32 ∷ 50 ∷ 10 ∷ [])
    ++ (67 ∷ 77 ∷ 32 ∷ 48 ∷ 32 ∷ 54 ∷ 52 ∷ 32 ∷ 48 ∷ 48 ∷ 48 ∷ 48 ∷ 48 ∷ 48 ∷ 48 ∷ 48 ∷ 48 ∷ 48 ∷ 48 ∷ 48 ∷ 48 ∷ 48 ∷ 48 ∷ 48 ∷ 48 ∷ 48 ∷ 48 ∷ 48 ∷ 48 ∷ 50 ∷ 48 ∷ 48 ∷ 48 ∷ 48 ∷ 48 ∷ 48 ∷ 48 ∷ 48 ∷ 48 ∷ 48 ∷ 48 ∷ 48 ∷ 48 ∷ 48 ∷ 48 ∷ 48 ∷ 48 ∷ 48 ∷ 48 ∷ 48 ∷ 48 ∷ 48 ∷ 48 ∷ 48 ∷ 48 ∷ 48 ∷ 48 ∷ 48 ∷ 48 ∷ 48 ∷ 48 ∷ 48 ∷ 48 ∷ 48 ∷ 48 ∷ 48 ∷ 48 ∷ 48 ∷ 48 ∷ 48 ∷ 48 ∷ 48 ∷ 56 ∷ 50 ∷ 48 ∷ 48 ∷ 48 ∷ 48 ∷ 48 ∷ 48 ∷ 48 ∷ 48 ∷ 48 ∷ 48 ∷ 48 ∷ 48 ∷ 48 ∷ 48 ∷ 48 ∷ 49 ∷ 48 ∷ 48 ∷ 48 ∷ 48 ∷ 48 ∷ 48 ∷ 48 ∷ 48 ∷ 48 ∷ 48 ∷ 48 ∷ 48 ∷ 48 ∷ 48 ∷ 48 ∷ 50 ∷ 48 ∷ 49 ∷ 48 ∷ 48 ∷ 48 ∷ 48 ∷ 48 ∷ 48 ∷ 48 ∷ 48 ∷ 48 ∷ 48 ∷ 48 ∷ 48 ∷ 48 ∷ 49 ∷ 48 ∷ 48 ∷ 48 ∷ 48 ∷ 48 ∷ 48 ∷ 48 ∷ 48 ∷ 48 ∷ 48 ∷ 48 ∷ 48 ∷ 48 ∷ 48 ∷ 10 ∷ [])

-- the definitions give the document's output
example : program 10 input ≡ output
unfolding steps input output
example = refl

-- "an area starts as zeros and is kept": NW 1 0; CM time 0, 4103h, offset 4,094, 0A 0B; LT 0; CM time 0, 4102h, offset 4,093, 3 bytes
labels_input : List ℕ
labels_input =
    (78 ∷ 87 ∷ 1 ∷ 0 ∷ 0 ∷ 0 ∷ [])
    ++ (67 ∷ 77 ∷ []) ++ replicate 8 0 ++ (3 ∷ 65 ∷ 10 ∷ 0 ∷ 254 ∷ 15 ∷ 0 ∷ 0 ∷ 0 ∷ 0 ∷ 0 ∷ 0 ∷ 10 ∷ 11 ∷ [])
    ++ (76 ∷ 84 ∷ []) ++ replicate 8 0
    ++ (67 ∷ 77 ∷ []) ++ replicate 8 0 ++ (2 ∷ 65 ∷ 8 ∷ 0 ∷ 253 ∷ 15 ∷ 0 ∷ 0 ∷ 3 ∷ 0 ∷ 0 ∷ 0 ∷ [])

-- "NW 0", "CM 0 0", "LT 0 0 0", "CM 0 3 000a0b"
labels_output : List ℕ
labels_output =
    (78 ∷ 87 ∷ 32 ∷ 48 ∷ 10 ∷ [])
    ++ (67 ∷ 77 ∷ 32 ∷ 48 ∷ 32 ∷ 48 ∷ 10 ∷ [])
    ++ (76 ∷ 84 ∷ 32 ∷ 48 ∷ 32 ∷ 48 ∷ 32 ∷ 48 ∷ 10 ∷ [])
    ++ (67 ∷ 77 ∷ 32 ∷ 48 ∷ 32 ∷ 51 ∷ 32 ∷ 48 ∷ 48 ∷ 48 ∷ 97 ∷ 48 ∷ 98 ∷ 10 ∷ [])

labels_example : program 10 labels_input ≡ labels_output
unfolding steps labels_input labels_output
labels_example = refl

-- Document 02, W-207: on one unit a Sanitize takes 4 seconds. NW 1 0; MD time 0, address 0, 1 line, type 2; CM time 1, 4400h; LT 0; CM time 4,000,000,000, 4102h, offset 0, 1 byte; LT 0; the CM at
-- time 4,000,000,001; LT 0
sanitize_input : List ℕ
sanitize_input =
    (78 ∷ 87 ∷ 1 ∷ 0 ∷ 0 ∷ 0 ∷ [])
    ++ (77 ∷ 68 ∷ []) ++ replicate 16 0 ++ (1 ∷ 0 ∷ 0 ∷ 0 ∷ 2 ∷ [])
    ++ (67 ∷ 77 ∷ 1 ∷ 0 ∷ 0 ∷ 0 ∷ 0 ∷ 0 ∷ 0 ∷ 0 ∷ 0 ∷ 68 ∷ 0 ∷ 0 ∷ [])
    ++ (76 ∷ 84 ∷ []) ++ replicate 8 0
    ++ (67 ∷ 77 ∷ 0 ∷ 40 ∷ 107 ∷ 238 ∷ 0 ∷ 0 ∷ 0 ∷ 0 ∷ 2 ∷ 65 ∷ 8 ∷ 0 ∷ 0 ∷ 0 ∷ 0 ∷ 0 ∷ 1 ∷ 0 ∷ 0 ∷ 0 ∷ [])
    ++ (76 ∷ 84 ∷ []) ++ replicate 8 0
    ++ (67 ∷ 77 ∷ 1 ∷ 40 ∷ 107 ∷ 238 ∷ 0 ∷ 0 ∷ 0 ∷ 0 ∷ 2 ∷ 65 ∷ 8 ∷ 0 ∷ 0 ∷ 0 ∷ 0 ∷ 0 ∷ 1 ∷ 0 ∷ 0 ∷ 0 ∷ [])
    ++ (76 ∷ 84 ∷ []) ++ replicate 8 0

-- "NW 0", "MD 0 1 0", "CM 1 0", "LT 0 3 0", "CM 7 0", "LT 0 3 0", "CM 0 1 00", "LT 0 1 2": started; then Disabled and 0007h while it runs; at the due time the command ends it, and the line test answers again
sanitize_output : List ℕ
sanitize_output =
    (78 ∷ 87 ∷ 32 ∷ 48 ∷ 10 ∷ [])
    ++ (77 ∷ 68 ∷ 32 ∷ 48 ∷ 32 ∷ 49 ∷ 32 ∷ 48 ∷ 10 ∷ [])
    ++ (67 ∷ 77 ∷ 32 ∷ 49 ∷ 32 ∷ 48 ∷ 10 ∷ [])
    ++ (76 ∷ 84 ∷ 32 ∷ 48 ∷ 32 ∷ 51 ∷ 32 ∷ 48 ∷ 10 ∷ [])
    ++ (67 ∷ 77 ∷ 32 ∷ 55 ∷ 32 ∷ 48 ∷ 10 ∷ [])
    ++ (76 ∷ 84 ∷ 32 ∷ 48 ∷ 32 ∷ 51 ∷ 32 ∷ 48 ∷ 10 ∷ [])
    ++ (67 ∷ 77 ∷ 32 ∷ 48 ∷ 32 ∷ 49 ∷ 32 ∷ 48 ∷ 48 ∷ 10 ∷ [])
    ++ (76 ∷ 84 ∷ 32 ∷ 48 ∷ 32 ∷ 49 ∷ 32 ∷ 50 ∷ 10 ∷ [])

sanitize_example : program 10 sanitize_input ≡ sanitize_output
unfolding steps sanitize_input sanitize_output
sanitize_example = refl
