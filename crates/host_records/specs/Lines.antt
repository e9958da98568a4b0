-- The line of a call that writes a buffer, as bytes (document 10, "Rules"): "The columns `length bytes kept` tell what came back"; and how long any line can be.
-- Assumes nothing.
use Rattle.std.specs.Prelude.{ℕ, Bool, true, ◌&&◌, cond, List, [], ◌∷◌, ◌++◌, eqb, length, take, drop, replicate}
use Rattle.wire.specs.Wire.{splice}
use Rattle.wire.specs.Done.{Written}
use Rattle.protocol.specs.Text.{column, bytes_column, columns, line_end}

-- "`-` if there are none"
abbrev pub minus : List ℕ
minus = 32 ∷ 45 ∷ []

-- whether some bytes are all `fill`
unfoldable pub still : ℕ → List ℕ → Bool
still fill [] = true
still fill (b ∷ bs) = eqb b fill && still fill bs

-- "bytes lower-case hex": "the length answered, the first `length` bytes of the buffer, and 1 if every other byte of the buffer is still `fill`, else 0"
unfoldable pub buffer_columns : List ℕ → ℕ → ℕ → ℕ → List ℕ → List ℕ
buffer_columns mark code n fill buffer =
    ((mark ++ columns (code ∷ n ∷ [])) ++ bytes_column minus (take n buffer)) ++ column (cond (still fill (drop n buffer)) 1 0)

-- the line where no column follows
unfoldable pub buffer_line : List ℕ → ℕ → ℕ → ℕ → List ℕ → List ℕ
buffer_line mark code n fill buffer = buffer_columns mark code n fill buffer ++ line_end

-- the line of a call of the host library that writes to a room of so many bytes, "each of them `fill` before the call"
unfoldable pub written_line : List ℕ → ℕ → ℕ → Written → List ℕ
written_line mark fill room o = buffer_line mark o.code (length o.bytes) fill (splice 0 o.bytes (replicate room fill))

-- no line is longer: the longest are those of the whole label store, of a reply of 4,096 bytes, read as records, and of a walk's 320 records
abbrev pub line_room : ℕ
line_room = 20000
