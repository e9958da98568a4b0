-- The line of each record, as bytes (document 01, "Bench program"): "It prints a line for each: mark, code, then ..". Assumes nothing.
use Rattle.std.specs.Prelude.{ℕ, cond, List, [], ◌∷◌, ◌++◌, eqb, length}
use Rattle.protocol.specs.Text.{bytes_column, columns, line_end, numbers_line}
use Rattle.protocol.specs.Records.{CM}

-- "for CM the length and lower-case hex (none if length 0)"
unfoldable pub command_line : ℕ → List ℕ → List ℕ
command_line code reply = ((CM ++ columns (code ∷ length reply ∷ [])) ++ bytes_column [] reply) ++ line_end

-- "A refused EV, MD or LT prints mark and code only."
unfoldable pub told_line : List ℕ → ℕ → List ℕ → List ℕ
told_line mark code numbers = numbers_line mark (code ∷ cond (eqb code 0) numbers [])
