-- The definitions of the lines, tried by computation: lines of document 01's example. Assumes nothing.
use mathlib.Core.Path.{◌≡◌, refl}
use mathlib.Core.List.{[], ◌∷◌}
use Rattle.protocol.specs.Text.{numeral, columns, hex}
use Rattle.protocol.specs.Records.{EV, MD, LT}
use Rattle.bench.specs.Lines.{command_line, told_line}

-- "MD 0 3 0", "LT 0 1 2", "EV 2", "CM 0 1 0a", "CM 22 0"
media_line : told_line MD 0 (3 ∷ 0 ∷ []) ≡ 77 ∷ 68 ∷ 32 ∷ 48 ∷ 32 ∷ 51 ∷ 32 ∷ 48 ∷ 10 ∷ []
unfolding told_line columns numeral
media_line = refl

line_line : told_line LT 0 (1 ∷ 2 ∷ []) ≡ 76 ∷ 84 ∷ 32 ∷ 48 ∷ 32 ∷ 49 ∷ 32 ∷ 50 ∷ 10 ∷ []
unfolding told_line columns numeral
line_line = refl

refused_line : told_line EV 2 (0 ∷ []) ≡ 69 ∷ 86 ∷ 32 ∷ 50 ∷ 10 ∷ []
unfolding told_line columns numeral
refused_line = refl

replied_line : command_line 0 (10 ∷ []) ≡ 67 ∷ 77 ∷ 32 ∷ 48 ∷ 32 ∷ 49 ∷ 32 ∷ 48 ∷ 97 ∷ 10 ∷ []
unfolding command_line columns numeral hex
replied_line = refl

empty_line : command_line 22 [] ≡ 67 ∷ 77 ∷ 32 ∷ 50 ∷ 50 ∷ 32 ∷ 48 ∷ 10 ∷ []
unfolding command_line columns numeral hex
empty_line = refl
