-- Text as the programs print it, in bytes of ASCII (document 01, "Bench program"; document 10, "Rules"): numbers in decimal, bytes in hexadecimal, a column,
-- how a line begins and ends. Assumes nothing.
use Rattle.std.specs.Prelude.{ℕ, zero, suc, ◌+◌, ◌/◌, ◌%◌, cond, List, [], ◌∷◌, ◌++◌, eqb, ltb}

-- a number's decimal digits, the most significant first, where it has at most k
unfoldable pub numeral : ℕ → ℕ → List ℕ
numeral zero n = []
numeral (suc k) n = cond (ltb n 10) ((48 + n) ∷ []) (numeral k (n / 10) ++ ((48 + n % 10) ∷ []))

-- "all decimal": a number of 64 bits has at most 20 digits
abbrev pub decimal : ℕ → List ℕ
decimal n = numeral 20 n

-- a digit of "lower-case hex": 0 to 9, then a to f
abbrev pub hex_digit : ℕ → ℕ
hex_digit d = cond (ltb d 10) (48 + d) (87 + d)

-- "lower-case hex": two digits for each byte
unfoldable pub hex : List ℕ → List ℕ
hex [] = []
hex (b ∷ bs) = hex_digit (b / 16) ∷ hex_digit (b % 16) ∷ hex bs

-- a number after a blank
abbrev pub column : ℕ → List ℕ
column n = 32 ∷ decimal n

-- the end of a line: line feed
abbrev pub line_end : List ℕ
line_end = 10 ∷ []

-- a column of bytes in hexadecimal; where there are none, another text in its place
abbrev pub bytes_column : List ℕ → List ℕ → List ℕ
bytes_column none [] = none
bytes_column none (b ∷ bs) = 32 ∷ hex (b ∷ bs)

-- a column for each of some numbers
unfoldable pub columns : List ℕ → List ℕ
columns [] = []
columns (n ∷ ns) = column n ++ columns ns

-- a line of numbers: the mark, its columns, the line's end
abbrev pub numbers_line : List ℕ → List ℕ → List ℕ
numbers_line mark ns = (mark ++ columns ns) ++ line_end

-- "prints BAD and the mark's offset in decimal"
unfoldable pub bad_line : ℕ → List ℕ
bad_line offset = (66 ∷ 65 ∷ 68 ∷ column offset) ++ line_end

-- what is printed where no record is served: nothing where no byte is left, which is the end of the input
unfoldable pub last_line : ℕ → ℕ → List ℕ
last_line left offset = cond (eqb left 0) [] (bad_line offset)
