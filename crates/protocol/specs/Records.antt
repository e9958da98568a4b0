-- Records one after another, each a two-byte mark and its fields (document 01, "Bench program"; document 10, "Rules"): which record stands at the front of
-- some bytes, by sizes that `Formats` gives for each program. Assumes nothing.
use Rattle.std.specs.Prelude.{ℕ, ◌+◌, ◌*◌, ◌<◌, ◌≡◌, cond, Option, Some, None, List, [], ◌∷◌, eqb, leb, length, take, get_or}

-- "a two-byte mark in ASCII": the two bytes as one number, the first letter above the second
abbrev pub mark_of : List ℕ → ℕ
mark_of r = get_or r 0 0 * 256 + get_or r 1 0

-- the marks that both programs have
abbrev pub NW : List ℕ
NW = 78 ∷ 87 ∷ []

abbrev pub CM : List ℕ
CM = 67 ∷ 77 ∷ []

abbrev pub EV : List ℕ
EV = 69 ∷ 86 ∷ []

abbrev pub MD : List ℕ
MD = 77 ∷ 68 ∷ []

abbrev pub LT : List ℕ
LT = 76 ∷ 84 ∷ []

-- the marks that `probe` alone has
abbrev pub ES : List ℕ
ES = 69 ∷ 83 ∷ []

abbrev pub DT : List ℕ
DT = 68 ∷ 84 ∷ []

abbrev pub RQ : List ℕ
RQ = 82 ∷ 81 ∷ []

abbrev pub RP : List ℕ
RP = 82 ∷ 80 ∷ []

abbrev pub RW : List ℕ
RW = 82 ∷ 87 ∷ []

abbrev pub WK : List ℕ
WK = 87 ∷ 75 ∷ []

abbrev pub AR : List ℕ
AR = 65 ∷ 82 ∷ []

abbrev pub AB : List ℕ
AB = 65 ∷ 66 ∷ []

abbrev pub PC : List ℕ
PC = 80 ∷ 67 ∷ []

-- a size that a number tells, where 0 stands for none
abbrev pub some_size : ℕ → Option ℕ
some_size n = cond (eqb n 0) None (Some n)

-- n bytes at the front, or 0 where they are cut
unfoldable pub whole : ℕ → List ℕ → ℕ
whole n r = cond (leb n (length r)) n 0

-- what the first n bytes tell, where there are so many, and more than none
unfoldable pub tells : (List ℕ → ℕ) → ℕ → List ℕ → ℕ
tells f n r = cond (eqb (whole n r) 0) 0 (f (take n r))

-- how many bytes the fixed part of the record at the front has, as its mark tells
abbrev pub told_fixed : (ℕ → ℕ) → List ℕ → ℕ
told_fixed fixed r = tells (λ h. fixed (mark_of h)) 2 r

-- how many its head has, as its fixed part tells: the bytes before the sizes in it are known
abbrev pub told_head : (ℕ → ℕ) → (List ℕ → ℕ) → List ℕ → ℕ
told_head fixed head r = tells head (told_fixed fixed r) r

-- the fixed part, and the head, of the record at the front: as many bytes, or 0 where they are cut
unfoldable pub front_fixed : (ℕ → ℕ) → List ℕ → ℕ
front_fixed fixed r = whole (told_fixed fixed r) r

unfoldable pub front_head : (ℕ → ℕ) → (List ℕ → ℕ) → List ℕ → ℕ
front_head fixed head r = whole (told_head fixed head r) r

-- how many bytes the record at the front has: its mark tells how long its fixed part is, that how long its head is, and that how long it is. 0 stands for no
-- record: an unknown mark, "a cut record", "a size over its limit", or the end of the input
unfoldable pub front_size : (ℕ → ℕ) → (List ℕ → ℕ) → (List ℕ → ℕ) → List ℕ → ℕ
front_size fixed head size r = whole (tells size (told_head fixed head r) r) r

-- those bytes are one whole record by that reading, and nothing more
pub record OneRecord (reading : List ℕ → ℕ) (r : List ℕ) : Type 0 where
  pub all : reading r ≡ length r
  pub some : 0 < length r
