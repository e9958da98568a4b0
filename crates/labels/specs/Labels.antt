-- The label area and its two commands (document 02, W-206), over the bytes that the caller lends. "Sums are of whole numbers" (document 01). Assumes nothing.
use Rattle.std.specs.Prelude.{ℕ, ◌+◌, ◌≤◌, ◌<◌, ◌≡◌, cond, List, eqb, leb, length, drop, replicate}
use Rattle.wire.specs.Wire.{field, part, splice}
use Rattle.wire.specs.Returns.{success, invalid_input, need}
use Rattle.wire.specs.Done.{Written, written, refused}

-- "4,096 bytes of label area"
abbrev pub label_size : ℕ
label_size = 4096

-- an area of zeros
abbrev pub zero_area : List ℕ
zero_area = replicate label_size 0

-- ---- the fields of a payload
-- "(offset 4, length 4)" and "(offset 4, four reserved, data)"
abbrev pub label_offset : List ℕ → ℕ
label_offset p = field p 0 4

abbrev pub labels_asked : List ℕ → ℕ
labels_asked p = field p 4 4

abbrev pub labels_reserved : List ℕ → ℕ
labels_reserved p = field p 4 4

abbrev pub label_data : List ℕ → List ℕ
label_data p = drop 8 p

-- ---- 4102h, Get LSA: "length over 2,048, end past 4,096 .. 0002h"; it "replies those bytes". `most` is the most bytes of a reply.
unfoldable pub get_labels : ℕ → List ℕ → List ℕ → Written
get_labels most p area =
    need (leb (labels_asked p) most) (refused invalid_input)
    (need (leb (label_offset p + labels_asked p) label_size) (refused invalid_input)
    (written (part (label_offset p) (labels_asked p) area)))

-- ---- 4103h, Set LSA: "end past 4,096 or reserved bytes of Set not zero, 0002h"; 0 where there is nothing to refuse
unfoldable pub set_code : List ℕ → ℕ
set_code p =
    need (leb (label_offset p + length (label_data p)) label_size) invalid_input
    (need (eqb (labels_reserved p) 0) invalid_input
    success)

-- it "writes the data and no other byte of the area"
unfoldable pub set_labels : List ℕ → List ℕ → List ℕ
set_labels p area = splice (label_offset p) (label_data p) area

-- what a Set LSA ensures: its number c, and every byte of the area; a refusal leaves it
pub record Sets (p : List ℕ) (c : ℕ) (before after : List ℕ) : Type 0 where
  pub code : c ≡ set_code p
  pub bytes : after ≡ cond (eqb c success) (set_labels p before) before

-- ---- the ranges of a Set with the payload p and of a Get with the payload q
-- "a Get of the same range"
pub record SameRange (p q : List ℕ) : Type 0 where
  pub offset : label_offset q ≡ label_offset p
  pub size : labels_asked q ≡ length (label_data p)

-- "a range apart from it": no byte k of the area is in both
abbrev pub Apart : (p q : List ℕ) → Type 0
Apart p q = (k : ℕ) → label_offset p ≤ k → k < label_offset p + length (label_data p) → label_offset q ≤ k → k < label_offset q + labels_asked q → ⊥
