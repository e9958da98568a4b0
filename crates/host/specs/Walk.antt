-- The walk of a poison list (document 02, W-202), over entries: "ask for a range, and where the reply says more, halve the range and ask for each half, down to one
-- line, an odd line going to the second half"; what it is for; and what a reader finds in its records. `most` is the most records of a reply. Assumes nothing.
use Rattle.std.specs.Prelude.{◌≡◌, Bool, true, cond, ◌&&◌, List, [], ◌∷◌, ◌++◌, ℕ, zero, suc, ◌+◌, ◌-◌, ◌/◌, ◌%◌, eqb, ltb, length, take, drop, get_or}
use Rattle.wire.specs.Wire.{field}
use Rattle.poison.specs.Runs.{run, in_run, one_if, Chain}
use Rattle.poison.specs.State.{Entry, shape, shapes, covers, kind_at}
use Rattle.poison.specs.Range.{sharing}

-- ---- the walk
-- whether the n lines from a on are asked for by halves: the reply says more, and there are lines to halve
unfoldable pub halves : ℕ → List Entry → ℕ → ℕ → Bool
halves most es a n = ltb most (length (sharing a n es)) && ltb 1 n

-- the walk over the n lines from a on, at most `depth` halvings deep
unfoldable pub walked : ℕ → ℕ → List Entry → ℕ → ℕ → List Entry
walked most zero es a n = take most (sharing a n es)
walked most (suc depth) es a n =
    let both = walked most depth es a (n / 2) ++ walked most depth es (a + n / 2) (n - n / 2) in
    cond (halves most es a n) both (take most (sharing a n es))

-- the walk over the n lines from a on: no line is left to halve after n halvings (`walk_step` has the rule without a depth)
unfoldable pub walk : ℕ → List Entry → ℕ → ℕ → List Entry
walk most es a n = walked most n es a n

-- ---- its step, from the bytes of a reply
-- flag bit 0: more entries share a line with the range than the reply carries; a reply of no bytes does not say so
abbrev pub says_more : List ℕ → Bool
says_more reply = eqb (get_or reply 0 0 % 2) 1

-- how many lines the first half of a range of n lines has, 0 where the range is not halved
unfoldable pub first_half : List ℕ → ℕ → ℕ
first_half reply n = cond (says_more reply && ltb 1 n) (n / 2) 0

-- ---- what it is for
-- how many of some entries have line k
abbrev pub times : List Entry → ℕ → ℕ
times [] k = 0
times (e ∷ es) k = one_if (in_run (shape e) k) + times es k

-- entries that list the n lines from a on: "each covered line of the range once with its type and no other line, ascending"
pub record Lists (es : List Entry) (a n : ℕ) (rs : List Entry) : Type 0 where
  pub once : (k : ℕ) → times rs k ≡ one_if (covers es k && in_run (run a n) k)
  pub kinds : (k : ℕ) → covers rs k ≡ true → kind_at rs k ≡ kind_at es k
  pub ascending : Chain a (a + n) (shapes rs)

-- ---- what a reader finds in records of 16 bytes: the line above bit 6 of the address, the type in its bits 0 to 2, and the length in lines
abbrev pub read_record : List ℕ → Entry
read_record bs = record { start = field bs 0 8 / 64; lines = field bs 8 4; kind = field bs 0 8 % 8 }

-- the first n records of some bytes
unfoldable pub read_records : ℕ → List ℕ → List Entry
read_records zero bs = []
read_records (suc n) bs = read_record bs ∷ read_records n (drop 16 bs)
