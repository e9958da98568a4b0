-- A run of a program over records: the system reads bytes and writes bytes when and as many as it will; all else is fixed by the records that were read
-- (document 01, "Bench program"; document 10, "Rules"). Over any state, sizes and service. Assumes nothing.
use Rattle.std.specs.Prelude.{ℕ, ◌+◌, ◌<◌, ◌≡◌, Bool, true, cond, ◌⊎◌, List, [], ◌++◌, eqb, ltb, length, take}
use Rattle.protocol.specs.declared.stream.Stream.{Stream}
use Rattle.protocol.specs.Text.{last_line}
use Rattle.protocol.specs.Stream.{left}
use Rattle.protocol.specs.Records.{front_size, OneRecord}

-- what serving a record gives: the bytes printed and the state that follows
pub record Printed (D : Type 0) : Type 0 where
  pub line : List ℕ
  pub next : D

-- a program over states D: how long the fixed part of a record is, by its mark and by whether it is the input's first (0: none of that mark may stand there);
-- how long its head is, by its fixed part, and how long it is, by its head (0: a size is over its limit); and what serving a record gives
pub record Program (D : Type 0) : Type 0 where
  pub fixed : Bool → ℕ → ℕ
  pub head : List ℕ → ℕ
  pub size : List ℕ → ℕ
  pub serve : D → List ℕ → Printed D

-- how many bytes the record at the front of the bytes at some offset has, 0 where none may be served
abbrev pub reading : {D : Type 0} → Program D → ℕ → List ℕ → ℕ
reading P offset = front_size (P.fixed (eqb offset 0)) P.head P.size

-- where a run is: the state, the place in the input, the bytes read and not used, whether a read brought no byte, the bytes printed and not written
pub record Machine (D : Type 0) : Type 0 where
  pub state : D
  pub offset : ℕ
  pub left : List ℕ
  pub ended : Bool
  pub unwritten : List ℕ

-- the code's state, stream and buffers
abbrev pub machine_of : {D : Type 0} → D → Stream → List ℕ → List ℕ → Machine D
machine_of d s input out = record { state = d; offset = s.offset; left = left s input; ended = s.ended; unwritten = take s.used out }

-- from one place of a run to another: bytes are read, all that was printed is written, or the record at the front is served
pub data Steps {D : Type 0} (P : Program D) (start : Machine D) : Machine D → Type 0 where
  stay : Steps P start start
  read : {m : Machine D} (bytes : List ℕ) (ended : Bool) → Steps P start m
      → Steps P start (record { state = m.state; offset = m.offset; left = m.left ++ bytes; ended = ended; unwritten = m.unwritten })
  write : {m : Machine D} → Steps P start m → Steps P start (record { state = m.state; offset = m.offset; left = m.left; ended = m.ended; unwritten = [] })
  serve : {m : Machine D} (r rest : List ℕ) → Steps P start m → m.left ≡ r ++ rest → OneRecord (reading P m.offset) r
      → Steps P start
      (record {
        state = (P.serve m.state r).next;
        offset = m.offset + length r;
        left = rest;
        ended = m.ended;
        unwritten = m.unwritten ++ (P.serve m.state r).line;
      })

-- what is printed last: BAD, or nothing at the end of the input. (At 2 ^ 63 bytes, which no input reaches, the program just ends.)
abbrev pub ending : {D : Type 0} → Machine D → List ℕ
ending m = cond (ltb m.offset 9223372036854775808) (last_line (length m.left) m.offset) []

-- no record stands at the front, and that is final: no more bytes come, or none would change it
pub record NoRecord (reading : List ℕ → ℕ) (ended : Bool) (bytes : List ℕ) : Type 0 where
  pub none : reading bytes ≡ 0
  pub final : (ended ≡ true) ⊎ ((more : List ℕ) → reading (bytes ++ more) ≡ 0)

-- the run from a place on: r bytes of the output buffer are left to write
pub record Ends {D : Type 0} (P : Program D) (start : Machine D) (r : ℕ) (out : List ℕ) : Type 0 where
  pub last : Machine D
  pub steps : Steps P start last
  pub none : last.offset < 9223372036854775808 → NoRecord (reading P last.offset) last.ended last.left
  pub text : take r out ≡ last.unwritten ++ ending last
