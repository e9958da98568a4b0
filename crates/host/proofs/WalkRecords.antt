-- The records of the walk are the records read (document 02, W-202): what a reader finds in the bytes of records is what was written, whatever follows them. And the
-- bytes of records one after the other. Assumes nothing.
use mathlib.Core.Path.{◌≡◌, refl, sym, ap, ap₂, ◌∙◌}
use mathlib.Core.Bool.{Bool, true, false, cond}
use mathlib.Core.List.{List, [], ◌∷◌, ◌++◌, append_assoc}
use Prim.Native.Nat.{ℕ, ◌+◌, ◌*◌, ◌/◌, ◌%◌, ◌≤◌, ◌<◌}
use native.Mathlib.Omega.{arith}
use lib.ListN.{length, drop}
use Rattle.wire.specs.Wire.{le, part, field}
use Rattle.wire.proofs.Splice.{number_le}
use Rattle.poison.specs.Runs.{end, Chain}
use Rattle.poison.specs.State.{Entry, shape, shapes, capacity, Typed}
use Rattle.poison.specs.Range.{kept, shares, cut_to, sharing, record_bytes, records_bytes}
use Rattle.poison.proofs.Laws.{unpacked, chain_length}
use Rattle.host.specs.Walk.{walk, read_record, read_records}
use Rattle.host.proofs.WalkLines.{holds}

-- ---- one record
module _ (e : Entry) (rest : List ℕ) (h : end (shape e) ≤ capacity) (k : e.kind < 8) where
  address_read : field (record_bytes e ++ rest) 0 8 ≡ e.start * 64 + e.kind
  unfolding field part record_bytes le
  address_read = number_le 8 (e.start * 64 + e.kind) (omega arith)

  length_read : field (record_bytes e ++ rest) 8 4 ≡ e.lines
  unfolding field part record_bytes le
  length_read = number_le 4 e.lines (omega arith)

  record_read : read_record (record_bytes e ++ rest) ≡ e
  record_read =
      let u = unpacked e.start e.kind k in
      let s : field (record_bytes e ++ rest) 0 8 / 64 ≡ e.start = ap (λ (x : ℕ). x / 64) address_read ∙ u.2 in
      let q : field (record_bytes e ++ rest) 0 8 % 8 ≡ e.kind = ap (λ (x : ℕ). x % 8) address_read ∙ u.0 in
      λ i. record { start = s i; lines = length_read i; kind = q i }

past_record : (e : Entry) (rest : List ℕ) → drop 16 (record_bytes e ++ rest) ≡ rest
unfolding record_bytes le
past_record e rest = refl

-- ---- all of them, whatever follows
pub records_read : (lo hi : ℕ) (es : List Entry) (rest : List ℕ) → Chain lo hi (shapes es) → hi ≤ capacity → Typed es
    → read_records (length es) (records_bytes es ++ rest) ≡ es
unfolding read_records records_bytes
records_read lo hi [] rest c h t = refl
records_read lo hi (e ∷ es) rest c h t =
    let l = chain_length (end (shape e)) hi es c.2 in
    rw append_assoc
    (ap₂ ◌∷◌ (record_read e (records_bytes es ++ rest) (omega arith) t.0)
    (ap (read_records (length es)) (past_record e (records_bytes es ++ rest)) ∙ records_read (end (shape e)) hi es rest c.2 h t.1))

-- ---- every type has three bits
typed_append : (es fs : List Entry) → Typed es → Typed fs → Typed (es ++ fs)
typed_append [] fs t u = u
typed_append (e ∷ es) fs t u = (t.0, typed_append es fs t.1 u)

typed_sharing : (a n : ℕ) (es : List Entry) → Typed es → Typed (sharing a n es)
unfolding sharing kept
typed_sharing a n [] t = tt
typed_sharing a n (e ∷ es) t = go (shares a n e) (typed_sharing a n es t.1)
  where
    go : (b : Bool) → Typed (sharing a n es) → Typed (cond b (cut_to a n e ∷ sharing a n es) (sharing a n es))
    go true i = (t.0, i)
    go false i = i

pub typed_walk : (es : List Entry) (hi : ℕ) → Chain 0 hi (shapes es) → Typed es → (most : ℕ) → 0 < most → (a n : ℕ) → Typed (walk most es a n)
typed_walk es hi c t most p a n = holds es hi c most p (λ a n xs. Typed xs) (λ a n. typed_sharing a n es t) (λ a m n xs ys u w. typed_append xs ys u w) a n

-- ---- records one after the other
pub records_append : (es fs : List Entry) → records_bytes (es ++ fs) ≡ records_bytes es ++ records_bytes fs
unfolding records_bytes
records_append [] fs = refl
records_append (e ∷ es) fs = ap (λ (l : List ℕ). record_bytes e ++ l) (records_append es fs) ∙ sym (append_assoc (record_bytes e) (records_bytes es) (records_bytes fs))
