-- The bytes of the input that are left, as more is read: moved to the front, kept by a read, and the first of those that are left then.
-- Assumes nothing.
use mathlib.Core.Path.{◌≡◌, refl, sym, ap, ◌∙◌}
use mathlib.Core.Bool.{Bool}
use mathlib.Core.Logic.{inl, inr, ⊎_elim}
use mathlib.Core.List.{List, ◌++◌}
use Prim.Native.Nat.{ℕ, ◌+◌, ◌-◌, ◌≤◌}
use native.Mathlib.Omega.{arith}
use lib.ListN.{length, take, drop, length-take, take-append-drop}
use lib.Seq.{take-append-le, take_all, take-take}
use Rattle.wire.specs.Wire.{number, part, field}
use Rattle.wire.proofs.Laws.{length_part}
use Rattle.wire.proofs.Splice.{part_front}
use Rattle.protocol.specs.declared.stream.Stream.{Stream}
use Rattle.protocol.specs.Stream.{Fits, count_left, left, Reads, Continues}

-- one read after another: x is any place up to which bytes were read
pub reads_then : {end e r : ℕ} {before between after : List ℕ} (x : ℕ) → Reads end before between e → Reads e between after r → length between ≡ length before
    → e ≤ x → x ≤ length before → Reads end before after x
reads_then {end} {e} {r} {before} {between} {after} x p q long more room =
    record {
      more = omega (arith, p.more);
      fits = room;
      kept = sym (take-take end e after p.more) ∙ ap (take end) q.kept ∙ take-take end e between p.more ∙ p.kept;
    }

-- a field of the first elements of a list
pub field_front : (n i k : ℕ) (l front : List ℕ) → take n l ≡ front → i + k ≤ n → n ≤ length l → field l i k ≡ field front i k
unfolding field
field_front n i k l front e h fits =
    ap (λ (x : List ℕ). number (part i k x)) (sym (take-append-drop n l))
    ∙ ap number (part_front i k (take n l) (drop n l) (rw length-take (omega arith)))
    ∙ ap (λ (x : List ℕ). number (part i k x)) e

-- the first elements stay so whatever comes after
pub front_more : (n : ℕ) (l more front : List ℕ) → take n l ≡ front → n ≤ length l → take n (l ++ more) ≡ front
front_more n l more front e fits = take-append-le n l more fits ∙ e

-- how many bytes are left
pub length_left : (s : Stream) (input : List ℕ) → Fits s → length input ≡ 65536 → length (left s input) ≡ count_left s
length_left s input fits long = length_part s.at (count_left s) input (omega arith)

-- nothing read
pub continues_here : (s : Stream) (input : List ℕ) → Fits s → length input ≡ 65536 → Continues s s input input
continues_here s input fits long =
    record {
      fits = fits;
      place = refl;
      more = omega arith;
      kept = take_all (count_left s) (left s input) (omega (arith, length_left s input fits long));
      output = inl refl;
    }

-- the bytes left moved to the front, and more read after them
pub continues_front : (s : Stream) (e used : ℕ) (ended : Bool) (before between after : List ℕ) → Fits s → used ≡ 0 → count_left s ≤ e → e ≤ 65536
    → take (count_left s) between ≡ left s before → take (count_left s) after ≡ take (count_left s) between
    → Continues s (record { at = 0; end = e; offset = s.offset; used = used; ended = ended }) before after
unfolding part
continues_front s e used ended before between after fits none more room moved kept =
    record {
      fits = record { order = omega arith; input = room; output = omega (arith, none) };
      place = refl;
      more = omega arith;
      kept =
          let whole : e - 0 ≡ e = omega arith in
          ap (λ (k : ℕ). take (count_left s) (take k after)) whole ∙ take-take (count_left s) e after more ∙ kept ∙ moved;
      output = inr none;
    }

-- one place after another
pub continues_then : {s m r : Stream} {before between after : List ℕ} → Continues s m before between → Continues m r between after → Continues s r before after
continues_then {s} {m} {r} {before} {between} {after} p q =
    record {
      fits = q.fits;
      place = q.place ∙ p.place;
      more = omega (arith, p.more, q.more);
      kept = sym (take-take (count_left s) (count_left m) (left r after) p.more) ∙ ap (take (count_left s)) q.kept ∙ p.kept;
      output = ⊎_elim (λ e. ⊎_elim (λ f. inl (e ∙ f)) (λ f. inr (e ∙ f)) p.output) (λ e. inr e) q.output;
    }
