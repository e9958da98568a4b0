-- The buffer that a call writes: filled before it, and what is still as it was after it; the column of its bytes, and how long its columns can be.
-- Assumes nothing.
use mathlib.Core.Path.{◌≡◌, refl, sym, ap, ap₂, ◌∙◌}
use mathlib.Core.Bool.{Bool, true, false, ◌&&◌, cond}
use mathlib.Core.List.{List, [], ◌∷◌}
use Prim.Native.Nat.{ℕ, zero, suc, ◌+◌, ◌-◌, ◌*◌, ◌≤◌, ◌<◌}
use native.Mathlib.Numerals.{add-one}
use native.Mathlib.Nat.{sub-zero, zero-add}
use native.Mathlib.Omega.{arith}
use lib.Dec.{eqb}
use Rattle.std.specs.List.{list_all}
use lib.ListN.{length, take, drop, get_or, replicate, set, drop_of_length-le, length-append, length-take}
use lib.Seq.{drop-cons, drop_at}
use borrow.Author.Tests.{eq-eqb, ne_eqb}
use Rattle.wire.specs.Wire.{splice}
use Rattle.protocol.specs.Text.{column, bytes_column, columns, line_end}
use Rattle.protocol.specs.Relations.{Puts, PutsLine}
use Rattle.protocol.proofs.Laws.{puts_two, puts_then, puts_as, length_column, length_columns, length_bytes_column}
use Rattle.host_records.specs.Lines.{minus, still, buffer_columns, buffer_line}

-- ---- what is still as it was

-- as the code asks it
pub all_still : (fill : ℕ) (l : List ℕ) → list_all (λ b. eqb b fill) l ≡ still fill l
unfolding still
all_still fill [] = refl
all_still fill (b ∷ l) = ap (λ (t : Bool). eqb b fill && t) (all_still fill l)

-- by the byte at a place: past the last one; one that is as it was filled; one that is not
pub still_none : (fill i : ℕ) (l : List ℕ) → length l ≤ i → true ≡ still fill (drop i l)
unfolding still
still_none fill i l past = sym (ap (still fill) (drop_of_length-le l past))

still_step : (fill i : ℕ) (l : List ℕ) → i < length l → still fill (drop i l) ≡ (eqb (get_or l i 0) fill && still fill (drop (i + 1) l))
unfolding still
still_step fill i l h = ap (still fill) (drop-cons l i 0 h ∙ ap (λ (k : ℕ). get_or l i 0 ∷ drop k l) (sym (add-one i)))

pub still_more : (fill i : ℕ) (l : List ℕ) → i < length l → get_or l i 0 ≡ fill → still fill (drop i l) ≡ still fill (drop (i + 1) l)
still_more fill i l h e = still_step fill i l h ∙ ap (λ (t : Bool). t && still fill (drop (i + 1) l)) (eq-eqb (get_or l i 0) fill e)

pub still_other : (fill i : ℕ) (l : List ℕ) → i < length l → (get_or l i 0 ≡ fill → ⊥) → false ≡ still fill (drop i l)
still_other fill i l h e = sym (still_step fill i l h ∙ ap (λ (t : Bool). t && still fill (drop (i + 1) l)) (ne_eqb (get_or l i 0) fill e))

-- the bytes that a reply leaves of a filled buffer are still as they were
still_filled : (fill n : ℕ) → still fill (replicate n fill) ≡ true
unfolding still
still_filled fill zero = refl
still_filled fill (suc n) = ap₂ ◌&&◌ (eq-eqb fill fill refl) (still_filled fill n)

drop_filled : (k n fill : ℕ) → drop k (replicate n fill) ≡ replicate (n - k) fill
drop_filled zero n fill = ap (λ (j : ℕ). replicate j fill) (sym (sub-zero n))
drop_filled (suc k) zero fill = let none : 0 - suc k ≡ 0 = omega arith in ap (λ (j : ℕ). replicate j fill) (sym none)
drop_filled (suc k) (suc n) fill = let less : suc n - suc k ≡ n - k = omega arith in drop_filled k n fill ∙ ap (λ (j : ℕ). replicate j fill) (sym less)

pub always_kept : (fill room : ℕ) (reply : List ℕ) → length reply ≤ room → still fill (drop (length reply) (splice 0 reply (replicate room fill))) ≡ true
unfolding splice
always_kept fill room reply fits =
    ap (still fill) (drop_at reply (drop (0 + length reply) (replicate room fill)) (length reply) refl ∙ ap (λ (k : ℕ). drop k (replicate room fill)) (zero-add (length reply)) ∙ drop_filled (length reply) room fill)
    ∙ still_filled fill (room - length reply)

-- ---- the column of the bytes

-- "`-` if there are none"
pub minus_put : (at n : ℕ) (bytes d : List ℕ) → n ≡ 0 → at + 1 < length d → Puts at (bytes_column minus (take n bytes)) d (set (set d at 32) (at + 1) 45) (at + 2)
minus_put at n bytes d e room = puts_as (puts_two at 32 45 d room) (sym (ap (λ (k : ℕ). bytes_column minus (take k bytes)) e))

pub length_some : (n : ℕ) (bytes : List ℕ) → n ≤ length bytes → length (bytes_column minus (take n bytes)) ≤ 3 + 2 * n
length_some n bytes fits =
    let long : length (take n bytes) ≡ n = rw length-take (omega arith) in
    omega (arith, length_bytes_column minus (take n bytes))

-- ---- the columns put together, each piece after the one before it; and the line
pub buffer_put : (code n fill : ℕ) (buffer : List ℕ) {a b used h m k bit : ℕ} {kept : Bool} {d₀ d₁ d₂ d₃ : List ℕ} → Puts used (a ∷ b ∷ columns (code ∷ n ∷ [])) d₀ d₁ h
    → Puts h (bytes_column minus (take n buffer)) d₁ d₂ m → Puts m (column bit) d₂ d₃ k → bit ≡ cond kept 1 0 → kept ≡ still fill (drop n buffer) → k ≤ length d₀
    → Puts used (buffer_columns (a ∷ b ∷ []) code n fill buffer) d₀ d₃ k
unfolding buffer_columns
buffer_put code n fill buffer {m = m} {k = k} {d₂ = d₂} {d₃ = d₃} start bytes last eb ek room =
    let last' : Puts m (column (cond (still fill (drop n buffer)) 1 0)) d₂ d₃ k = puts_as last (ap column (eb ∙ ap (λ (t : Bool). cond t 1 0) ek)) in
    puts_then (puts_then start bytes (omega (arith, bytes.end, last'.end))) last' (omega (arith, last'.end))

-- where they end: after two letters, three numbers of at most 21 bytes with their blanks, and the bytes
pub length_buffer : (a b code n fill : ℕ) (buffer : List ℕ) → n ≤ length buffer → length (buffer_columns (a ∷ b ∷ []) code n fill buffer) ≤ 68 + 2 * n
unfolding buffer_columns
length_buffer a b code n fill buffer fits =
    rw (length-append, length-append) (omega (arith, length_columns (code ∷ n ∷ []), length_some n buffer fits, length_column (cond (still fill (drop n buffer)) 1 0)))

pub buffer_short : (a b code n fill : ℕ) (buffer : List ℕ) {used k : ℕ} {before after : List ℕ} → Puts used (buffer_columns (a ∷ b ∷ []) code n fill buffer) before after k
    → n ≤ length buffer → k ≤ used + 68 + 2 * n
buffer_short a b code n fill buffer put fits = omega (arith, put.end, length_buffer a b code n fill buffer fits)

pub buffer_ends : (a b code n fill : ℕ) (buffer : List ℕ) {used k e : ℕ} {d₀ d₁ d₂ : List ℕ} → Puts used (buffer_columns (a ∷ b ∷ []) code n fill buffer) d₀ d₁ k
    → Puts k line_end d₁ d₂ e → k < length d₀ → PutsLine used (buffer_line (a ∷ b ∷ []) code n fill buffer) d₀ d₂ e
unfolding buffer_line
buffer_ends a b code n fill buffer start end room = record { puts = puts_then start end (omega arith); room = omega (arith, end.end) }

-- what the check looks for where the pieces are put
pub ruleset putting = (minus_put, length_some, length_columns, length_column, length_buffer)
