-- Text put into a buffer piece by piece: one byte, a number, bytes in hexadecimal, and one piece after another. Assumes nothing.
use mathlib.Core.Path.{◌≡◌, refl, sym, ap, ap₂, ◌∙◌}
use mathlib.Core.Bool.{Bool, true, false, cond}
use mathlib.Core.List.{List, [], ◌∷◌, ◌++◌, append-nil, append_assoc}
use Prim.Native.Nat.{ℕ, zero, suc, ◌+◌, ◌*◌, ◌/◌, ◌%◌, ◌^◌, ◌≤◌, ◌<◌}
use native.Mathlib.Nat.{add-zero}
use native.Mathlib.Numerals.{add-one}
use native.Mathlib.Omega.{arith}
use lib.Dec.{ltb}
use borrow.Rule.Slice.PartMut.{put_mid}
use lib.ListN.{length, take, drop, get_or, set, length-append, length-take}
use lib.Seq.{take_all, take-suc}
use borrow.Author.Tests.{lt-ltb, le-ltb, eq-eqb, ne_eqb}
use Rattle.std.proofs.lemmas.Slice.{put_mid-paste}
use Rattle.std.specs.Fmt.{decimal as printed_decimal}
use Rattle.std.proofs.lemmas.Fmt.{AppendsLastDigit, decimal_from_appends, length-decimal-le}
use Rattle.wire.specs.Wire.{part, splice}
use Rattle.wire.proofs.Laws.{stores, joined}
use Rattle.protocol.specs.Text.{numeral, decimal, column, bytes_column, columns, hex, hex_digit, bad_line, last_line}
use Rattle.protocol.specs.Relations.{Puts, PutsLine}

-- nothing put
pub puts_nothing : (at : ℕ) (d : List ℕ) → at ≤ length d → Puts at [] d d at
puts_nothing at d h = record { bytes = stores at [] d (omega arith); end = sym (add-zero at) }

-- one byte stored
pub puts_one : (at b : ℕ) (d : List ℕ) → at < length d → Puts at (b ∷ []) d (set d at b) (at + 1)
puts_one at b d h = record { bytes = stores at (b ∷ []) d (omega arith); end = refl }

-- two bytes stored: the letters of a mark
pub puts_two : (at a b : ℕ) (d : List ℕ) → at + 1 < length d → Puts at (a ∷ b ∷ []) d (set (set d at a) (at + 1) b) (at + 2)
puts_two at a b d h = record { bytes = ap (λ (j : ℕ). set (set d at a) j b) (add-one at) ∙ stores at (a ∷ b ∷ []) d (omega arith); end = refl }

-- bytes copied over as many
pub puts_copied : (at k : ℕ) {m : ℕ} {text d now : List ℕ} → now ≡ text → k ≡ length text → m ≡ at + length text → Puts at text d (put_mid at k d now) m
unfolding splice
puts_copied at k {text = text} {d = d} {now = now} e f end =
    record {
      bytes =
          put_mid-paste at k d now text k e refl f ∙ ap₂ (λ (l : List ℕ) (n : ℕ). take at d ++ l ++ drop (at + n) d) (take_all k text (omega arith)) f;
      end = end;
    }

-- one piece after another
pub puts_then : {at m e : ℕ} {a b before between after : List ℕ} → Puts at a before between m → Puts m b between after e → m + length b ≤ length before
    → Puts at (a ++ b) before after e
puts_then {at} {m} {e} {a} {b} {before} {between} {after} p q room =
    record {
      bytes = q.bytes ∙ ap (splice m b) p.bytes ∙ joined at m a b before p.end room;
      end = rw length-append (omega (arith, p.end, q.end));
    }

-- the same text by another name
pub puts_as : {at r : ℕ} {a b before after : List ℕ} → Puts at a before after r → a ≡ b → Puts at b before after r
puts_as {at} {r} {a} {b} {before} {after} p e = record { bytes = p.bytes ∙ ap (λ (l : List ℕ). splice at l before) e; end = p.end ∙ ap (λ (l : List ℕ). at + length l) e }

-- the digits that `itoa` makes, which are those that std prints, are the number's
numeral_appends : AppendsLastDigit numeral
unfolding numeral
numeral_appends = record { one = λ k n h. rw (lt-ltb n 10 h) refl; more = λ k n h. rw (le-ltb n 10 h) refl }

pub decimal_printed : (n : ℕ) → n < 2 ^ 64 → decimal n ≡ printed_decimal n
decimal_printed n small = decimal_from_appends numeral numeral_appends 20 n small (length-decimal-le 20 n (omega arith) (omega arith) small)

-- a number has no more digits than it may have
pub length_numeral : (k n : ℕ) → length (numeral k n) ≤ k
unfolding numeral
length_numeral zero n = omega arith
length_numeral (suc k) n = either (ltb n 10) (length_numeral k (n / 10))
  where
    either : (t : Bool) → length (numeral k (n / 10)) ≤ k → length (cond t ((48 + n) ∷ []) (numeral k (n / 10) ++ ((48 + n % 10) ∷ []))) ≤ suc k
    either true h = omega arith
    either false h = rw length-append (omega arith)

pub length_column : (n : ℕ) → length (column n) ≤ 21
length_column n = omega (arith, length_numeral 20 n)

-- a blank, then the digits of a number
pub puts_number : (at n : ℕ) (ds out after : List ℕ) → at + 21 ≤ length out → ds ≡ decimal n → after ≡ splice (at + 1) (part 0 (length ds) ds) (set out at 32)
    → Puts at (column n) out after (at + 1 + length ds)
unfolding part
puts_number at n ds out after room made e =
    let given : part 0 (length ds) ds ≡ decimal n = take_all (length ds) ds (omega arith) ∙ made in
    let rest : Puts (at + 1) (decimal n) (set out at 32) after (at + 1 + length ds) =
    record { bytes = e ∙ ap (λ (l : List ℕ). splice (at + 1) l (set out at 32)) given; end = ap (λ (l : List ℕ). at + 1 + length l) made } in
    puts_then (puts_one at 32 out (omega arith)) rest (omega (arith, length_numeral 20 n))

-- two digits a byte
pub length_hex : (bs : List ℕ) → length (hex bs) ≡ 2 * length bs
unfolding hex
length_hex [] = refl
length_hex (b ∷ bs) = omega (arith, length_hex bs)

-- one byte more
pub hex_more : (bs : List ℕ) (i : ℕ) → i < length bs → hex (take (i + 1) bs) ≡ hex (take i bs) ++ (hex_digit (get_or bs i 0 / 16) ∷ hex_digit (get_or bs i 0 % 16) ∷ [])
unfolding hex
hex_more bs i h = ap (λ (k : ℕ). hex (take k bs)) (add-one i) ∙ ap hex (take-suc bs i 0 h) ∙ split (take i bs) (get_or bs i 0)
  where
    split : (l : List ℕ) (b : ℕ) → hex (l ++ (b ∷ [])) ≡ hex l ++ (hex_digit (b / 16) ∷ hex_digit (b % 16) ∷ [])
    split [] b = refl
    split (a ∷ l) b = ap (λ (x : List ℕ). hex_digit (a / 16) ∷ hex_digit (a % 16) ∷ x) (split l b)

-- a line that is no longer than the room made for it lies in the buffer
pub fits_room : (room : ℕ) {at r : ℕ} {text before after : List ℕ} → Puts at text before after r → length text ≤ room → at + room ≤ length before → PutsLine at text before after r
fits_room room put short wide = record { puts = put; room = omega (arith, put.end) }

-- the same line by another name
pub puts_line_as : {at r : ℕ} {a b before after : List ℕ} → PutsLine at a before after r → a ≡ b → PutsLine at b before after r
puts_line_as p e = record { puts = puts_as p.puts e; room = p.room }

-- where no record is served: nothing at the end of the input, and otherwise BAD
pub stops_quietly : (left offset at : ℕ) (d : List ℕ) → left ≡ 0 → at ≤ length d → PutsLine at (last_line left offset) d d at
unfolding last_line
stops_quietly left offset at d e room = record { puts = puts_as (puts_nothing at d room) (sym (rw (eq-eqb left 0 e))); room = room }

pub stops : (left offset : ℕ) {at r : ℕ} {before after : List ℕ} → (left ≡ 0 → ⊥) → Puts at (bad_line offset) before after r → at + 25 ≤ length before
    → PutsLine at (last_line left offset) before after r
unfolding last_line bad_line
stops left offset some put room =
    record {
      puts = puts_as put (sym (rw (ne_eqb left 0 some)));
      room = omega (arith, simp length-append at put.end, length_column offset);
    }

-- one column more
pub columns_more : (ns : List ℕ) (i : ℕ) → i < length ns → columns (take (i + 1) ns) ≡ columns (take i ns) ++ column (get_or ns i 0)
unfolding columns
columns_more ns i h = ap (λ (k : ℕ). columns (take k ns)) (add-one i) ∙ ap columns (take-suc ns i 0 h) ∙ split (take i ns) (get_or ns i 0)
  where
    split : (l : List ℕ) (n : ℕ) → columns (l ++ (n ∷ [])) ≡ columns l ++ column n
    split [] n = append-nil (column n)
    split (m ∷ l) n = ap (λ (x : List ℕ). column m ++ x) (split l n) ∙ sym (append_assoc (column m) (columns l) (column n))

pub length_columns : (ns : List ℕ) → length (columns ns) ≤ 21 * length ns
unfolding columns
length_columns [] = omega arith
length_columns (n ∷ ns) = rw length-append (omega (arith, length_column n, length_columns ns))

-- a column of some bytes, and how long it is at most
some_column : (none l : List ℕ) → 0 < length l → 32 ∷ hex l ≡ bytes_column none l
some_column none [] some = absurd (omega arith)
some_column none (b ∷ bs) some = refl

pub some_bytes : (none : List ℕ) (n : ℕ) (l : List ℕ) → n ≤ length l → (n ≡ 0 → ⊥) → 32 ∷ hex (take n l) ≡ bytes_column none (take n l)
some_bytes none n l fits some =
    let long : length (take n l) ≡ n = rw length-take (omega arith) in
    some_column none (take n l) (omega (arith, long))

pub length_bytes_column : (none l : List ℕ) → length (bytes_column none l) ≤ length none + 1 + 2 * length l
length_bytes_column none [] = omega arith
length_bytes_column none (b ∷ bs) = omega (arith, length_hex (b ∷ bs))
