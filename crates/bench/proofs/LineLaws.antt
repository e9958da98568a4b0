-- The lines put together from their pieces, and how long a line can be. Assumes nothing.
use mathlib.Core.Path.{◌≡◌, sym, ap, ◌∙◌}
use mathlib.Core.Bool.{Bool, cond}
use mathlib.Core.List.{List, [], ◌∷◌, ◌++◌, append-nil, append_assoc}
use Prim.Native.Nat.{ℕ, ◌+◌, ◌≤◌}
use native.Mathlib.Omega.{arith}
use lib.ListN.{length, take, length-append}
use lib.Seq.{take_all}
use borrow.Author.Tests.{eq-eqb, ne_eqb}
use Rattle.protocol.specs.Text.{hex, bytes_column, columns, line_end, numbers_line}
use Rattle.protocol.specs.Records.{CM}
use Rattle.protocol.specs.Relations.{Puts, PutsLine}
use Rattle.protocol.proofs.Laws.{puts_then, puts_as, some_bytes, fits_room, length_columns, length_hex}
use Rattle.bench.specs.Lines.{command_line, told_line}

-- EV, MD and LT: the code alone, and all numbers
module _ (first second code : ℕ) (numbers : List ℕ) {used m : ℕ} {d₀ d₁ : List ℕ} (start : Puts used ((first ∷ second ∷ []) ++ columns (code ∷ [])) d₀ d₁ m)
    (room : used + 4200 ≤ length d₀) where
  -- where the code ends
  pub code_end : m ≤ used + 23
  code_end = omega (arith, start.end, length_columns (code ∷ []))

  pub told_refused : {e : ℕ} {d₂ : List ℕ} → Puts m line_end d₁ d₂ e → (code ≡ 0 → ⊥) → PutsLine used (told_line (first ∷ second ∷ []) code numbers) d₀ d₂ e
  unfolding told_line
  told_refused last refusal =
      record {
        puts = puts_as (puts_then start last (omega (arith, code_end))) (ap (λ (t : Bool). numbers_line (first ∷ second ∷ []) (code ∷ cond t numbers [])) (sym (ne_eqb code 0 refusal)));
        room = omega (arith, last.end, code_end);
      }

  pub told_all : {k e : ℕ} {d₂ d₃ : List ℕ} → Puts m (columns numbers) d₁ d₂ k → Puts k line_end d₂ d₃ e → length numbers ≤ 2 → code ≡ 0
      → PutsLine used (told_line (first ∷ second ∷ []) code numbers) d₀ d₃ e
  unfolding told_line columns
  told_all each last few success =
      let all : ((first ∷ second ∷ []) ++ columns (code ∷ [])) ++ columns numbers ≡ (first ∷ second ∷ []) ++ columns (code ∷ numbers) = simp append_assoc in
      record {
        puts =
            puts_as (puts_then (puts_then start each (omega (arith, code_end, length_columns numbers))) last (omega (arith, each.end, length_columns numbers, code_end)))
            (ap (λ (l : List ℕ). l ++ line_end) all ∙ ap (λ (t : Bool). numbers_line (first ∷ second ∷ []) (code ∷ cond t numbers [])) (sym (eq-eqb code 0 success)));
        room = omega (arith, last.end, each.end, length_columns numbers, code_end);
      }

-- no line is longer than 4,200 bytes
pub length_command_line : (code : ℕ) (reply : List ℕ) → length reply ≤ 2048 → length (command_line code reply) ≤ 4200
unfolding command_line
length_command_line code [] few = simp length-append (omega (arith, length_columns (code ∷ 0 ∷ [])))
length_command_line code (b ∷ bs) few = simp length-append (omega (arith, length_columns (code ∷ length (b ∷ bs) ∷ []), length_hex (b ∷ bs)))

module _ (code : ℕ) (reply : List ℕ) {used m : ℕ} {d₀ d₁ : List ℕ} (start : Puts used (CM ++ columns (code ∷ length reply ∷ [])) d₀ d₁ m) (few : length reply ≤ 2048)
    (room : used + 4200 ≤ length d₀) where
  -- where the columns end, and where the bytes end
  pub columns_end : m ≤ used + 44
  columns_end = omega (arith, start.end, length_columns (code ∷ length reply ∷ []))

  all_bytes : {k : ℕ} {d₂ : List ℕ} → Puts m (32 ∷ hex (take (length reply) reply)) d₁ d₂ k → Puts m (32 ∷ hex reply) d₁ d₂ k
  all_bytes bytes = puts_as bytes (ap (λ (l : List ℕ). 32 ∷ hex l) (take_all (length reply) reply (omega arith)))

  pub bytes_end : {k : ℕ} {d₂ : List ℕ} → Puts m (32 ∷ hex (take (length reply) reply)) d₁ d₂ k → k ≤ used + 4141
  bytes_end bytes = omega (arith, (all_bytes bytes).end, length_hex reply, columns_end)

  pub command_empty : {e : ℕ} {d₂ : List ℕ} → Puts m line_end d₁ d₂ e → length reply ≡ 0 → PutsLine used (command_line code reply) d₀ d₂ e
  unfolding command_line
  command_empty last none =
      fits_room 4200 (puts_as (puts_then start last (omega (arith, columns_end))) (go reply none)) (length_command_line code reply few) room
    where
      go : (reply : List ℕ) → length reply ≡ 0
          → (CM ++ columns (code ∷ length reply ∷ [])) ++ line_end ≡ ((CM ++ columns (code ∷ length reply ∷ [])) ++ bytes_column [] reply) ++ line_end
      go [] none = ap (λ (l : List ℕ). l ++ line_end) (sym (append-nil (CM ++ columns (code ∷ 0 ∷ []))))
      go (b ∷ bs) none = absurd (omega arith)

  pub command_told : {k e : ℕ} {d₂ d₃ : List ℕ} → Puts m (32 ∷ hex (take (length reply) reply)) d₁ d₂ k → Puts k line_end d₂ d₃ e → (length reply ≡ 0 → ⊥)
      → PutsLine used (command_line code reply) d₀ d₃ e
  unfolding command_line
  command_told bytes last some =
      fits_room 4200
      (puts_as (puts_then (puts_then start bytes (omega (arith, bytes.end, bytes_end bytes))) last (omega (arith, bytes_end bytes)))
      (ap (λ (l : List ℕ). ((CM ++ columns (code ∷ length reply ∷ [])) ++ l) ++ line_end) (some_bytes [] (length reply) reply (omega arith) some ∙ ap (bytes_column []) (take_all (length reply) reply (omega arith)))))
      (length_command_line code reply few) room
