-- What a call that writes to a lent room gives: by its two cases, refused or written; and said of the room: what was written lies in it. Assumes nothing.
use mathlib.Core.Path.{◌≡◌, sym, ap, ◌∙◌}
use mathlib.Core.List.{List}
use Prim.Native.Nat.{ℕ, ◌+◌, ◌≤◌}
use native.Mathlib.Omega.{arith}
use lib.ListN.{length, drop, length-append}
use Rattle.wire.specs.Wire.{splice}
use Rattle.wire.specs.declared.done.Done.{Done}
use Rattle.wire.specs.Done.{Written, Writes, written, refused}

-- ---- a call that writes to a room, by what it gives
module _ {before : List ℕ} where
  -- a refusal leaves the room
  pub refused_writes : {o : Written} {code : ℕ} → o ≡ refused code → Writes o (record { code = code; length = 0 }) before before
  unfolding splice
  refused_writes e =
      record {
        code = sym (ap (λ (x : Written). x.code) e);
        size = sym (ap (λ (x : Written). length x.bytes) e);
        bytes = sym (ap (λ (x : Written). splice 0 x.bytes before) e);
      }

  -- bytes written
  pub written_writes : {o : Written} {n : ℕ} {bytes after : List ℕ} → o ≡ written bytes → n ≡ length bytes → after ≡ splice 0 bytes before
      → Writes o (record { code = 0; length = n }) before after
  written_writes e l w =
      record {
        code = sym (ap (λ (x : Written). x.code) e);
        size = l ∙ sym (ap (λ (x : Written). length x.bytes) e);
        bytes = w ∙ sym (ap (λ (x : Written). splice 0 x.bytes before) e);
      }

-- ---- what was written lies in the room
pub written_fits : {o : Written} {r : Done} {before after : List ℕ} → Writes o r before after → length after ≡ length before → r.length ≤ length after
unfolding splice
written_fits {o} {before = before} {after = after} w kept =
    let all : length after ≡ length o.bytes + length (drop (0 + length o.bytes) before) = ap length w.bytes ∙ length-append o.bytes (drop (0 + length o.bytes) before) in
    omega (arith, w.size)
