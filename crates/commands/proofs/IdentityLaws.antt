-- Identify's reply put together from its fields. Assumes nothing.
use mathlib.Core.Path.{◌≡◌, refl}
use mathlib.Core.List.{List, [], ◌∷◌}
use Prim.Native.Nat.{ℕ, ◌+◌, ◌≤◌}
use native.Mathlib.Omega.{arith}
use lib.ListN.{length}
use Rattle.wire.specs.Wire.{le, part, splice}
use Rattle.commands.specs.Identity.{version, limits, identify}
use Rattle.settings.proofs.Laws.{field_more}

-- the bytes of the source's tables
abbrev pub version_bytes : List ℕ
version_bytes = 66 ∷ 87 ∷ 70 ∷ 87 ∷ 32 ∷ 86 ∷ 69 ∷ 82 ∷ 83 ∷ 73 ∷ 79 ∷ 78 ∷ 32 ∷ 48 ∷ 0 ∷ 0 ∷ []

abbrev pub limit_bytes : List ℕ
limit_bytes = 0 ∷ 0 ∷ 0 ∷ 0 ∷ 0 ∷ 0 ∷ 0 ∷ 0 ∷ 8 ∷ 0 ∷ 8 ∷ 0 ∷ 8 ∷ 0 ∷ 8 ∷ 0 ∷ 0 ∷ 16 ∷ 0 ∷ 0 ∷ 0 ∷ 1 ∷ 0 ∷ 0 ∷ 0 ∷ 0 ∷ 0 ∷ 8 ∷ 0 ∷ []

pub identity_written : (v p : ℕ) (xs : List ℕ) → 69 ≤ length xs
    → splice 40 (part 0 29 limit_bytes) (splice 32 (le 8 p) (splice 24 (le 8 v) (splice 16 (le 8 (v + p)) (splice 0 (part 0 16 version_bytes) xs))))
    ≡ splice 0 (identify v p).bytes xs
unfolding identify version limits part le
identity_written v p xs h =
    field_more 40 _ limit_bytes xs _ refl (omega arith)
    (field_more 32 _ (le 8 p) xs _ refl (omega arith)
    (field_more 24 _ (le 8 v) xs _ refl (omega arith)
    (field_more 16 version_bytes (le 8 (v + p)) xs _ refl (omega arith) refl)))

pub identity_length : (v p : ℕ) → 69 ≡ length (identify v p).bytes
unfolding identify version limits le
identity_length v p = refl
