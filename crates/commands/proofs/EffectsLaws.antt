-- The Command Effects Log by its bytes, and Get Supported Logs put together from its fields. Assumes nothing.
use mathlib.Core.Path.{◌≡◌, refl}
use mathlib.Core.List.{List, [], ◌∷◌}
use Prim.Native.Nat.{ℕ, ◌≤◌}
use native.Mathlib.Omega.{arith}
use lib.ListN.{length}
use Rattle.wire.specs.Wire.{le, part, splice}
use Rattle.commands.specs.declared.mailboxes.Mailbox.{Mailbox}
use Rattle.commands.specs.declared.mailboxes.Mailbox.TheVariants.{First, Pool}
use Rattle.commands.specs.Commands.{commands, rows_of}
use Rattle.commands.specs.EffectsLog.{effects_log, effects_size, effects_log_id, get_supported_logs}
use Rattle.settings.proofs.Laws.{field_more}

-- the bytes of the source's tables
abbrev pub effects_bytes : List ℕ
effects_bytes =
    0 ∷ 1 ∷ 0 ∷ 0 ∷ 1 ∷ 1 ∷ 16 ∷ 0 ∷ 2 ∷ 1 ∷ 0 ∷ 0 ∷ 3 ∷ 1 ∷ 2 ∷ 0 ∷ 0 ∷ 3 ∷ 0 ∷ 0 ∷ 1 ∷ 3 ∷ 8 ∷ 0 ∷ 0 ∷ 4 ∷ 0 ∷ 0 ∷ 1 ∷ 4 ∷ 0 ∷ 0 ∷ 0 ∷ 64 ∷ 0 ∷ 0 ∷ 2 ∷ 65 ∷ 0 ∷ 0 ∷ 3 ∷ 65 ∷ 6 ∷ 0 ∷ 0 ∷ 67 ∷ 0 ∷ 0 ∷ 1 ∷ 67 ∷ 0 ∷ 0 ∷ 2 ∷ 67 ∷ 0 ∷ 0 ∷ 0 ∷ 68 ∷ 100 ∷ 0 ∷ []

abbrev pub id_bytes : List ℕ
id_bytes = 13 ∷ 169 ∷ 192 ∷ 181 ∷ 191 ∷ 65 ∷ 75 ∷ 120 ∷ 143 ∷ 121 ∷ 150 ∷ 177 ∷ 98 ∷ 59 ∷ 63 ∷ 23 ∷ []

abbrev pub pool_bytes : List ℕ
pool_bytes =
    0 ∷ 1 ∷ 0 ∷ 0 ∷ 2 ∷ 1 ∷ 0 ∷ 0 ∷ 0 ∷ 3 ∷ 0 ∷ 0 ∷ 0 ∷ 4 ∷ 0 ∷ 0 ∷ 1 ∷ 4 ∷ 0 ∷ 0 ∷ 0 ∷ 64 ∷ 0 ∷ 0 ∷ 0 ∷ 67 ∷ 0 ∷ 0 ∷ []

-- The Command Effects Log of each mailbox, computed from the table of commands, has these bytes.
pub effects_are : effects_bytes ≡ effects_log First
unfolding effects_log commands rows_of le
effects_are = refl

pub pool_effects_are : pool_bytes ≡ effects_log Pool
unfolding effects_log commands rows_of le
pool_effects_are = refl

-- They have 60 bytes and 28 (document 02, W-208: seven commands).
pub effects_sizes : (effects_size First ≡ 60) × (effects_size Pool ≡ 28)
unfolding effects_log commands rows_of le
effects_sizes = (refl, refl)

-- ---- Get Supported Logs
pub supported_written : (m : Mailbox) (size : ℕ) (xs : List ℕ) → size ≡ effects_size m → 28 ≤ length xs
    → splice 24 (le 4 size) (splice 8 (part 0 16 id_bytes) (splice 2 (le 6 0) (splice 0 (le 2 1) xs))) ≡ splice 0 (get_supported_logs m).bytes xs
unfolding get_supported_logs effects_log_id part le
supported_written m size xs e h =
    rw e
    (field_more 24 _ (le 4 (effects_size m)) xs _ refl (omega arith)
    (field_more 8 _ id_bytes xs _ refl (omega arith)
    (field_more 2 (le 2 1) (le 6 0) xs _ refl (omega arith) refl)))

pub supported_length : (m : Mailbox) → 28 ≡ length (get_supported_logs m).bytes
unfolding get_supported_logs effects_log_id le
supported_length m = refl
