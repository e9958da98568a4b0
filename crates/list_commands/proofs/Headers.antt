-- The header of Get Poison List's reply: its flags from two bits, and its 32 bytes put together from its fields. Assumes nothing.
use mathlib.Core.Path.{◌≡◌, refl}
use mathlib.Core.Bool.{Bool, true, false, cond}
use mathlib.Core.List.{List}
use Prim.Native.Nat.{ℕ, ◌+◌, ◌*◌, ◌%◌, ◌≤◌}
use native.Mathlib.Omega.{arith}
use lib.Bits.{bit_or}
use lib.Dec.{ltb}
use mir.Val.{bool_byte}
use lib.ListN.{length}
use Rattle.wire.specs.Wire.{le, splice}
use Rattle.commands.specs.Numbers.{poison_records}
use Rattle.list_commands.specs.PoisonCommands.{list_flags, list_header}
use Rattle.settings.proofs.Laws.{field_more}

-- the flags from the two bits
bits : (more overflow : Bool) → bit_or (bool_byte more) (bool_byte overflow * 2 % 256) ≡ cond more 1 0 + cond overflow 2 0
bits true true = refl
bits true false = refl
bits false true = refl
bits false false = refl

pub flags_of : (overflow : Bool) (n : ℕ) → bit_or (bool_byte (ltb poison_records n)) (bool_byte overflow * 2 % 256) ≡ list_flags overflow n
unfolding list_flags
flags_of overflow n = bits (ltb poison_records n) overflow

pub header_written : (overflow : Bool) (time n count : ℕ) (xs : List ℕ) → 32 ≤ length xs
    → splice 12 (le 20 0) (splice 10 (le 2 count) (splice 2 (le 8 (cond overflow time 0)) (splice 1 (le 1 0) (splice 0 (le 1 (list_flags overflow n)) xs))))
    ≡ splice 0 (list_header overflow time n count) xs
unfolding list_header le
header_written overflow time n count xs h =
    field_more 12 _ (le 20 0) xs _ refl (omega arith)
    (field_more 10 _ (le 2 count) xs _ refl (omega arith)
    (field_more 2 _ (le 8 (cond overflow time 0)) xs _ refl (omega arith)
    (field_more 1 (le 1 (list_flags overflow n)) (le 1 0) xs _ refl (omega arith) refl)))

pub header_length : (overflow : Bool) (time n count : ℕ) → length (list_header overflow time n count) ≡ 32
unfolding list_header le
header_length overflow time n count = refl
