-- Laws of the checks of an address: a line is a range of one line, and the order of two checks. What holds where they refuse nothing. Assumes nothing.
use mathlib.Core.Path.{◌≡◌, refl, sym, ap, ◌∙◌}
use mathlib.Core.Bool.{Bool, true, false}
use Prim.Native.Nat.{ℕ, ◌+◌, ◌≤◌, ◌<◌}
use native.Mathlib.Numerals.{add-one}
use native.Mathlib.Omega.{arith}
use lib.Dec.{eqb, leb}
use borrow.Author.Tests.{leb-true}
use Rattle.poison.specs.State.{capacity}
use Rattle.wire.specs.Returns.{invalid_input, invalid_address, need}
use Rattle.list_commands.specs.PoisonCommands.{aligned, line_of, line_code, range_code}
use Rattle.wire.proofs.Laws.{need_zero}

-- two checks one after the other
in_order : (t : Bool) (second : ℕ) → need (eqb (need t invalid_input 0) 0) (need t invalid_input 0) second ≡ need t invalid_input second
in_order true second = refl
in_order false second = refl

pub range_checks : (lines address n first second : ℕ) → first ≡ need (aligned address) invalid_input 0
    → second ≡ need (leb (line_of address + n) lines) invalid_address 0 → need (eqb first 0) first second ≡ range_code lines address n
unfolding range_code
range_checks lines address n first second e f = rw (e, f) (in_order (aligned address) _)

-- one line is a range of one line
pub line_range : (lines address : ℕ) → range_code lines address 1 ≡ line_code lines address
unfolding range_code line_code
line_range lines address = ap (λ (x : ℕ). need (aligned address) invalid_input (need (leb x lines) invalid_address 0)) (add-one (line_of address))

-- where nothing is refused, the range ends on the device, and the line is one of the device
pub range_ends : (lines address n : ℕ) → range_code lines address n ≡ 0 → line_of address + n ≤ lines
unfolding range_code
range_ends lines address n e =
    let past = need_zero (aligned address) invalid_input _ (omega arith) e in
    leb-true _ _ (need_zero (leb (line_of address + n) lines) invalid_address 0 (omega arith) past.1).0

pub line_inside : (lines address : ℕ) → line_code lines address ≡ 0 → line_of address < lines
line_inside lines address e = let h = range_ends lines address 1 (line_range lines address ∙ e) in omega arith

-- so that on a device of not too many lines, where the checks answered 0, it is one of the largest device, and a number of 32 bits
pub line_low : {lines code : ℕ} (address : ℕ) → lines ≤ capacity → code ≡ line_code lines address → code ≡ 0 → line_of address < capacity
line_low {lines} address few h z = let k = line_inside lines address (sym h ∙ z) in omega arith

pub range_low : {lines code : ℕ} (address n : ℕ) → lines ≤ capacity → code ≡ range_code lines address n → code ≡ 0 → line_of address + n ≤ capacity
range_low {lines} address n few h z = let k = range_ends lines address n (sym h ∙ z) in omega arith
