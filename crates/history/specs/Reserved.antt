-- Examples of W-205 (document 02) by number: one table of what the definitions give and what the document says, on a device of one unit. Assumes nothing.
use Rattle.std.specs.Prelude.{ℕ, ◌+◌, List, [], ◌∷◌, ◌++◌, map, set, replicate}
use Rattle.labels.specs.Labels.{zero_area}
use Rattle.mailbox.specs.State.{DeviceState}
use Rattle.mailbox.specs.Mailbox.{outcome}
use Rattle.history.specs.Calls.{after}
use Rattle.history.specs.Cases.{new_unit, send, events, handles_of, Case, case}
use Rattle.history.specs.Interrupts.{policy_set, enabled_unit}

-- ---- Clear Event Records
-- a payload: log, flags, three reserved bytes, and the handles as they lie in it, two bytes each; the count is given
abbrev pub clearing : (log flags count : ℕ) → (reserved handles : List ℕ) → List ℕ
clearing log flags count reserved handles = log ∷ flags ∷ count ∷ reserved ++ handles

-- of log 0, the handle of the oldest record of a log that was never cleared, with these flags; and with flags 0 and these reserved bytes
abbrev pub with_flags : ℕ → List ℕ
with_flags flags = clearing 0 flags 1 (replicate 3 0) (1 ∷ 0 ∷ [])

abbrev pub with_reserved : List ℕ → List ℕ
with_reserved reserved = clearing 0 0 1 reserved (1 ∷ 0 ∷ [])

-- of log 0, Clear All, with these other flags
abbrev pub all_and : ℕ → List ℕ
all_and others = clearing 0 (1 + others) 0 (replicate 3 0) []

-- flag bits 1 to 7, each alone
abbrev pub other_bits : List ℕ
other_bits = 2 ∷ 4 ∷ 8 ∷ 16 ∷ 32 ∷ 64 ∷ 128 ∷ []

-- two events held; eight, and a ninth turned away
abbrev pub two_held : DeviceState
two_held = after new_unit (events 2)

abbrev pub overflown : DeviceState
overflown = after new_unit (events 9)

-- the number of a Clear Event Records, and the handles that log 0 holds after it
abbrev pub clear_number : DeviceState → List ℕ → ℕ
clear_number d p = (outcome d 0x0101 p 0 zero_area 2048).code

abbrev pub handles_after : DeviceState → List ℕ → List ℕ
handles_after d p = handles_of (after d (send 0x0101 p ∷ []))

-- ---- Set Event Interrupt Policy
-- n bytes of zero but for the one at a place; its modes 0 to 3
abbrev pub byte_at : (n place byte : ℕ) → List ℕ
byte_at n place byte = set (replicate n 0) place byte

abbrev pub set_number : List ℕ → ℕ
set_number p = (outcome new_unit 0x0103 p 0 zero_area 2048).code

abbrev pub modes_at : (n place : ℕ) → List ℕ
modes_at n place = map (λ (mode : ℕ). set_number (byte_at n place mode)) (0 ∷ 1 ∷ 2 ∷ 3 ∷ [])

-- ---- the table
unfoldable pub reserved_cases : List Case
reserved_cases =
    -- handle 1 of two held, nothing reserved set: Success, and it goes
    case (clear_number two_held (with_flags 0) ∷ handles_after two_held (with_flags 0)) (0 ∷ 2 ∷ [])
    -- "a flag bit 1 to 7 set": each, 0002h, and nothing goes; all of them
    ∷ case (map (λ (f : ℕ). clear_number two_held (with_flags f)) other_bits) (replicate 7 2)
    ∷ case (clear_number two_held (with_flags 0xfe) ∷ handles_after two_held (with_flags 0xfe)) (2 ∷ 1 ∷ 2 ∷ [])
    -- the same beside bit 0, Clear All, after an overflow: alone it is Success
    ∷ case (map (λ (f : ℕ). clear_number overflown (all_and f)) (0 ∷ other_bits)) (0 ∷ replicate 7 2)
    ∷ case (handles_after overflown (all_and 0)) []
    ∷ case (handles_after overflown (all_and 0xfe)) (1 ∷ 2 ∷ 3 ∷ 4 ∷ 5 ∷ 6 ∷ 7 ∷ 8 ∷ [])
    -- "or a reserved byte not zero": each of the three, by its lowest and by its highest bit
    ∷ case (map (λ (r : List ℕ). clear_number two_held (with_reserved r)) ((1 ∷ 0 ∷ 0 ∷ []) ∷ (0 ∷ 1 ∷ 0 ∷ []) ∷ (0 ∷ 0 ∷ 1 ∷ []) ∷ [])) (replicate 3 2)
    ∷ case (map (λ (r : List ℕ). clear_number two_held (with_reserved r)) ((0x80 ∷ 0 ∷ 0 ∷ []) ∷ (0 ∷ 0x80 ∷ 0 ∷ []) ∷ (0 ∷ 0 ∷ 0x80 ∷ []) ∷ [])) (replicate 3 2)
    -- "directly after its last length check": before it the length, 0016h, a byte too many or too few
    ∷ case (clear_number two_held (with_flags 0xff ++ (0 ∷ [])) ∷ clear_number two_held (clearing 0 2 2 (replicate 3 1) (1 ∷ 0 ∷ 2 ∷ [])) ∷ []) (0x16 ∷ 0x16 ∷ [])
    -- after it the handles: handle 9, which is 000Eh, and with a flag bit or a reserved byte 0002h; the log, 5; Clear All without overflow
    ∷ case
    (clear_number two_held (clearing 0 0 1 (replicate 3 0) (9 ∷ 0 ∷ []))
    ∷ clear_number two_held (clearing 0 2 1 (replicate 3 0) (9 ∷ 0 ∷ []))
    ∷ clear_number two_held (clearing 0 0 1 (0 ∷ 0 ∷ 1 ∷ []) (9 ∷ 0 ∷ []))
    ∷ clear_number two_held (clearing 5 2 1 (1 ∷ 1 ∷ 1 ∷ []) (9 ∷ 0 ∷ []))
    ∷ clear_number two_held (all_and 2)
    ∷ []) (0xe ∷ 2 ∷ 2 ∷ 2 ∷ 2 ∷ [])
    -- "a low-two-bits mode of 2 or 3": each mode in each byte, of five and of four
    ∷ case (modes_at 5 0 ++ modes_at 5 1 ++ modes_at 5 2 ++ modes_at 5 3 ++ modes_at 5 4) (0 ∷ 0 ∷ 2 ∷ 2 ∷ 0 ∷ 0 ∷ 2 ∷ 2 ∷ 0 ∷ 0 ∷ 2 ∷ 2 ∷ 0 ∷ 0 ∷ 2 ∷ 2 ∷ 0 ∷ 0 ∷ 2 ∷ 2 ∷ [])
    ∷ case (modes_at 4 0 ++ modes_at 4 1 ++ modes_at 4 2 ++ modes_at 4 3) (0 ∷ 0 ∷ 2 ∷ 2 ∷ 0 ∷ 0 ∷ 2 ∷ 2 ∷ 0 ∷ 0 ∷ 2 ∷ 2 ∷ 0 ∷ 0 ∷ 2 ∷ 2 ∷ [])
    -- bits 2 to 7 are free, and change no setting
    ∷ case (policy_set new_unit (0xfd ∷ 0xfc ∷ 5 ∷ 4 ∷ 0x81 ∷ [])).policy (0x21 ∷ 0 ∷ 0x41 ∷ 0 ∷ 1 ∷ [])
    -- a refused Set changes no setting, not those of the bytes before the mode either
    ∷ case (policy_set enabled_unit (0 ∷ 0 ∷ 0 ∷ 0 ∷ 2 ∷ [])).policy (0x21 ∷ 0x31 ∷ 0x41 ∷ 0x51 ∷ 1 ∷ [])
    ∷ case (policy_set enabled_unit (0 ∷ 0 ∷ 0 ∷ 3 ∷ [])).policy (0x21 ∷ 0x31 ∷ 0x41 ∷ 0x51 ∷ 1 ∷ [])
    -- "directly after its last length check": three bytes and six are 0016h
    ∷ case (set_number (replicate 3 2) ∷ set_number (replicate 6 2) ∷ []) (0x16 ∷ 0x16 ∷ [])
    ∷ []
