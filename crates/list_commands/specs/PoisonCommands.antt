-- The poison commands: the checks of an address, then the list layer's definitions (document 01, "Poison list"). "Sums are of whole numbers."
-- Assumes nothing.
use Rattle.std.specs.Prelude.{ℕ, ◌+◌, ◌/◌, ◌%◌, Bool, false, cond, List, ◌++◌, leb, ltb, eqb, length, take, replicate}
use Rattle.wire.specs.Wire.{le, field, splice}
use Rattle.poison.specs.State.{PoisonState}
use Rattle.poison.specs.Inject.{injects, adds, after_inject}
use Rattle.poison.specs.Clear.{after_clear}
use Rattle.poison.specs.Range.{sharing, records_bytes}
use Rattle.wire.specs.Returns.{success, invalid_input, invalid_address, inject_limit, need}
use Rattle.commands.specs.Numbers.{line_bytes, poison_records}
use Rattle.settings.specs.Reply.{Reply, replied, no_reply}

-- an address is a multiple of 64; its line
abbrev pub aligned : ℕ → Bool
aligned address = eqb (address % line_bytes) 0

abbrev pub line_of : ℕ → ℕ
line_of address = address / line_bytes

-- the checks of one line of a device: "unaligned 0002h; outside 000Fh"; 0 where there is nothing to refuse
unfoldable pub line_code : ℕ → ℕ → ℕ
line_code lines address = need (aligned address) invalid_input (need (ltb (line_of address) lines) invalid_address success)

-- the checks of a range: "unaligned 0002h; end past the device 000Fh"
unfoldable pub range_code : ℕ → ℕ → ℕ → ℕ
range_code lines address n = need (aligned address) invalid_input (need (leb (line_of address + n) lines) invalid_address success)

-- what a command that changes the list gives
pub record ListChange : Type 0 where
  pub code : ℕ
  pub list : PoisonState

-- 4301h, address 8: "unaligned 0002h; outside 000Fh; covered, Success and nothing changes; 256 held, 0010h; else a one-line entry of type 3"
unfoldable pub inject_poison : ℕ → PoisonState → List ℕ → ListChange
inject_poison lines s p =
    need (eqb (line_code lines (field p 0 8)) success) (record { code = line_code lines (field p 0 8); list = s })
    (need (injects s (line_of (field p 0 8))) (record { code = inject_limit; list = s })
    (record { code = success; list = after_inject s (line_of (field p 0 8)) }))

-- whether an Inject Poison adds an entry (document 02, W-204): its line passes the checks, is not covered, and there is room
unfoldable pub inject_adds : ℕ → PoisonState → List ℕ → Bool
inject_adds lines s p = need (eqb (line_code lines (field p 0 8)) success) false (adds s (line_of (field p 0 8)))

-- the record of the event that it then reports: "a record of 128 zero bytes with length 128 at byte 16, the address at bytes 48 to 55"
unfoldable pub injection_record : ℕ → List ℕ
injection_record address = splice 48 (le 8 address) (splice 16 (le 1 128) (replicate 128 0))

-- 4302h, address 8, data 64, at a device time: "unaligned 0002h; outside 000Fh; uncovered, Success. Else ..". The data is the caller's to write.
unfoldable pub clear_poison : ℕ → PoisonState → List ℕ → ℕ → ListChange
clear_poison lines s p time =
    need (eqb (line_code lines (field p 0 8)) success) (record { code = line_code lines (field p 0 8); list = s })
    (record { code = success; list = after_clear s (line_of (field p 0 8)) time })

-- flag bit 0: more than 126 entries share a line with the range; bit 1: overflow
unfoldable pub list_flags : Bool → ℕ → ℕ
list_flags overflow n = cond (ltb poison_records n) 1 0 + cond overflow 2 0

-- "flags 1, zero 1, overflow time 8, count 2, zero 20"; "The time is 0 with bit 1 clear."
unfoldable pub list_header : Bool → ℕ → ℕ → ℕ → List ℕ
list_header overflow time n count = le 1 (list_flags overflow n) ++ le 1 0 ++ le 8 (cond overflow time 0) ++ le 2 count ++ le 20 0

-- the reply for n lines from a on: "then up to 126 records of 16 .. each cut to the range. Every call starts afresh at the range's lowest entry"
unfoldable pub list_reply : PoisonState → ℕ → ℕ → List ℕ
list_reply s a n =
    list_header s.overflow s.overflow_time (length (sharing a n s.entries)) (length (take poison_records (sharing a n s.entries)))
    ++ records_bytes (take poison_records (sharing a n s.entries))

-- 4300h, address 8, lines 8
unfoldable pub get_poison_list : ℕ → PoisonState → List ℕ → Reply
get_poison_list lines s p =
    need (eqb (range_code lines (field p 0 8) (field p 8 8)) success) (no_reply (range_code lines (field p 0 8) (field p 8 8)))
    (replied (list_reply s (line_of (field p 0 8)) (field p 8 8)))
