-- The label store of the program, what of it is lent with a command, and the records `AR` and `AB` (document 10, "Records that a request brings", W-206). A field
-- stands after the two bytes of the mark. Assumes nothing.
use Rattle.std.specs.Prelude.{ℕ, List, [], ◌++◌, take, drop, replicate}
use Rattle.wire.specs.Wire.{field, part}
use Rattle.mailbox.specs.State.{DeviceState}
use Rattle.protocol.specs.Text.{bytes_column, line_end, numbers_line}
use Rattle.protocol.specs.Records.{AR, AB}
use Rattle.protocol.specs.Runs.{Printed}
use Rattle.host_records.specs.Lines.{minus}

-- what a record leaves to the next: the device, the label store, and how many bytes of the store are lent
pub record Kept : Type 0 where
  pub device : DeviceState
  pub store : List ℕ
  pub lent : ℕ

-- "a store of 8,192 bytes, zero at first"
abbrev pub zeros : List ℕ
zeros = replicate 8192 0

-- "Before any `AR` 4,096 are lent"
abbrev pub kept_first : DeviceState → Kept
kept_first d = record { device = d; store = zeros; lent = 4096 }

-- the label area lent with a command: "the first ones of a store"
abbrev pub area_lent : Kept → List ℕ
area_lent k = take k.lent k.store

-- the store whose first bytes were lent and came back as these: "kept whatever is lent of it"
abbrev pub store_with : Kept → List ℕ → List ℕ
store_with k area = area ++ drop k.lent k.store

-- a record that sees the device alone: its line as it is and the device that it leaves. "A make leaves the label store, the size lent .. as they are", as any other does
abbrev pub keeps_store : Kept → Printed DeviceState → Printed Kept
keeps_store k o = record { line = o.line; next = record { device = o.next; store = k.store; lent = k.lent } }

-- `AR` "size 4": "from now on the label area lent has that many bytes"
unfoldable pub serve_area : Kept → List ℕ → Printed Kept
serve_area k r = record { line = numbers_line AR []; next = record { device = k.device; store = k.store; lent = field r 2 4 } }

-- `AB bytes`, of "offset 2, length 2": "those bytes of the store"
abbrev pub bytes_line : List ℕ → List ℕ → List ℕ
bytes_line r store = (AB ++ bytes_column minus (part (field r 2 2) (field r 4 2) store)) ++ line_end

unfoldable pub serve_bytes : Kept → List ℕ → Printed Kept
serve_bytes k r = record { line = bytes_line r k.store; next = k }
