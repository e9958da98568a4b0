-- The answers of a device's line test (document 01, "Poison list"; document 02, W-207): document 01's number and the type for each case, and which case an answer of the poison list is. Assumes nothing.
use Rattle.std.specs.Prelude.{ℕ}
use Rattle.poison.specs.declared.line_test.LineTest.{LineTest}
use Rattle.poison.specs.declared.line_test.LineTest.TheVariants as List
use Rattle.mailbox.specs.declared.line_status.LineStatus.{LineStatus}
use Rattle.mailbox.specs.declared.line_status.LineStatus.TheVariants.{Clean, Damaged, Unknown, Disabled}

-- "Damaged 1 with the type if covered; else, with type 0, Unknown 2 if the flag is set; else Clean 0"; "While disabled the line test answers Disabled, 3"
abbrev pub status_number : LineStatus → ℕ
status_number Clean = 0
status_number (Damaged kind) = 1
status_number Unknown = 2
status_number Disabled = 3

abbrev pub status_type : LineStatus → ℕ
status_type Clean = 0
status_type (Damaged kind) = kind
status_type Unknown = 0
status_type Disabled = 0

-- the list's answer as the device's
abbrev pub status_of : LineTest → LineStatus
status_of List.Clean = Clean
status_of (List.Damaged kind) = Damaged kind
status_of List.Unknown = Unknown
