-- The laws of the poison commands, each with its sentence in words; their statements and proofs are in other files, and are passed on from here. This is the one file
-- of proofs/ that a crate above may cite (`tests/layers`). Assumes nothing.

-- An address that the checks of a line do not refuse is that of a line of the device; a range that they do not refuse ends on the device.
pub use Rattle.list_commands.proofs.Addresses.{line_inside, range_ends}
-- The poison commands by their cases: Inject Poison refused, with room, and with 256 entries; whether it adds an entry, and that it is then answered Success.
pub use Rattle.list_commands.proofs.ListAnswers.{inject_refused, inject_taken, inject_full, taken_adds, refused_adds, adding_code}
-- A device of at most the most units has no more lines than the largest, and its list is valid on them and there.
pub use Rattle.list_commands.proofs.ListAnswers.{device_lines, device_slots, device_list, device_any}
