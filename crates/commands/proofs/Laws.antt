-- The laws of the commands over parts, each with its sentence in words; their statements and proofs are in other files, and are passed on from here. This is the one file
-- of proofs/ that a crate above may cite (`tests/layers`). Assumes nothing.

-- The checks before a command's own: which of two numbers is given, and what holds where none is: the area's size, room for every reply, a payload of a length that the command takes. Past the
-- first checks, at an opcode that is known, the length decides.
pub use Rattle.commands.proofs.AdmissionLaws.{admission_first, admission_area, admission_at, admitted_area, admitted_room, admitted_fits, four_five, room_for}
-- Of either mailbox (document 02, W-208): what each check gives, and what holds where none refuses. The first's, where its area has 4,096 bytes, are these.
pub use Rattle.commands.proofs.AdmissionLaws.{checked_room, checked_long, checked_unknown, checked_both, checked_first, checked_fits_room, checked_has, checked_takes, admission_sized}
-- The same with media disabled or not (document 02, W-207): which of the two numbers is given; what holds where none is; a command that media disabled allows is refused by the others alone; none gives 0001h.
pub use Rattle.commands.proofs.AdmissionLaws.{first_code_by, first_zero, first_refused, first_admitted, first_allowed, first_not_started, first_area, first_sized}
-- What holds of the opcode of each row holds of every opcode that the rows know. W-208: what the pool manager's mailbox has the device has, media disabled allows it, and the checks before its own are those of the first mailbox.
pub use Rattle.commands.proofs.Rows.{Each, known_one, pool_known, pool_allowed, pool_checked}
-- W-208: the effects logs of the two mailboxes have 60 bytes and 28.
pub use Rattle.commands.proofs.EffectsLaws.{effects_sizes}
