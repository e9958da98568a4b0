-- The laws of what the programs have in common, each with its sentence in words; their statements and proofs are in other files, and are passed on from here.
-- This is the one file of proofs/ that a program may cite (`tests/layers`). Assumes nothing.

-- Text is put piece by piece: one piece after another, the same text by another name; a column has at most 21 bytes, bytes in hexadecimal two digits each, in a column of their own;
-- a line that is no longer than the room made for it lies in the buffer.
pub use Rattle.protocol.proofs.Printing.{puts_nothing, puts_two, puts_then, puts_as, puts_line_as, length_column, length_columns, length_hex, some_bytes, length_bytes_column, fits_room}
-- A reading that gives a size looks at no byte past it, and so a record found is one whole record; it has its mark.
pub use Rattle.protocol.proofs.RecordLaws.{local_front, one_record, mark_there, unread_fits}
-- The sizes of either format make such a reading. A first record found is a make; a record found has the fields of its mark; no later record of `bench` has
-- another mark than its four; a record found of `probe` has its mark and its fields, with its rooms and lengths within their limits; no opcode but the twelve has a
-- request.
pub use Rattle.protocol.proofs.FormatLaws.{sized, first_make, new_there, fields_there, bench_marks, ready, request_none}
-- The turns of a loop are steps of a run: a record served, the end, an offset that no input reaches; and what was printed before a run.
pub use Rattle.protocol.proofs.RunLaws.{with_used, turn_served, turn_ends, run_far, text_after, length_taken}
-- Before a loop: nothing found is no record, for good; how many bytes are left.
pub use Rattle.protocol.proofs.RunLaws.{no_record}
pub use Rattle.protocol.proofs.StreamLaws.{length_left}
-- A command, the label area after it and an event report at equal arguments; what comes after a record's fixed part; the reply lies in its buffer; a record served, by another name.
pub use Rattle.protocol.proofs.CallLaws.{command_at, area_at, event_at, rest_of, reply_fits, serves_as}
-- What a program prints for some bytes of input, as a function that computes.
unfoldable pub use Rattle.protocol.proofs.Printed.{printed}
