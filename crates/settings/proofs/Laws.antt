-- The laws of replies, of the interrupt policy and of the vectors, each with its sentence in words; their statements and proofs are in other files, and are passed on from here. This is the one file
-- of proofs/ that a crate above may cite (`tests/layers`). Assumes nothing.

-- A refusal replies nothing and leaves the buffer, and a reply that is written from the buffer's start is that reply; a reply of several fields is put together field by field.
pub use Rattle.settings.proofs.Replies.{no_bytes, bytes_written, field_before, field_more}
-- Set Event Interrupt Policy by its modes: with known ones it makes the settings, else it leaves them; a refusal leaves them. The modes of all bytes are known exactly where that of each is; five
-- settings are five after it.
pub use Rattle.settings.proofs.PolicyLaws.{set_known, set_unknown, refused_set_changes_nothing, mode_known, modes_known, five_settings}
-- None is the case of number 0; the case of a number has that number, and is none where the number is 0. A record that is not a log's first raises none.
pub use Rattle.settings.proofs.VectorLaws.{carries_none, numbered_none, carries_numbered, carries_equal, raised_later}
