-- The laws of the walk of the host's library, each with its sentence in words; their statements and proofs are in other files, and are passed on from here. This is
-- the one file of proofs/ that a crate above may cite (`tests/layers`). Assumes nothing.

-- Its rule without a depth; the records that a reader finds in the room after a walk that is taken list the range, each covered line once, with its type, no
-- other line, ascending; a refused walk leaves the room.
pub use Rattle.host.proofs.WalkLaws.{walk_step}
pub use Rattle.host.proofs.WalkTheorems.{room_read, room_lists, room_kept}
-- 0100h exactly where the records need more than the room; a refused range gives the device's number.
pub use Rattle.host.proofs.WalkTheorems.{small_where, small_only, device_number}
-- The step of the walk, on the device's reply, is the walk's own halving.
pub use Rattle.host.proofs.WalkReplies.{half_of_reply}
-- A walk of any device gives no more than 5,120 bytes, however large the room is, and halves at most 26 times.
pub use Rattle.host.proofs.WalkCounts.{walk_few, walk_enough, walk_size, walk_deep}
