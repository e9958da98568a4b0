-- The laws of the records that call the host's library, passed on from other files. This is the one file of proofs/ that a crate above may cite (`tests/layers`).
-- Assumes nothing.

-- Of a buffer that was filled before a call, every byte that the call did not write is still the filling; where the columns that tell of it end, at the latest.
pub use Rattle.host_records.proofs.BufferLaws.{always_kept, buffer_short}
-- A call that writes a lent room and leaves the device serves its record by the line of what it wrote; what it wrote, by an equal answer.
pub use Rattle.host_records.proofs.HostLaws.{written_served, writes_as}
