-- The laws of the host's requests, each with its sentence in words; their statements and proofs are in other files, and are passed on from here. This is the one file
-- of proofs/ that a crate above may cite (`tests/layers`). Assumes nothing.

-- A request built from its fields passes the checks before its command's own that are the same on every device, has the fields given, and its outcome on any device is the one meant on the device that the
-- call finds (document 02, W-207); so has what the code built, where it answers 0.
pub use Rattle.host_requests.proofs.Taking.{taken, built_taken}
-- W-205: a clear built with flags of 0 or 1 has nothing reserved set, and the device refuses it only for its log, for Clear All or for its handles; settings with modes 0 and 1 are made; both on the
-- device that the call finds.
pub use Rattle.host_requests.proofs.Passing.{built_unreserved, clear_passes, settings_pass}
-- The request for a range of lines has 16 bytes, and it is built where there is room for them.
pub use Rattle.host_requests.proofs.RequestLaws.{list_long, list_builds}
