-- The definitions that the contracts of crate `host_records` cite, by subject: the line of a call that writes a buffer, and the records RQ and WK.
pub mod Lines
pub mod HostWalks
pub mod HostRequests
