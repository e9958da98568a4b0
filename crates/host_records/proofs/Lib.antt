-- The laws of crate `host_records` that more than one proof cites, by subject. A crate above cites Laws alone.
pub mod BufferLaws
pub mod HostLaws
pub mod Laws
