-- The laws of crate `host_requests` that more than one proof cites, by subject. A crate above cites Laws alone.
pub mod RequestLaws
pub mod Taking
pub mod Passing
pub mod Laws
