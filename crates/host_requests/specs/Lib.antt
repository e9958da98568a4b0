-- The definitions that the contracts of crate `host_requests` cite, by subject: requests and what they mean.
pub mod Requests
pub mod Meant
