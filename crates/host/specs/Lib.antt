-- The definitions that the contracts of crate `host` cite, by subject: the walk over entries, and as a call on a device.
pub mod Walk
pub mod Walking
