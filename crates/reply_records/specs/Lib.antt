-- The definitions that the contracts of crate `reply_records` cite: the records RP and RW.
pub mod HostReplies
pub mod HostRewrites
