-- The definitions that the contracts of crate `probe` cite, by subject; those that it shares with `bench` are in `protocol`, those of the records that call the host library in
-- `host_records` and `reply_records`.
pub mod LabelRecords
pub mod PoolRecords
pub mod Calls
pub mod Relations
