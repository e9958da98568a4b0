-- The definitions that the contracts of crate `bench` cite, by subject; those that it shares with `probe` are in `protocol`.
pub mod Lines
pub mod Calls
pub mod Runs
pub mod Relations
