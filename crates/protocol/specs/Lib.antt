-- The definitions that the contracts of crate `protocol` and of the programs cite, by subject.
pub mod Text
pub mod Stream
pub mod Records
pub mod HostFormats
pub mod Formats
pub mod Calls
pub mod Runs
pub mod Relations
