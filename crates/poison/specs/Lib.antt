-- The definitions that the contracts of crate `poison` cite, by subject.
pub mod Runs
pub mod Shift
pub mod State
pub mod Moved
pub mod Search
pub mod Report
pub mod Stretch
pub mod Inject
pub mod Clear
pub mod LineTest
pub mod Range
pub mod Paper
pub mod Injected
