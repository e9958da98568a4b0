-- The laws of crate `wire` that more than one proof cites, by subject, and examples.
pub mod DoneLaws
pub mod Laws
pub mod Word
pub mod Splice
pub mod Examples
