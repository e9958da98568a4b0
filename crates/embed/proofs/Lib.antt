-- The laws of crate `embed`.
pub mod Steps
pub mod Indexed
pub mod Lending
pub mod Parts
pub mod LentArrays
pub mod LineLaws
pub mod Header
