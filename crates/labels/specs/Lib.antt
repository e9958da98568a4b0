-- The definitions that the contracts of crate `labels` cite.
pub mod Labels
