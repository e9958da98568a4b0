-- The definitions that the contracts of crate `commands` cite, by subject.
pub mod Numbers
pub mod Commands
pub mod EffectsLog
pub mod Identity
