-- The definitions that the theorems over lists of calls speak of.
pub mod Calls
pub mod Refusals
pub mod Paper
pub mod Demand3
pub mod Damage
pub mod Ran
pub mod Drain
pub mod Builds
pub mod Cases
pub mod Interrupts
pub mod Reserved
pub mod Labels
pub mod Sanitizing
pub mod Silence
