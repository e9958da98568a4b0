-- Lemmas by subject; the proof of a function stands in the folder of its name. A crate above cites Laws alone.
pub mod Cases
pub mod Ranges
pub mod Examples
pub mod Laws
