-- The laws of crate `commands` that more than one proof cites, by subject. A crate above cites Laws alone.
pub mod AdmissionLaws
pub mod Rows
pub mod EffectsLaws
pub mod IdentityLaws
pub mod Laws
