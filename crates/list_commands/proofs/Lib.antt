-- The laws of crate `list_commands` that more than one proof cites, by subject. A crate above cites Laws alone.
pub mod Headers
pub mod Addresses
pub mod ListAnswers
pub mod Laws
