-- The definitions that the contracts of crate `settings` cite, by subject.
pub mod Reply
pub mod Vector
pub mod Clock
pub mod Media
pub mod Policy
pub mod Relations
