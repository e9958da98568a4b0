-- The laws of crate `settings` that more than one proof cites, by subject. A crate above cites Laws alone.
pub mod Replies
pub mod PolicyLaws
pub mod MediaLaws
pub mod VectorLaws
pub mod Laws
