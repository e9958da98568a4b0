-- The laws of crate `host` that more than one proof cites, by subject. A crate above cites Laws alone.
pub mod WalkLaws
pub mod WalkLines
pub mod WalkRecords
pub mod WalkReplies
pub mod Halvings
pub mod WalkCalls
pub mod WalkTheorems
pub mod WalkCounts
pub mod WalkExamples
pub mod Laws
