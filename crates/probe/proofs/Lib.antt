-- The laws of crate `probe` that more than one proof cites, by subject, and trials of its definitions.
mod CallLaws
mod RunLaws
mod Example
