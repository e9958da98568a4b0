-- The laws of crate `bench` that more than one proof cites, by subject, and trials of its definitions.
mod RecordLaws
mod LineLaws
mod CallLaws
mod RunLaws
mod Trials
mod Example
