-- The laws of crate `protocol` that more than one proof cites, by subject, and trials of its definitions. A program cites Laws alone.
pub mod Printing
pub mod StreamLaws
pub mod RecordLaws
pub mod FormatLaws
pub mod CallLaws
pub mod RunLaws
pub mod Printed
pub mod Laws
mod Trials
