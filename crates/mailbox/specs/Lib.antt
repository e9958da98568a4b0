-- The definitions that the contracts of crate `mailbox` cite, by subject.
pub mod State
pub mod Ending
pub mod LineStatus
pub mod Outcome
pub mod EventCommands
pub mod Telling
pub mod Pool
pub mod DeviceCalls
pub mod Mailbox
pub mod Relations
pub mod ByParts
pub mod InPlace
