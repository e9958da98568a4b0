-- The definitions that the contracts and theorems of crate `host_replies` cite, by subject: replies with a count, all replies, their fields, and the device's own.
pub mod Refusal
pub mod Counted
pub mod Replies
pub mod Fields
pub mod DeviceReplies
