-- The laws of crate `host_replies` that more than one proof cites, by subject. A crate above cites Laws alone.
pub mod CountedLaws
pub mod ReplyLaws
pub mod WritingLaws
pub mod Bytes
pub mod Accepted
pub mod Rewriting
pub mod Rereading
pub mod RecordsRead
pub mod RecordsRewritten
pub mod DeviceReplies
pub mod AnswersRead
pub mod PlainDevices
pub mod Laws
