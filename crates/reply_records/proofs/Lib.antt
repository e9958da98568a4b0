-- The laws of crate `reply_records` that more than one proof cites, by subject. No crate above needs any.
pub mod ReplyLaws
pub mod ReadLaws
