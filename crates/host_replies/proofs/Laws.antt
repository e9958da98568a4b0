-- The laws of the host's replies, each with its sentence in words; their statements and proofs are in other files, and are passed on from here. This is the one file
-- of proofs/ that a crate above may cite (`tests/layers`). Assumes nothing.

-- The fields that a reading of a reply with a count gives come with its header, and with as many records as their count says.
pub use Rattle.host_replies.proofs.Accepted.{events_whole, logs_whole, list_whole}
-- A reply that is read with code 0 and written again is the same bytes, in every room that they fit,
pub use Rattle.host_replies.proofs.Rewriting.{events_rewritten, policy_rewritten, time_rewritten, logs_rewritten, log_rewritten, identity_rewritten, list_rewritten, nothing_rewritten}
-- and so are the bytes of one record, from what is read of it.
pub use Rattle.host_replies.proofs.RecordsRewritten.{supported_log_rewritten, poison_record_rewritten}
-- A reply that is written from fields of their widths, with code 0, reads as those fields, with the same records past its header,
pub use Rattle.host_replies.proofs.Rereading.{events_reread, policy_reread, time_reread, logs_reread, log_reread, identity_reread, list_reread, nothing_reread}
-- and record i of some records is the i-th of them.
pub use Rattle.host_replies.proofs.RecordsRead.{event_record_read, supported_log_read, poison_record_read}
-- Every reply that the device gives on Success, to any opcode, is accepted by the reading of that opcode's reply, where the device's numbers have their widths (`Plain`);
pub use Rattle.host_replies.proofs.AnswersRead.{accepted, pool_accepted}
-- it reads as what the device's definitions say, of the logs those of the device that the command finds (document 02, W-207).
pub use Rattle.host_replies.proofs.AnswersRead.{events_told, policy_told, time_told, logs_told, log_told, identity_told, list_told}
-- A new device's numbers have their widths, and on a device whose numbers have them so have those of the device that a call finds; entries in a chain on the largest device, each of a type of three bits, can be records.
pub use Rattle.host_replies.proofs.PlainDevices.{plain_new, plain_ended, recordable}
-- What the exit of a `?` returns.
pub use Rattle.host_replies.proofs.ReplyLaws.{passed_on}
