-- What a command that reads gives, a number and its reply: "Every non-zero number returns reply length 0" (document 01, "Return numbers"). They are wire's, of any call that writes to a lent room. Assumes nothing.
pub use Rattle.wire.specs.Done.{Written as Reply, written as replied, refused as no_reply}
