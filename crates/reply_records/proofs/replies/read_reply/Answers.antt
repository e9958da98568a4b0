-- `reply_records::replies::read_reply` meets its contract. Assumes nothing.
use mathlib.Core.Path.{ap}
use native.Mathlib.Omega.{arith}
use lib.ListN.{length, length-drop}
use Rattle.protocol.proofs.Laws.{rest_of}
use Rattle.reply_records.specs.HostReplies.{serve_reply}
use Rattle.reply_records.proofs.ReadLaws.{reply_served}
use Rattle.reply_records.proofs.replies.read_reply.Goals as goal

pub put_reply-end-requires : goal.put_reply-end-requires
put_reply-end-requires c =
    let bytes = c.args.bytes.now in
    (c.requires.3, omega (arith, ap length (rest_of 10 bytes), length-drop 10 bytes, c.requires.1, c.requires.2))

pub returns : goal.returns
unfolding serve_reply
returns c =
    let bytes = c.args.bytes.now in
    reply_served bytes c.args.device c.put_reply-end.ensures c.get-opcode.ensures.value c.get-asked.ensures.value (rest_of 10 bytes) c.requires.0
