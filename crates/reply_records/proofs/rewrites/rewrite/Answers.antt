-- `reply_records::rewrites::rewrite` meets its contract: each opcode's reply is read and written again. Assumes nothing.
use lib.ListN.{length}
use Rattle.reply_records.specs.HostRewrites.{written_again}
use Rattle.reply_records.proofs.ReplyLaws.{by_opcode}
use Rattle.reply_records.proofs.rewrites.rewrite.Goals as goal

pub returns-in-1025 : goal.returns-in-1025
unfolding written_again
returns-in-1025 c =
    let a = c.args in by_opcode 0x0401 a.asked a.bytes.now (length a.room.now) c.in-1025.is c.log.ensures
