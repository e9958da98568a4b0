-- `host_records::buffer::put_buffer` meets its contract: each piece follows the one before it. Assumes nothing.
use Rattle.std.proofs.Common.{arith}
use Rattle.host_records.proofs.BufferLaws.{buffer_put, putting}
use Rattle.host_records.proofs.buffer.put_buffer.Goals as goal

pub returns : goal.returns
returns c = buffer_put _ _ _ _ c.put_columns-head.ensures c.put_some-at.ensures c.put_number.ensures c.bit.ensures c.kept-others.ensures (grind (arith, putting))
