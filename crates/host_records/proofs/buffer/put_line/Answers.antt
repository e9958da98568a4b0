-- `host_records::buffer::put_line` meets its contract: the line's end stands after the columns. Assumes nothing.
use Rattle.std.proofs.Common.{arith}
use Rattle.host_records.proofs.BufferLaws.{length_buffer, buffer_ends}
use Rattle.host_records.proofs.buffer.put_line.Goals as goal

pub returns : goal.returns
returns c = buffer_ends _ _ _ _ _ _ c.put_buffer-end.ensures c.end_line.ensures (grind (arith, length_buffer))
