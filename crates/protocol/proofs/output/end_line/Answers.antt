-- `protocol::output::end_line` meets its contract: one byte. Assumes nothing.
use Rattle.protocol.proofs.Printing.{puts_one}
use Rattle.protocol.proofs.output.end_line.Goals as goal

pub returns : goal.returns
returns c =
    puts_one _ 10 _ c.requires
