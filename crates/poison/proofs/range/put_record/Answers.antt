-- `range::put_record` meets its contract: the address and the type are packed, and three stores are one record (Records).
-- Assumes nothing.
use borrow.Author.Rules.{rules}
use Rattle.poison.proofs.Records.{packed, record_stored}
use Rattle.poison.proofs.range.put_record.Goals as goal

pub returns : goal.returns
returns c =
    let e = c.args.e in
    let a = rw (c.from.ensures, c.from-2.ensures) at c.put.ensures in
    let b = rw c.from-3.ensures at c.put-2.ensures in
    record_stored c.args.at e.start e.lines e.kind _ c.args.d.now _ _ _ (packed e.start e.kind (search rules) (search rules)) (search rules) a b c.put-3.ensures
