-- `probe::label_records::put_stored` meets its contract: each piece follows the one before it, and there is room for all. Assumes nothing.
use Prim.Native.Nat.{ℕ, ◌<◌}
use native.Mathlib.Omega.{arith}
use lib.ListN.{length, length-take, length-drop}
use Rattle.wire.specs.Wire.{part}
use Rattle.protocol.specs.Text.{columns}
use Rattle.protocol.proofs.Laws.{puts_then, length_bytes_column, rest_of}
use Rattle.probe.proofs.label_records.put_stored.Goals as goal
use Rattle.probe.proofs.label_records.put_stored.Goals.{After-put_some-end}

-- where the bytes end, at the latest
ended : (c : After-put_some-end) → c.put_some-end.result < length c.args.out.now
unfolding columns
ended c = omega (arith, length_bytes_column, length-take {A = ℕ})

pub put_some-end-requires : goal.put_some-end-requires
unfolding columns
put_some-end-requires c = (simp (length-take, length-drop) (omega arith), omega (arith, c.put_columns-start.ensures.end))

pub end_line-requires : goal.end_line-requires
end_line-requires c = omega (arith, ended (goal.at.end_line-requires c).After-put_some-end)

pub returns : goal.returns
unfolding columns part
returns c =
    let before : c.put_some-end.result < length c.args.out.now = ended (goal.at.returns c).After-put_some-end in
    let some = rw rest_of at c.put_some-end.ensures in
    let text = puts_then (puts_then c.put_columns-start.ensures some (omega (arith, c.put_some-end.ensures.end))) c.end_line.ensures (omega arith) in
    rw (← c.get-offset.ensures.value, ← c.get-length.ensures.value) (record { puts = text; room = omega arith })
