-- `reply_records::replies::put_records` meets its contract. The invariant: the first i records are put. The measure is what is left of them. Assumes nothing.
use mathlib.Core.Path.{◌≡◌}
use Prim.Native.Nat.{◌+◌, ◌*◌, ◌≤◌}
use lib.ListN.{length}
use Rattle.protocol.specs.Relations.{Puts}
use Rattle.reply_records.specs.HostReplies.{each_of, record_columns, record_room}
use Rattle.reply_records.proofs.replies.put_records.Given as goal

abbrev pub invariant-loop-i : goal.invariant-loop-i
invariant-loop-i l = (length l.out ≡ length l.initial.out) × Puts l.at (each_of (record_columns l.kind l.records) l.i) l.initial.out l.out l.to × (l.to ≤ l.at + record_room l.kind * l.i)
