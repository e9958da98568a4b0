-- What a whole record has by its mark, and what the column `kept` of a command's line says of any command. Assumes nothing.
use mathlib.Core.Path.{◌≡◌, ap₂, ◌∙◌}
use mathlib.Core.Bool.{true}
use mathlib.Core.List.{List}
use Prim.Native.Nat.{ℕ, ◌≤◌}
use native.Mathlib.Omega.{arith}
use lib.ListN.{length, drop, get_or, length-replicate}
use Rattle.wire.specs.Wire.{field}
use Rattle.mailbox.specs.declared.device.Device.{Device}
use Rattle.mailbox.specs.declared.device.Answer.{Answer}
use Rattle.mailbox.specs.State.{state_of}
use Rattle.mailbox.specs.Ending.{AfterEnding}
use Rattle.mailbox.specs.Relations.{Answered}
use Rattle.protocol.specs.Records.{mark_of}
use Rattle.protocol.specs.Formats.{probe_least, Ready}
use Rattle.protocol.proofs.Laws.{reply_fits}
use Rattle.host_records.specs.Lines.{still}
use Rattle.host_records.proofs.Laws.{always_kept}
use Rattle.probe.specs.PoolRecords.{filled}
use Rattle.probe.specs.Calls.{command_call}

-- a whole record has the fields of its mark
pub long : {r : List ℕ} {m k : ℕ} → Ready r → m ≡ mark_of r → m ≡ k → probe_least k ≤ length r
long ready told key = rw (← key, told) ready.fields

-- whatever a command answers, the bytes that its reply leaves of the buffer are still as they were filled: the column `kept` of every CM line is 1
pub command_kept : (bytes area after : List ℕ) {d : Device} {a : Answer}
    → AfterEnding d (field bytes 2 8) (λ (f : Device). Answered (command_call (state_of d) area bytes) f a (filled bytes) after) → length after ≡ length (filled bytes)
    → still (get_or bytes 14 0) (drop a.length after) ≡ true
command_kept bytes area after {d} call kept =
    let told = call.done in
    ap₂ (λ (n : ℕ) (b : List ℕ). still (get_or bytes 14 0) (drop n b)) told.size told.bytes
    ∙ always_kept (get_or bytes 14 0) (field bytes 12 2) (command_call (state_of d) area bytes).reply
    (omega (arith, told.size, reply_fits told kept, kept, length-replicate (field bytes 12 2) (get_or bytes 14 0)))
