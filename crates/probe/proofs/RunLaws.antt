-- The run from the start of the input: the device before the first record is a new one of one volatile unit, which no record sees; the label store is zeros, of which
-- 4,096 are lent. Assumes nothing.
use mathlib.Core.Path.{◌≡◌, refl, subst, ◌∙◌}
use mathlib.Core.List.{List}
use Prim.Native.Nat.{ℕ}
use Rattle.mailbox.specs.declared.device.Made.{Made}
use Rattle.mailbox.specs.State.{DeviceState}
use Rattle.mailbox.specs.DeviceCalls.{make, new_device}
use Rattle.mailbox.specs.Relations.{Makes}
use Rattle.protocol.specs.declared.stream.Stream.{Stream}
use Rattle.protocol.specs.Stream.{unread}
use Rattle.protocol.specs.declared.formats.Format.TheVariants.{Probe}
use Rattle.protocol.specs.Records.{OneRecord}
use Rattle.protocol.proofs.Laws.{first_make}
use Rattle.protocol.specs.Runs.{Machine, machine_of, reading, Ends}
use Rattle.probe.specs.LabelRecords.{Kept, zeros, kept_first}
use Rattle.probe.specs.Calls.{serve_device, serve_record, probe}
use Rattle.probe.specs.Relations.{kept_of}

-- what the first record gives does not depend on the device before it
pub device_before_unseen : (d d' : DeviceState) (store : List ℕ) (lent : ℕ) (r : List ℕ) → OneRecord (reading probe 0) r
    → serve_record (record { device = d; store = store; lent = lent }) r ≡ serve_record (record { device = d'; store = store; lent = lent }) r
unfolding serve_record serve_device
device_before_unseen d d' store lent r this = let new = first_make Probe r this in rw new

one_unit : (make 1 0).next ≡ new_device 1 0
unfolding make
one_unit = refl

pub run_from : (input out : List ℕ) {m : Made} {s : Stream} {store : List ℕ} {r : ℕ} {out' : List ℕ} → Makes (make 1 0) m → s ≡ unread → store ≡ zeros
    → Ends probe (machine_of (kept_of m.device store 4096) s input out) r out' → Ends probe (machine_of (kept_first (new_device 1 0)) unread input out) r out'
run_from input out {m} {s} {store} {r} {out'} made new clear ends =
    subst (λ (x : Machine Kept). Ends probe x r out')
    (λ i. machine_of (record { device = (made.next ∙ one_unit) i; store = clear i; lent = 4096 }) (new i) input out) ends
