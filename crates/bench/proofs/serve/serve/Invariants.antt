-- `bench::serve::serve` meets its contract. The invariant: the buffers and the label area keep their lengths, the device is valid, the stream's places lie in the
-- buffers, and where the program is now is a run away from where it began. The measure is what is left of the offsets. Assumes nothing.
use mathlib.Core.Path.{◌≡◌}
use Prim.Native.Nat.{◌-◌, ◌<◌}
use lib.ListN.{length}
use Rattle.mailbox.specs.State.{ValidDevice}
use Rattle.protocol.specs.Stream.{Fits}
use Rattle.protocol.specs.Runs.{machine_of, Steps}
use Rattle.bench.specs.Calls.{bench}
use Rattle.bench.specs.Relations.{kept_of}
use Rattle.bench.proofs.serve.serve.Given as goal

abbrev pub invariant-loop-s : goal.invariant-loop-s
invariant-loop-s l =
    record {
      input : length l.input ≡ 65536;
      out : length l.out ≡ 65536;
      reply : length l.reply ≡ 2048;
      area : length l.area ≡ length l.initial.area;
      valid : ValidDevice l.device;
      fits : Fits l.s;
      later : 0 < l.s.offset;
      came : Steps bench (machine_of (kept_of l.initial.device l.initial.area) l.initial.s l.initial.input l.initial.out) (machine_of (kept_of l.device l.area) l.s l.input l.out);
    }

abbrev pub decreases-loop-s : goal.decreases-loop-s
decreases-loop-s l = 9223372036854775808 - l.s.offset
