-- `bench::serve::call_event` meets its contract: the fields read are those of the record's bytes. Assumes nothing.
use mathlib.Core.Path.{refl}
use Rattle.wire.specs.Wire.{part}
use Rattle.protocol.proofs.Laws.{event_at}
use Rattle.bench.proofs.serve.call_event.Goals as goal

pub returns : goal.returns
unfolding part
returns c =
    event_at c.event_report.ensures c.get-time.ensures.value refl refl
