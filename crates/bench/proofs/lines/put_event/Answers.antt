-- `bench::lines::put_event` meets its contract: 1 is printed for stored, and 0 for not. Assumes nothing.
use mathlib.Core.Path.{ap}
use mathlib.Core.List.{[], ◌∷◌}
use Prim.Native.Nat.{ℕ}
use Rattle.protocol.specs.Records.{EV}
use Rattle.protocol.proofs.Laws.{puts_line_as}
use Rattle.bench.specs.Lines.{told_line}
use Rattle.bench.proofs.lines.put_event.Goals as goal

pub returns : goal.returns
returns c =
    puts_line_as c.put_told.ensures (ap (λ (n : ℕ). told_line EV c.args.code (n ∷ [])) c.bit.ensures)
