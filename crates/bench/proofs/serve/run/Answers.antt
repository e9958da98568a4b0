-- `bench::serve::run` meets its contract: the first record, then the run of `serve`. Assumes nothing.
use mathlib.Core.Path.{◌≡◌}
use mathlib.Core.List.{List}
use Prim.Native.Nat.{ℕ, ◌-◌}
use native.Mathlib.Omega.{arith}
use lib.Dec.{eqb}
use lib.ListN.{length, take, drop}
use Rattle.protocol.specs.Records.{OneRecord}
use Rattle.protocol.specs.Runs.{reading}
use Rattle.protocol.proofs.Laws.{sized, local_front, one_record, with_used, length_taken}
use Rattle.protocol.specs.declared.formats.Format.TheVariants.{Bench}
use Rattle.protocol.specs.Formats.{fixed, head, size}
use Rattle.bench.specs.Calls.{bench}
use Rattle.bench.proofs.RecordLaws.{new_long}
use Rattle.bench.proofs.RunLaws.{at_start, run_unmade, run_refused, run_made}
use Rattle.bench.proofs.serve.run.Goals as goal
use Rattle.bench.proofs.serve.run.Goals.{After-past-rest}

-- the record found, which is one whole record
abbrev bytes_of : After-past-rest → List ℕ
bytes_of c = take (c.past-rest.result.at - c.next-found.result.stream.at) (drop c.next-found.result.stream.at c.next-found.new.input)

long : (c : After-past-rest) → length c.next-found.new.input ≡ 65536
long c = omega (arith, c.next-found.auto, c.requires.0)

found : (c : After-past-rest) → OneRecord (reading bench c.new-start.result.offset) (bytes_of c)
found c =
    let first = eqb c.new-start.result.offset 0 in
    one_record (reading bench c.new-start.result.offset) (local_front (fixed Bench first) (head Bench) (size Bench) (sized Bench first)) c.next-found.ensures c.if-found-eq0.false (long c) c.past-rest.ensures

pub returns-then-found-eq0 : goal.returns-then-found-eq0
returns-then-found-eq0 c =
    let told = c.stop.ensures in (
      omega (arith, told.room),
      run_unmade c.new-start.result c.next-found.result (at_start c.new-start.ensures) c.next-found.ensures c.if-found-eq0.true (omega (arith, c.next-found.auto, c.requires.0)) told,
    )

pub begin-begun-requires : goal.begin-begun-requires
begin-begun-requires c =
    let place = (goal.at.begin-begun-requires c).After-past-rest in
    (new_long c.new-start.result.offset (bytes_of place) (at_start c.new-start.ensures) (found place), omega arith)

pub returns-then-begun-ne0 : goal.returns-then-begun-ne0
returns-then-begun-ne0 c =
    let place = (goal.at.returns-then-begun-ne0 c).After-past-rest in
    let begun = c.begin-begun.ensures in (
      omega (arith, begun.line.room),
      run_refused c.new-start.result.offset (bytes_of place) c.begin-begun.result.code (at_start c.new-start.ensures) (found place) begun.number c.if-begun-ne0.true begun.line,
    )

pub returns : goal.returns
returns c =
    let place = (goal.at.returns c).After-past-rest in
    let begun = c.begin-begun in
    let next = c.next-found in
    let rest = c.past-rest in
    let taken = length_taken next.result.stream rest.result next.new.input next.ensures.same.fits next.ensures.inside (long place) rest.ensures in
    let start = at_start c.new-start.ensures in (
      c.serve.ensures.0,
      run_made c.new-start.result.offset (bytes_of place) begun.result.code start (found place) begun.ensures.number _ (with_used rest.result begun.result.used) next.new.input
          c.if-begun-ne0.false begun.ensures.next c.requires.3 (omega (arith, taken, rest.ensures.offset, next.ensures.same.place, start)) begun.ensures.line c.serve.ensures.1,
    )
