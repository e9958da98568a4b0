-- `PoisonList::cover` meets its contract: if the run at the last start has not the line, none has (Places). Assumes nothing.
use mathlib.Core.Logic.{inl}
use native.Mathlib.Omega.{arith}
use borrow.Author.Rules.{rules}
use Rattle.poison.proofs.Places.{ascending, cover_empty, cover_none, finds_tested}
use Rattle.poison.proofs.list.PoisonList.cover.Goals as goal

pub returns-then-self-eq0 : goal.returns-then-self-eq0
returns-then-self-eq0 c =
    let l = c.args.self.now in
    cover_empty l.count l.starts l.lengths c.args.line c.if-self-eq0.true

pub last_start-at-requires : goal.last_start-at-requires
last_start-at-requires c =
    let l = c.args.self.now in
    ascending l.count l.starts l.lengths c.requires

pub returns-in_err-ahead : goal.returns-in_err-ahead
returns-in_err-ahead c =
    let l = c.args.self.now in
    rw c.from_residual.ensures
    (cover_none l.count l.starts l.lengths c.requires c.args.line c.last_start-at.result c.last_start-at.ensures (search rules) (inl (omega (arith, c.in_err-ahead.ensures))))

pub returns : goal.returns
returns c =
    rw c.then_some.ensures
    (finds_tested c.args.self.now c.requires c.args.line c.last_start-at.result c.last_start-at.ensures (search rules) c.in_ok-ahead.ahead c.in_ok-ahead.ensures)
