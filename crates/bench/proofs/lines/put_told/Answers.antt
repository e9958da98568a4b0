-- `bench::lines::put_told` meets its contract: the code alone where it is not 0, and otherwise all numbers. Assumes nothing.
use native.Mathlib.Omega.{arith}
use Rattle.protocol.proofs.Laws.{length_columns}
use Rattle.bench.proofs.LineLaws.{code_end, told_refused, told_all}
use Rattle.bench.proofs.lines.put_told.Goals as goal

pub end_line-requires : goal.end_line-requires
end_line-requires c =
    let a = c.args in
    let put = c.put_columns-at in
    omega (arith, code_end a.first a.second a.code a.numbers.now put.ensures c.requires.0, put.auto.out)

pub returns-then-code-ne0 : goal.returns-then-code-ne0
returns-then-code-ne0 c =
    let a = c.args in
    told_refused a.first a.second a.code a.numbers.now c.put_columns-at.ensures c.requires.0 c.end_line.ensures c.if-code-ne0.true

pub put_each-end-requires : goal.put_each-end-requires
put_each-end-requires c =
    let a = c.args in
    let put = c.put_columns-at in
    omega (arith, code_end a.first a.second a.code a.numbers.now put.ensures c.requires.0, put.auto.out, c.requires.1)

pub end_line-requires-2 : goal.end_line-requires-2
end_line-requires-2 c =
    let a = c.args in
    let put = c.put_columns-at in
    let each = c.put_each-end in
    omega (arith, code_end a.first a.second a.code a.numbers.now put.ensures c.requires.0, each.ensures.end, length_columns a.numbers.now, put.auto.out, each.auto.out)

pub returns : goal.returns
returns c =
    let a = c.args in
    told_all a.first a.second a.code a.numbers.now c.put_columns-at.ensures c.requires.0 c.put_each-end.ensures c.end_line-2.ensures c.requires.1 c.if-code-ne0.false
