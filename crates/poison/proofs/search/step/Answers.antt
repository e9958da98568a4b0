-- `poison::search::step` meets its contract: the division gives the order of start and line as 1 or 0 (Halves). Assumes nothing.
use native.Mathlib.Omega.{arith}
use borrow.Author.Rules.{rules}
use Rattle.poison.proofs.Halves.{at_most, stepped}
use Rattle.poison.proofs.search.step.Goals as goal

pub overflow_mul-result : goal.overflow_mul-result
overflow_mul-result c =
    rw (c.from.ensures, c.from-2.ensures) (omega (arith, at_most c.args.base c.args.half c.args.start c.args.line (search rules) (search rules)))

pub overflow_add-result : goal.overflow_add-result
overflow_add-result c =
    rw (c.from.ensures, c.from-2.ensures) (omega (arith, at_most c.args.base c.args.half c.args.start c.args.line (search rules) (search rules)))

pub returns : goal.returns
returns c =
    rw (c.from.ensures, c.from-2.ensures) (stepped c.args.base c.args.half c.args.start c.args.line (search rules) (search rules))
