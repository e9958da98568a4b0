-- `wire::matches` meets its contract. Assumes nothing.
use mathlib.Core.Path.{◌≡◌, ◌∙◌}
use Prim.Native.Nat.{ℕ, ◌+◌, ◌-◌}
use borrow.Author.Rules.{rules}
use lib.Dec.{eqb}
use lib.ListN.{length, take, drop}
use Rattle.std.proofs.Common.{tests}
use Rattle.std.proofs.lemmas.Iterator.{YieldsList-from_slice, YieldsList-from_zip}
use Rattle.std.proofs.lemmas.Iterator.Search.{all_from_yields_List}
use Rattle.wire.specs.Wire.{part}
use Rattle.wire.proofs.Laws.{part_lent, length_part, same_pairs}
use Rattle.wire.proofs.matches.Goals as goal

pub returns : goal.returns
returns c =
    let a = c.args in
    let n = length a.t.now in
    let lent : c.zip.result.a.rest.now ≡ take (a.at + n - a.at) (drop a.at a.s.now) = cc in
    let other : c.zip.result.b.rest.now ≡ a.t.now = cc in
    let sides = YieldsList-from_zip {s = c.zip.result} (YieldsList-from_slice (part a.at n a.s.now) (lent ∙ part_lent a.at n a.s.now)) (YieldsList-from_slice a.t.now other) in
    all_from_yields_List (λ (p : ℕ × ℕ). eqb p.0 p.1) c.all.new.self _ _ c.all.ensures.ran sides (λ x b q k. search (rules, tests))
    ∙ same_pairs (part a.at n a.s.now) a.t.now (length_part a.at n a.s.now (search rules))
