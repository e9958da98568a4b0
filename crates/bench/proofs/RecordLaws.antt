-- How long a record that was found is at least, by its mark and its place in the input. Assumes nothing.
use mathlib.Core.Path.{◌≡◌, subst}
use mathlib.Core.Bool.{Bool, false}
use mathlib.Core.List.{List}
use Prim.Native.Nat.{ℕ, ◌≤◌, ◌<◌}
use native.Mathlib.Omega.{arith}
use lib.ListN.{length}
use borrow.Author.Tests.{ne_eqb}
use Rattle.protocol.specs.declared.formats.Format.TheVariants.{Bench}
use Rattle.protocol.specs.Records.{mark_of, CM, EV, MD, LT, front_size, OneRecord}
use Rattle.protocol.specs.Formats.{bench_fixed, fixed, head, size}
use Rattle.protocol.specs.Runs.{reading}
use Rattle.protocol.proofs.Laws.{new_there, fields_there, bench_marks}
use Rattle.bench.specs.Calls.{bench}

-- the first: NW
pub new_long : (offset : ℕ) (r : List ℕ) → offset ≡ 0 → OneRecord (reading bench offset) r → 6 ≤ length r
new_long offset r e this = new_there Bench r (subst (λ (o : ℕ). OneRecord (reading bench o) r) e this)

-- a later one
module _ (offset : ℕ) (r : List ℕ) (some : 0 < offset) (this : OneRecord (reading bench offset) r) where
  later : OneRecord (front_size (fixed Bench false) (head Bench) (size Bench)) r
  later = subst (λ (t : Bool). OneRecord (front_size (fixed Bench t) (head Bench) (size Bench)) r) (ne_eqb offset 0 (λ e. omega (arith, e, some))) this

  pub command_long : mark_of r ≡ mark_of CM → 14 ≤ length r
  unfolding fixed bench_fixed
  command_long = fields_there Bench false r later (mark_of CM)

  pub event_long : mark_of r ≡ mark_of EV → 139 ≤ length r
  unfolding fixed bench_fixed
  event_long = fields_there Bench false r later (mark_of EV)

  pub media_long : mark_of r ≡ mark_of MD → 23 ≤ length r
  unfolding fixed bench_fixed
  media_long = fields_there Bench false r later (mark_of MD)

  pub line_long : mark_of r ≡ mark_of LT → 10 ≤ length r
  unfolding fixed bench_fixed
  line_long = fields_there Bench false r later (mark_of LT)

  -- no record has another mark
  pub marked : (mark_of r ≡ mark_of CM → ⊥) → (mark_of r ≡ mark_of EV → ⊥) → (mark_of r ≡ mark_of MD → ⊥) → (mark_of r ≡ mark_of LT → ⊥) → ⊥
  marked = bench_marks r later
