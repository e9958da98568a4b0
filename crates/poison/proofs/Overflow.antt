-- What a drop does to the overflow flag and the overflow time: it sets the flag, and the first sets the time; without one both stay.
-- Assumes nothing.
use mathlib.Core.Path.{◌≡◌, refl}
use mathlib.Core.Bool.{Bool, true, false, cond, or-false, or-true}
use mathlib.Core.List.{List}
use Prim.Native.Nat.{ℕ}
use Rattle.poison.specs.Runs.{Run, some_run}
use Rattle.poison.specs.State.{Entry, PoisonState}
use Rattle.poison.proofs.ListChanges.{with_entries}
use Rattle.poison.specs.Report.{with_drop}

same_if : (b : Bool) (n : ℕ) → cond b n n ≡ n
same_if true n = refl
same_if false n = refl

module _ (s : PoisonState) (es : List Entry) (rs : List Run) (time : ℕ) where
  pub drop_none : some_run rs ≡ false → with_drop s es rs time ≡ with_entries s es
  unfolding with_drop
  drop_none e = rw (e, or-false s.overflow, same_if s.overflow s.overflow_time)

  pub drop_some : some_run rs ≡ true → with_drop s es rs time ≡ record { entries = es; overflow = true; overflow_time = cond s.overflow s.overflow_time time }
  unfolding with_drop
  drop_some e = rw (e, or-true s.overflow)
