-- Inject Poison, by the search for the line and by what was put in: each return is one case. Assumes nothing.
use mathlib.Core.Path.{◌≡◌, refl}
use mathlib.Core.Bool.{true, false, true≢false}
use Prim.Native.Nat.{ℕ, ◌≤◌, ◌<◌}
use native.Mathlib.Omega.{arith}
use borrow.Author.Tests.{lt-ltb, le-ltb}
use lib.ListN.{length}
use Rattle.poison.specs.declared.list.PoisonList.{PoisonList}
use Rattle.poison.specs.Runs.{slots}
use Rattle.poison.specs.State.{entries_of}
use Rattle.poison.proofs.ListChanges.{Inserted}
use Rattle.poison.specs.Inject.{Injects}
use Rattle.poison.proofs.Views.{length_entries}
use Rattle.poison.proofs.Covering.{Searched, covered_line, uncovered_line}
use Rattle.poison.proofs.Validity.{valid_insert}

module _ {l : PoisonList} {k at : ℕ} (o : Searched l k at) where
  -- the line is covered
  pub covered_already : at < l.count → Injects l k true false l
  covered_already h =
      let f = covered_line o h in
      record { done = rw f; added = rw f; state = rw f; refused = λ z. absurd (true≢false z); valid = λ m v h. v }

  -- it is not, and 256 are held
  pub no_room : l.count ≤ at → l.count ≡ slots → Injects l k false false l
  no_room h e =
      let f = uncovered_line o h in
      let n = le-ltb (length (entries_of l)) slots (omega (arith, length_entries l o.sized o.few, e)) in
      record { done = rw (f, n); added = rw (f, n); state = rw (f, n); refused = λ z. refl; valid = λ m v h. v }

  -- it is not, and an entry of one line is put in
  pub put_in : {r : PoisonList} → l.count ≤ at → l.count < slots → Inserted l k 1 3 r → Injects l k true true r
  put_in {r} h less i =
      let f = uncovered_line o h in
      let n = lt-ltb (length (entries_of l)) slots (omega (arith, length_entries l o.sized o.few)) in
      record {
        done = rw (f, n);
        added = rw (f, n);
        state = rw (f, n) i.state;
        refused = λ z. absurd (true≢false z);
        valid =
            λ m v h.
            valid_insert l r (omega (arith, i.count)) m v k 1 3 i (omega arith) (omega arith) (omega arith)
            (λ j u w. let z : j ≡ k = omega arith in rw z f);
      }
