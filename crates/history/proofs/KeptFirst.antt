-- Demand 3's total against a build that keeps the first report and answers later ones as stored (document 01, "Promises and how they are tried"): its
-- damage total is 1 where the size equation asks for 2. Assumes nothing.
use mathlib.Core.Path.{◌≡◌, refl}
use mathlib.Core.List.{List}
use Prim.Native.Nat.{ℕ, ◌+◌, ◌≤◌}
use native.Mathlib.Omega.{arith}
use Rattle.poison.specs.Runs.{in_run, count, uncovered}
use Rattle.poison.specs.State as Poison
use Rattle.poison.specs.State.{PoisonState, empty}
use Rattle.poison.specs.Report.{with_drop, report_entries, after_report}
use Rattle.poison.specs.Paper.{Paper, blank_paper}
use Rattle.poison.proofs.Laws.{consistent_blank, consistent_report, agrees}
use Rattle.mailbox.specs.State.{DeviceState}
use Rattle.mailbox.specs.DeviceCalls as Device
use Rattle.history.specs.Calls.{Call, media_report}
use Rattle.history.specs.Paper.{write}
use Rattle.history.specs.Demand3.{Demand3}

-- the paper of two media reports, of line 0 and of line 2, each answered 0000h
abbrev pub two_reports : Paper
two_reports = write (write blank_paper (media_report 0 0 1 1) 0) (media_report 0 128 1 1) 0

-- the list that the two reports make
abbrev two_entries : PoisonState
two_entries = after_report (after_report empty 0 1 1 0) 2 1 1 0

two_lines : Poison.damage_total two_entries ≡ 2
unfolding with_drop report_entries uncovered in_run
two_lines = refl

-- The size equation leaves one total.
pub total_of_two : (n t : ℕ) → 3 ≤ n → count two_reports.set n ≡ t + count two_reports.dropped n → t ≡ 2
unfolding write
total_of_two n t h e =
    let c = consistent_report n (after_report empty 0 1 1 0) _ (consistent_report n empty blank_paper (consistent_blank n) 0 1 1 0 (omega arith)) 2 1 1 0 (omega arith) in
    let a = (agrees n two_entries two_reports c).size in
    omega (arith, a, two_lines)

-- On a device of three lines or more, a device that holds the first report's line alone does not meet demand 3.
pub first_report_alone : (made : DeviceState) (calls : List Call) (n : ℕ) (d : DeviceState) → 3 ≤ n → Demand3 made calls n d two_reports → Device.damage_total d ≡ 1 → ⊥
first_report_alone made calls n d h m e = omega (arith, total_of_two n (Device.damage_total d) h m.size, e)
