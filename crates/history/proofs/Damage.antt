-- The promise in words: a line that was reported damaged and not cleared since is never answered Clean, whatever else is called. Assumes nothing.
use mathlib.Core.Path.{◌≡◌, refl, ap, ◌∙◌}
use mathlib.Core.Bool.{Bool, true, false, ◌&&◌, cond, false≢true, or-true}
use mathlib.Core.List.{List, [], ◌∷◌, ◌++◌}
use Prim.Native.Nat.{ℕ, ◌+◌}
use borrow.Author.Tests.{eqb-true, le-leb, lt-ltb}
use native.Mathlib.Omega.{arith}
use lib.Dec.{eqb}
use Rattle.wire.specs.Wire.{field}
use Rattle.wire.proofs.Laws.{and_parts}
use Rattle.poison.specs.Runs.{run, in_run}
use Rattle.poison.specs.Paper.{Paper, blank_paper, paper_report, paper_inject, paper_clear}
use Rattle.mailbox.specs.State.{DeviceState}
use Rattle.list_commands.specs.PoisonCommands.{line_of}
use Rattle.mailbox.specs.DeviceCalls as Device
use Rattle.history.specs.Calls.{Call, command, event_report, media_report, line_test, event_status, damage_total, pool_command, step, after}
use Rattle.history.specs.Paper.{write_command, write, history}
use Rattle.history.specs.Demand3.{Blocks}
use Rattle.history.specs.Damage.{reports, clears, NotCleared}
use Rattle.history.proofs.Demand3.{demand_3}

-- the device of a history is the one after its calls
pub device_after : (d : DeviceState) (p : Paper) (cs : List Call) → (history d p cs).device ≡ after d cs
device_after d p [] = refl
device_after d p (c ∷ cs) = device_after (step d c).next (write p c (step d c).code) cs

-- the paper of a history in two parts
paper_of_both : (d : DeviceState) (p : Paper) (xs ys : List Call) → (history d p (xs ++ ys)).paper ≡ (history (after d xs) (history d p xs).paper ys).paper
paper_of_both d p [] ys = refl
paper_of_both d p (x ∷ xs) ys = paper_of_both (step d x).next (write p x (step d x).code) xs ys

after_both : (d : DeviceState) (xs ys : List Call) → after d (xs ++ ys) ≡ after (after d xs) ys
after_both d [] ys = refl
after_both d (x ∷ xs) ys = after_both (step d x).next xs ys

-- ---- a call that reports line k puts it in the paper set
one_line : (k : ℕ) → in_run (run k 1) k ≡ true
unfolding in_run
one_line k = simp (le-leb k k (omega arith), lt-ltb k (k + 1) (omega arith))

pub set_reported : (p : Paper) (c : Call) (code k : ℕ) → reports c code k ≡ true → (write p c code).set k ≡ true
unfolding write paper_inject paper_report
set_reported p (command opcode payload time area room) code k e =
    let done = and_parts (eqb code 0) _ e in
    let two = and_parts (eqb opcode 0x4301) (eqb k (line_of (field payload 0 8))) done.1 in
    let same = eqb-true k (line_of (field payload 0 8)) two.1 in
    rw (done.0, two.0, ← same) (rw (one_line k) (or-true (p.set k)))
set_reported p (event_report time log bytes) code k e = absurd (false≢true e)
set_reported p (media_report time address lines kind) code k e =
    let done = and_parts (eqb code 0) (in_run (run (line_of address) lines) k) e in
    rw done.0 (rw done.1 (or-true (p.set k)))
set_reported p (line_test address) code k e = absurd (false≢true e)
set_reported p event_status code k e = absurd (false≢true e)
set_reported p damage_total code k e = absurd (false≢true e)
set_reported p (pool_command opcode payload time room) code k e = absurd (false≢true e)

-- ---- a call that does not clear it leaves it there
pub set_kept : (p : Paper) (c : Call) (code k : ℕ) → p.set k ≡ true → clears c code k ≡ false → (write p c code).set k ≡ true
unfolding write paper_inject paper_clear paper_report
set_kept p (command opcode payload time area room) code k h e = done (eqb code 0) e
  where
    done : (b : Bool) → (b && (eqb opcode 0x4302 && eqb k (line_of (field payload 0 8)))) ≡ false → (cond b (write_command p opcode payload) p).set k ≡ true
    done false e = h
    done true e = inject (eqb opcode 0x4301) (eqb opcode 0x4302) e
      where
        inject : (i c : Bool) → (c && eqb k (line_of (field payload 0 8))) ≡ false
            → (cond i (paper_inject p (line_of (field payload 0 8))) (cond c (paper_clear p (line_of (field payload 0 8))) p)).set k ≡ true
        inject true c e = rw h refl
        inject false true e = rw (h, e) refl
        inject false false e = h
set_kept p (event_report time log bytes) code k h e = h
set_kept p (media_report time address lines kind) code k h e = done (eqb code 0)
  where
    done : (b : Bool) → (cond b (paper_report p (line_of address) lines) p).set k ≡ true
    done true = rw h refl
    done false = h
set_kept p (line_test address) code k h e = h
set_kept p event_status code k h e = h
set_kept p damage_total code k h e = h
set_kept p (pool_command opcode payload time room) code k h e = h

set_kept_by_all : (d : DeviceState) (p : Paper) (cs : List Call) (k : ℕ) → p.set k ≡ true → NotCleared d cs k → (history d p cs).paper.set k ≡ true
set_kept_by_all d p [] k h n = h
set_kept_by_all d p (c ∷ cs) k h n = set_kept_by_all (step d c).next (write p c (step d c).code) cs k (set_kept p c (step d c).code k h n.0) n.1

-- A line that a call reported damaged, and that no later call cleared, is answered, and not Clean: on any new device, after any calls before and after.
pub reported_blocks : (v p : ℕ) (earlier later : List Call) (c : Call) (k : ℕ)
    → reports c (step (after (Device.make v p).next earlier) c).code k ≡ true
    → NotCleared (step (after (Device.make v p).next earlier) c).next later k
    → Blocks (after (Device.make v p).next (earlier ++ (c ∷ later))) k
reported_blocks v p earlier later c k reported spared =
    rw (← device_after made blank_paper (earlier ++ (c ∷ later)))
    ((demand_3 v p (earlier ++ (c ∷ later))).blocked k
    (ap (λ (w : Paper). w.set k) (paper_of_both made blank_paper earlier (c ∷ later))
    ∙ set_kept_by_all (step d c).next (write w c (step d c).code) later k (set_reported w c (step d c).code k reported) spared))
  where
    made : DeviceState
    made = (Device.make v p).next

    d : DeviceState
    d = after made earlier

    w : Paper
    w = (history made blank_paper earlier).paper
