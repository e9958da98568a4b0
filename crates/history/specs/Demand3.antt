-- Demand 3 (document 00) of a device and its paper, a field for each clause of the demand. The line test in it is the call that the host makes, at the
-- address of the line. Assumes nothing.
use Rattle.std.specs.Prelude.{ℕ, ◌+◌, ◌*◌, ◌<◌, ◌≡◌, true, false, List, ◌++◌, length, get_or}
use Rattle.poison.specs.Runs.{run, in_run, count}
use Rattle.poison.specs.State as Poison
use Rattle.poison.specs.Paper.{Paper, blank_paper}
use Rattle.mailbox.specs.State.{DeviceState}
use Rattle.mailbox.specs.DeviceCalls as Device
use Rattle.history.specs.Calls.{Call}
use Rattle.history.specs.Paper.{history}

-- the host asks about line k and is told Clean: the call succeeds, and its answer is number 0
pub record SaysClean (d : DeviceState) (k : ℕ) : Type 0 where
  pub code : (Device.line_test d (k * 64)).code ≡ 0
  pub answer : (Device.line_test d (k * 64)).number ≡ 0

-- the host asks about line k and is told something else than Clean
pub record Blocks (d : DeviceState) (k : ℕ) : Type 0 where
  pub code : (Device.line_test d (k * 64)).code ≡ 0
  pub answer : (Device.line_test d (k * 64)).number ≡ 0 → ⊥

-- "a line was ever dropped exactly when one ever joined that set": after some first calls of the list some line is in the dropped set. The paper is the
-- one written from those first calls on the device that make handed out.
pub record EverDropped (made : DeviceState) (calls : List Call) : Type 0 where
  pub first : List Call
  pub rest : List Call
  pub prefix : calls ≡ first ++ rest
  pub line : ℕ
  pub dropped : (history made blank_paper first).paper.dropped line ≡ true

-- on a device of n lines, after a list of calls on the device that make handed out
pub record Demand3 (made : DeviceState) (calls : List Call) (n : ℕ) (d : DeviceState) (p : Paper) : Type 0 where
  -- "After the list the device's entries have the paper's starts and lengths"
  pub entries : Poison.shapes d.poison.entries ≡ p.entries
  -- "After the list no line is in two entries."
  pub apart : (i j k : ℕ) → i < j → j < length d.poison.entries → in_run (get_or (Poison.shapes d.poison.entries) i (run 0 0)) k ≡ true → in_run (get_or (Poison.shapes d.poison.entries) j (run 0 0)) k ≡ false
  -- every line of the paper set is a line of the device, and every dropped line is in the paper set, so that `count .. n` below is the size of each
  pub inside : (k : ℕ) → p.set k ≡ true → k < n
  pub dropped_inside : (k : ℕ) → p.dropped k ≡ true → p.set k ≡ true
  -- "The size of the paper set is the sum of entry lengths plus the number of lines dropped for want of an entry and neither stored nor cleared since, each
  -- such line counted once."
  pub size : count p.set n ≡ Device.damage_total d + count p.dropped n
  -- "The overflow flag is set exactly when a line was ever dropped."
  pub flag_dropped : d.poison.overflow ≡ true → EverDropped made calls
  pub dropped_flag : EverDropped made calls → d.poison.overflow ≡ true
  -- "The line test says Clean for no line in the paper set,": the call succeeds, and its answer is not Clean
  pub blocked : (k : ℕ) → p.set k ≡ true → Blocks d k
  -- "and, while the flag is clear and media is enabled, for every other line of the device." (document 02, W-207)
  pub clean : d.poison.overflow ≡ false → d.media.disabled ≡ false → (k : ℕ) → k < n → p.set k ≡ false → SaysClean d k
