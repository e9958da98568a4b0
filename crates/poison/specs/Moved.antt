-- A list in memory after an entry was put in its place, or taken away: the arrays as specs/Shift has it, one entry more or fewer, and the flag and its time as they were.
use Rattle.std.specs.Prelude.{◌≡◌, ℕ, ◌+◌, ◌-◌}
use Rattle.poison.specs.declared.list.PoisonList.{PoisonList}
use Rattle.poison.specs.Shift.{EntryPut, EntryTaken}

-- r is l with an entry put at place `at`
pub record EntryAdded (l : PoisonList) (at start lines kind : ℕ) (r : PoisonList) : Type 0 where
  pub arrays : EntryPut at l.count start lines kind l.starts l.lengths l.kinds r.starts r.lengths r.kinds
  pub count : r.count ≡ l.count + 1
  pub overflow : r.overflow ≡ l.overflow
  pub overflow_time : r.overflow_time ≡ l.overflow_time

-- r is l without the entry at place `at`
pub record EntryRemoved (l : PoisonList) (at : ℕ) (r : PoisonList) : Type 0 where
  pub arrays : EntryTaken at (l.count - 1) l.starts l.lengths l.kinds r.starts r.lengths r.kinds
  pub count : r.count ≡ l.count - 1
  pub overflow : r.overflow ≡ l.overflow
  pub overflow_time : r.overflow_time ≡ l.overflow_time
