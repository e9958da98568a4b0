-- A run of the program (document 01, "Bench program"): its first record, and the run of the records after it. Assumes nothing.
use Rattle.std.specs.Prelude.{ℕ, ◌≡◌, Bool, List, length, take}
use Rattle.labels.specs.Labels.{zero_area}
use Rattle.protocol.specs.Text.{last_line}
use Rattle.protocol.specs.Records.{OneRecord}
use Rattle.protocol.specs.Calls.{new_call}
use Rattle.protocol.specs.Runs.{reading, NoRecord, Ends}
use Rattle.bench.specs.Calls.{first_record, bench}

-- the whole run, by the bytes read first: no NW there, one that is refused ("A refused NW prints and stops"), or one that makes a device; "an area starts as zeros"
pub data Runs (r : ℕ) (out : List ℕ) : Type 0 where
  unmade : (bytes : List ℕ) (ended : Bool) → NoRecord (reading bench 0) ended bytes → take r out ≡ last_line (length bytes) 0 → Runs r out
  refused : (first : List ℕ) → OneRecord (reading bench 0) first → ((new_call first).code ≡ 0 → ⊥) → take r out ≡ (first_record first).line → Runs r out
  made : (first rest : List ℕ) (ended : Bool) → OneRecord (reading bench 0) first → (new_call first).code ≡ 0
      → Ends bench (record { state = record { device = (first_record first).next; area = zero_area }; offset = length first; left = rest; ended = ended; unwritten = (first_record first).line }) r out → Runs r out
