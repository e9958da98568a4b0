-- The first record's part of a run: none, one that is refused, one that makes a device. Assumes nothing.
use mathlib.Core.Path.{◌≡◌, sym, ap, ap₂, subst, ◌∙◌}
use mathlib.Core.List.{List}
use Prim.Native.Nat.{ℕ}
use native.Mathlib.Omega.{arith}
use lib.ListN.{length}
use Rattle.labels.specs.Labels.{zero_area}
use Rattle.protocol.specs.declared.stream.Stream.{Stream}
use Rattle.protocol.specs.declared.records.Found.{Found}
use Rattle.protocol.specs.Text.{last_line}
use Rattle.protocol.specs.Stream.{unread, count_left, left}
use Rattle.protocol.specs.Records.{OneRecord}
use Rattle.protocol.specs.Calls.{new_call}
use Rattle.protocol.specs.Relations.{PutsLine, Finds}
use Rattle.protocol.specs.Runs.{reading, Machine, machine_of, NoRecord, Ends}
use Rattle.protocol.proofs.Laws.{no_record, length_left, text_after}
use Rattle.bench.specs.Calls.{Kept, first_record, bench}
use Rattle.bench.specs.Runs.{Runs}
use Rattle.bench.specs.Runs.Runs.{unmade, refused, made}

-- before anything was read the offset is 0
pub at_start : {s : Stream} → s ≡ unread → s.offset ≡ 0
at_start e = ap (λ (s : Stream). s.offset) e

pub run_unmade : (s : Stream) (r : Found) {before after out out' : List ℕ} {e : ℕ} → s.offset ≡ 0 → Finds (reading bench s.offset) s r before after → r.size ≡ 0
    → length after ≡ 65536 → PutsLine 0 (last_line (count_left r.stream) r.stream.offset) out out' e → Runs e out'
run_unmade s r {before} {after} start found none long put =
    unmade (left r.stream after) r.stream.ended
    (subst (λ (o : ℕ). NoRecord (reading bench o) r.stream.ended (left r.stream after)) start (no_record found none))
    (text_after put.puts (omega arith) ∙ ap₂ last_line (sym (length_left r.stream after found.same.fits long)) (found.same.place ∙ start))

-- the first record, whole
module _ (offset : ℕ) (first : List ℕ) (code : ℕ) (start : offset ≡ 0) (this : OneRecord (reading bench offset) first) (number : code ≡ (new_call first).code) where
  one : OneRecord (reading bench 0) first
  one = subst (λ (o : ℕ). OneRecord (reading bench o) first) start this

  pub run_refused : {e : ℕ} {out out' : List ℕ} → (code ≡ 0 → ⊥) → PutsLine 0 (first_record first).line out out' e → Runs e out'
  run_refused not put = refused first one (λ e. not (number ∙ e)) (text_after put.puts (omega arith))

  pub run_made : (k : Kept) (s : Stream) (input : List ℕ) {r : ℕ} {out out' out'' : List ℕ} → code ≡ 0 → k.device ≡ (first_record first).next → k.area ≡ zero_area
      → s.offset ≡ length first → PutsLine 0 (first_record first).line out out' s.used → Ends bench (machine_of k s input out') r out'' → Runs r out''
  run_made k s input {r} {out} {out'} {out''} success next clear place put ends =
      made first (left s input) s.ended one (sym number ∙ success)
      (subst (λ (m : Machine Kept). Ends bench m r out'')
      (λ i. record { state = record { device = next i; area = clear i }; offset = place i; left = left s input; ended = s.ended; unwritten = text_after put.puts (omega arith) i }) ends)
