-- The turns of a program's loop as steps of its run: what was read, what room was made, a record served, and the end. Over any state, sizes and service.
-- Assumes nothing.
use mathlib.Core.Path.{◌≡◌, sym, ap, subst, ◌∙◌}
use mathlib.Core.Bool.{Bool, true, false, cond}
use mathlib.Core.Logic.{⊎_elim, inl, inr}
use mathlib.Core.List.{List, [], ◌++◌, append-nil}
use Prim.Native.Nat.{ℕ, ◌+◌, ◌-◌, ◌≤◌, ◌<◌}
use native.Mathlib.Omega.{arith}
use lib.Dec.{leb}
use lib.ListN.{length, take, drop, length-append, length-take, length-drop, take-append-drop}
use lib.Seq.{take-add, take_at, drop-drop}
use borrow.Author.Tests.{lt-ltb, le-ltb}
use Rattle.wire.specs.Wire.{part, splice}
use Rattle.protocol.specs.declared.stream.Stream.{Stream}
use Rattle.protocol.specs.declared.records.Found.{Found}
use Rattle.protocol.specs.Text.{last_line}
use Rattle.protocol.specs.Stream.{Fits, count_left, left, Continues, Past, with_room}
use Rattle.protocol.specs.Records.{OneRecord}
use Rattle.protocol.specs.Runs.{Program, Machine, machine_of, reading, Steps, NoRecord, Ends}
use Rattle.protocol.specs.Runs.Steps.{read, write, serve}
use Rattle.protocol.specs.Relations.{Puts, PutsLine, Finds}
use Rattle.protocol.proofs.StreamLaws.{length_left}

-- text put after what is not written yet
pub text_after : {used r : ℕ} {text out out' : List ℕ} → Puts used text out out' r → used ≤ length out → take r out' ≡ take used out ++ text
unfolding splice
text_after {used} {r} {text} {out} {out'} put fits =
    let long : length (take used out ++ text) ≡ r = rw (length-append, length-take) (omega (arith, put.end)) in
    ap (take r) put.bytes ∙ take_at (take used out ++ text) (drop (used + length text) out) r long

-- how long a record taken out of the input buffer is
pub length_taken : (here p : Stream) (input : List ℕ) {size : ℕ} → Fits here → size ≤ count_left here → length input ≡ 65536 → Past here size p
    → length (take (p.at - here.at) (drop here.at input)) ≡ size
length_taken here p input fits inside long past = rw (length-take, length-drop) (omega (arith, past.at, fits.order, fits.input))

-- nothing found is no record, for good
pub no_record : {reading : List ℕ → ℕ} {s : Stream} {r : Found} {before after : List ℕ} → Finds reading s r before after → r.size ≡ 0
    → NoRecord reading r.stream.ended (left r.stream after)
no_record found none = record { none = sym found.size ∙ none; final = ⊎_elim (λ h. inl h) (λ h. inr (λ more. h more ∙ none)) found.sure }

-- the place past a record, with its line put
abbrev pub with_used : Stream → ℕ → Stream
with_used p used = record { at = p.at; end = p.end; offset = p.offset; used = used; ended = p.ended }

module _ {D : Type 0} (P : Program D) {m : Machine D} where
  -- more was read, and what was printed perhaps written
  step_read : (s r : Stream) (out : List ℕ) {d : D} {input input' : List ℕ} → Steps P m (machine_of d s input out) → Continues s r input input' → Steps P m (machine_of d r input' out)
  step_read s r out {d} {input} {input'} h c =
      ⊎_elim
      (λ e. subst (Steps P m) (λ i. record { state = d; offset = sym c.place i; left = sym all i; ended = r.ended; unwritten = take (sym e i) out }) (read extra r.ended h))
      (λ e. subst (Steps P m) (λ i. record { state = d; offset = sym c.place i; left = sym all i; ended = r.ended; unwritten = ap (λ (k : ℕ). take k out) (sym e) i }) (write (read extra r.ended h)))
      c.output
    where
      extra : List ℕ
      extra = drop (count_left s) (left r input')

      all : left r input' ≡ left s input ++ extra
      all = sym (take-append-drop (count_left s) (left r input')) ∙ ap (λ (l : List ℕ). l ++ extra) c.kept

  -- room was made, and what was printed perhaps written
  step_room : (s : Stream) (input out : List ℕ) (room used : ℕ) {d : D} → Steps P m (machine_of d s input out) → used ≡ with_room room s.used
      → Steps P m (record { state = d; offset = s.offset; left = left s input; ended = s.ended; unwritten = take used out })
  step_room s input out room used {d} h e = either (leb (s.used + room) 65536) e
    where
      either : (t : Bool) → used ≡ cond t s.used 0 → Steps P m (record { state = d; offset = s.offset; left = left s input; ended = s.ended; unwritten = take used out })
      either true e = subst (Steps P m) (λ i. record { state = d; offset = s.offset; left = left s input; ended = s.ended; unwritten = take (sym e i) out }) h
      either false e = subst (Steps P m) (λ i. record { state = d; offset = s.offset; left = left s input; ended = s.ended; unwritten = take (sym e i) out }) (write h)

  -- a record served
  step_serve : (here p : Stream) (input : List ℕ) {d d' : D} {out out' : List ℕ} {used used' size : ℕ}
      → Steps P m (record { state = d; offset = here.offset; left = left here input; ended = here.ended; unwritten = take used out })
      → OneRecord (reading P here.offset) (take (p.at - here.at) (drop here.at input)) → Fits here → size ≤ count_left here → length input ≡ 65536 → Past here size p
      → d' ≡ (P.serve d (take (p.at - here.at) (drop here.at input))).next
      → Puts used (P.serve d (take (p.at - here.at) (drop here.at input))).line out out' used' → used ≤ length out
      → Steps P m (machine_of d' (with_used p used') input out')
  unfolding part
  step_serve here p input {d} {d'} {out} {out'} {used} {used'} {size} h this fits inside long past next put room =
      subst (Steps P m)
      (λ i.
      record {
        state = sym next i;
        offset = place i;
        left = left (with_used p used') input;
        ended = sym past.ended i;
        unwritten = sym (text_after put room) i;
      })
      (serve (take (p.at - here.at) (drop here.at input)) (left (with_used p used') input) h split this)
    where
      taken : length (take (p.at - here.at) (drop here.at input)) ≡ size
      taken = length_taken here p input fits inside long past

      place : here.offset + length (take (p.at - here.at) (drop here.at input)) ≡ p.offset
      place = omega (arith, taken, past.offset)

      widths : count_left here ≡ (p.at - here.at) + (p.end - p.at)
      widths = omega (arith, past.at, past.end, fits.order)

      after : here.at + (p.at - here.at) ≡ p.at
      after = omega (arith, past.at)

      split : left here input ≡ take (p.at - here.at) (drop here.at input) ++ take (p.end - p.at) (drop p.at input)
      split =
          ap (λ (k : ℕ). take k (drop here.at input)) widths
          ∙ take-add (p.at - here.at) (p.end - p.at) (drop here.at input)
          ∙ ap (λ (l : List ℕ). take (p.at - here.at) (drop here.at input) ++ take (p.end - p.at) l)
          (drop-drop (p.at - here.at) here.at input ∙ ap (λ (k : ℕ). drop k input) after)

  -- the end at an offset that no input reaches
  pub run_far : (d : D) (s : Stream) (input out : List ℕ) → Steps P m (machine_of d s input out) → 9223372036854775808 ≤ s.offset → Ends P m s.used out
  run_far d s input out h far =
      record {
        last = machine_of d s input out;
        steps = h;
        none = λ near. absurd (omega (arith, near, far));
        text = sym (append-nil (take s.used out))
            ∙ ap (λ (l : List ℕ). take s.used out ++ l) (ap (λ (t : Bool). cond t (last_line (length (left s input)) s.offset) []) (sym (le-ltb s.offset 9223372036854775808 far)));
      }

  -- one turn of the loop: what was found where the last turn ended, and room made for a line
  module _ (d : D) (s : Stream) (r : Found) (out : List ℕ) (room used : ℕ) {before after : List ℕ} (came : Steps P m (machine_of d s before out))
      (found : Finds (reading P s.offset) s r before after) (made : used ≡ with_room room r.stream.used) (long : length after ≡ 65536) where
    here : Steps P m (record { state = d; offset = r.stream.offset; left = left r.stream after; ended = r.stream.ended; unwritten = take used out })
    here = step_room r.stream after out room used (step_read s r.stream out came found.same) made

    -- a record: its line is put, and the state that follows is the next turn's
    pub turn_served : (p : Stream) {d' : D} {out' : List ℕ} {used' : ℕ} → Past r.stream r.size p
        → OneRecord (reading P s.offset) (take (p.at - r.stream.at) (drop r.stream.at after))
        → d' ≡ (P.serve d (take (p.at - r.stream.at) (drop r.stream.at after))).next
        → PutsLine used (P.serve d (take (p.at - r.stream.at) (drop r.stream.at after))).line out out' used' → used ≤ length out → length out ≡ 65536
        → Fits (with_used p used') × Steps P m (machine_of d' (with_used p used') after out')
    turn_served p past this next put fits wide = (
      record {
        order = omega (arith, past.at, past.end, found.inside, found.same.fits.order);
        input = omega (arith, past.end, found.same.fits.input);
        output = omega (arith, put.room);
      },
      step_serve r.stream p after here
          (subst (λ (o : ℕ). OneRecord (reading P o) (take (p.at - r.stream.at) (drop r.stream.at after))) (sym found.same.place) this)
          found.same.fits found.inside long past next put.puts fits,
    )

    -- no record: the last line is put
    pub turn_ends : {out' : List ℕ} {left' e : ℕ} → r.size ≡ 0 → s.offset < 9223372036854775808 → left' ≡ count_left r.stream
        → PutsLine used (last_line left' r.stream.offset) out out' e → used ≤ length out → length out ≡ 65536 → (e ≤ 65536) × Ends P m e out'
    turn_ends {out'} {left'} {e} none near count put fits wide = (
      omega (arith, put.room),
      record {
        last = record { state = d; offset = r.stream.offset; left = left r.stream after; ended = r.stream.ended; unwritten = take used out };
        steps = here;
        none = λ _. subst (λ (o : ℕ). NoRecord (reading P o) r.stream.ended (left r.stream after)) (sym found.same.place)
            (no_record found none);
        text = text_after put.puts fits ∙ ap (λ (l : List ℕ). take used out ++ l)
            (ap (λ (k : ℕ). last_line k r.stream.offset) (count ∙ sym (length_left r.stream after found.same.fits long))
            ∙ ap (λ (t : Bool). cond t (last_line (length (left r.stream after)) r.stream.offset) []) (sym (lt-ltb r.stream.offset 9223372036854775808 (omega (arith, found.same.place)))));
      },
    )
