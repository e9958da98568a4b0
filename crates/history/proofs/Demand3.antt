-- Demand 3: one theorem over every list of calls on the device that make hands out for any two numbers, with no premise on the calls. And what follows from
-- it in words. Assumes nothing.
use mathlib.Core.Path.{◌≡◌, refl, sym, ap, ◌∙◌}
use mathlib.Core.Bool.{Bool, true, false, ◌&&◌, cond, true≢false}
use mathlib.Core.List.{List, [], ◌∷◌, ◌++◌}
use mathlib.Core.Logic.{◌⊎◌, inl, inr}
use Prim.Native.Nat.{ℕ, ◌+◌, ◌*◌, ◌/◌, ◌%◌, ◌<◌}
use native.Mathlib.Omega.{arith}
use borrow.Author.Tests.{lt-ltb}
use lib.Dec.{leb}
use Rattle.poison.specs.LineTest as Line
use Rattle.poison.specs.LineTest.{answer_number}
use Rattle.poison.specs.declared.line_test.LineTest.{LineTest}
use Rattle.poison.specs.declared.line_test.LineTest.TheVariants.{Clean, Damaged, Unknown}
use Rattle.mailbox.specs.LineStatus.{status_number, status_of}
use Rattle.mailbox.specs.declared.line_status.LineStatus.TheVariants.{Disabled}
use Rattle.poison.specs.State.{PoisonState, empty}
use Rattle.poison.specs.Paper.{Paper, blank_paper, Agrees}
use Rattle.poison.proofs.Laws.{consistent_blank, agrees}
use Rattle.mailbox.specs.State.{DeviceState, lines_of}
use Rattle.list_commands.specs.PoisonCommands.{line_code}
use Rattle.mailbox.specs.DeviceCalls as Device
use Rattle.history.specs.Calls.{Call, step}
use Rattle.history.specs.Paper.{write, history}
use Rattle.history.specs.Demand3.{SaysClean, Blocks, EverDropped, Demand3}
use Rattle.history.proofs.Steps.{Holds, call_holds, call_flags}

-- every list of calls
holds_after : (n : ℕ) (d : DeviceState) (p : Paper) → Holds n d p → (calls : List Call) → Holds n (history d p calls).device (history d p calls).paper
holds_after n d p h [] = h
holds_after n d p h (c ∷ cs) = holds_after n (step d c).next (write p c (step d c).code) (call_holds n d p h c) cs

-- ---- the line test at the address of a line
quotient : (k : ℕ) → k * 64 / 64 ≡ k
quotient k = omega arith

remainder : (k : ℕ) → k * 64 % 64 ≡ 0
remainder k = omega arith

module _ (d : DeviceState) (k : ℕ) where
  on_device : k < lines_of d → line_code (lines_of d) (k * 64) ≡ 0
  unfolding line_code
  on_device h = simp (remainder k, quotient k, lt-ltb k (lines_of d) h)

  -- a line of the device is answered as the list has it, while media is enabled
  told : k < lines_of d → d.media.disabled ≡ false → Device.line_test d (k * 64) ≡ Device.told 0 (status_of (Line.line_test d.poison k))
  unfolding Device.line_test
  told h on = simp (on_device h, quotient k, on)

  -- and Disabled while it is not
  told_disabled : k < lines_of d → d.media.disabled ≡ true → Device.line_test d (k * 64) ≡ Device.told 0 Disabled
  unfolding Device.line_test
  told_disabled h off = simp (on_device h, off)

-- the device's number of a list's answer is the list's
same_number : (t : LineTest) → status_number (status_of t) ≡ answer_number t
same_number Clean = refl
same_number (Damaged kind) = refl
same_number Unknown = refl

-- ---- the flag, and the lines that were ever dropped
-- after some first calls of a list, from a device and a paper, some line is in the dropped set
record Joined (d : DeviceState) (p : Paper) (calls : List Call) : Type 0 where
  first : List Call
  rest : List Call
  prefix : calls ≡ first ++ rest
  line : ℕ
  dropped : (history d p first).paper.dropped line ≡ true

-- where the flag is set after a list of calls, it was set before them or a line joined the dropped set at one of them
flag_joined : (n : ℕ) (d : DeviceState) (p : Paper) → Holds n d p → (cs : List Call) → (history d p cs).device.poison.overflow ≡ true
    → (d.poison.overflow ≡ true) ⊎ Joined d p cs
flag_joined n d p h [] e = inl e
flag_joined n d p h (c ∷ cs) e = later (flag_joined n (step d c).next (write p c (step d c).code) (call_holds n d p h c) cs e)
  where
    now : (b : Bool) → d.poison.overflow ≡ b → (step d c).next.poison.overflow ≡ true → (d.poison.overflow ≡ true) ⊎ Joined d p (c ∷ cs)
    now true f g = inl f
    now false f g =
        let t = (call_flags n d p h c).sets f g in
        inr (record { first = c ∷ []; rest = cs; prefix = refl; line = t.0; dropped = t.1 })

    later : ((step d c).next.poison.overflow ≡ true) ⊎ Joined (step d c).next (write p c (step d c).code) cs → (d.poison.overflow ≡ true) ⊎ Joined d p (c ∷ cs)
    later (inl g) = now d.poison.overflow refl g
    later (inr j) = inr (record { first = c ∷ j.first; rest = j.rest; prefix = ap (λ (ys : List Call). c ∷ ys) j.prefix; line = j.line; dropped = j.dropped })

-- no call clears the flag
flag_stays : (n : ℕ) (d : DeviceState) (p : Paper) → Holds n d p → (cs : List Call) → d.poison.overflow ≡ true → (history d p cs).device.poison.overflow ≡ true
flag_stays n d p h [] e = e
flag_stays n d p h (c ∷ cs) e = flag_stays n (step d c).next (write p c (step d c).code) (call_holds n d p h c) cs ((call_flags n d p h c).stays e)

-- a line is in the dropped set, after some first calls, only if the flag is set after all of them
joined_flag : (n : ℕ) (d : DeviceState) (p : Paper) → Holds n d p → (first rest : List Call) (k : ℕ) → (history d p first).paper.dropped k ≡ true
    → (history d p (first ++ rest)).device.poison.overflow ≡ true
joined_flag n d p h [] rest k e = flag_stays n d p h rest ((agrees n d.poison p h.consistent).flag k e)
joined_flag n d p h (c ∷ cs) rest k e = joined_flag n (step d c).next (write p c (step d c).code) (call_holds n d p h c) cs rest k e

-- what holds of a device and its paper is what the demand asks
demanded : (made : DeviceState) (calls : List Call) (n : ℕ) (d : DeviceState) (p : Paper) → Holds n d p → (d.poison.overflow ≡ true → EverDropped made calls) → (EverDropped made calls → d.poison.overflow ≡ true)
    → Demand3 made calls n d p
demanded made calls n d p h set only =
    record {
      entries = a.entries;
      apart = a.apart;
      inside = a.inside;
      size = a.size;
      flag_dropped = set;
      dropped_flag = only;
      dropped_inside = a.dropped_inside;
      blocked = λ k e. blocks k (a.inside k e) (a.not_clean k (a.inside k e) e);
      clean = λ o on k l e. says on k l (a.clean_else o k l e);
    }
  where
    a : Agrees n d.poison p
    a = agrees n d.poison p h.consistent

    blocks : (k : ℕ) → k < n → (answer_number (Line.line_test d.poison k) ≡ 0 → ⊥) → Blocks d k
    blocks k l f = by d.media.disabled refl
      where
        by : (b : Bool) → d.media.disabled ≡ b → Blocks d k
        by true off = let t = told_disabled d k (rw h.lines l) off in record { code = rw t refl; answer = λ e. let z = sym (ap (λ (o : Device.LineOutcome). o.number) t) ∙ e in omega (arith, z) }
        by false on =
            let t = told d k (rw h.lines l) on in
            record { code = rw t refl; answer = λ e. f (sym (same_number (Line.line_test d.poison k)) ∙ sym (ap (λ (o : Device.LineOutcome). o.number) t) ∙ e) }

    says : d.media.disabled ≡ false → (k : ℕ) → k < n → answer_number (Line.line_test d.poison k) ≡ 0 → SaysClean d k
    says on k l e = let t = told d k (rw h.lines l) on in record { code = rw t refl; answer = rw t (same_number (Line.line_test d.poison k) ∙ e) }

-- ---- the device that make hands out, refused or not
made_empty : (v p : ℕ) → (Device.make v p).next.poison ≡ empty
unfolding Device.make
made_empty v p = go (leb 1 (v + p) && leb (v + p) 1023)
  where
    go : (b : Bool) → (cond {A = Device.MakeOutcome} b (record { code = 0; next = Device.new_device v p }) (record { code = 2; next = Device.new_device 1 0 })).next.poison ≡ empty
    go true = refl
    go false = refl

pub holds_made : (v p : ℕ) → Holds (lines_of (Device.make v p).next) (Device.make v p).next blank_paper
holds_made v p = record { lines = refl; consistent = rw (made_empty v p) (consistent_blank (lines_of (Device.make v p).next)) }

-- Demand 3: after every list of calls on a new device, refused ones included, with any arguments and whatever the clock does
pub demand_3 : (v p : ℕ) (calls : List Call)
    → Demand3 (Device.make v p).next calls (lines_of (Device.make v p).next) (history (Device.make v p).next blank_paper calls).device (history (Device.make v p).next blank_paper calls).paper
demand_3 v p calls = demanded made calls n (history made blank_paper calls).device (history made blank_paper calls).paper (holds_after n made blank_paper h calls) set only
  where
    made : DeviceState
    made = (Device.make v p).next

    n : ℕ
    n = lines_of made

    h : Holds n made blank_paper
    h = holds_made v p

    set : (history made blank_paper calls).device.poison.overflow ≡ true → EverDropped made calls
    set e = go (flag_joined n made blank_paper h calls e)
      where
        go : (made.poison.overflow ≡ true) ⊎ Joined made blank_paper calls → EverDropped made calls
        go (inl f) = absurd (true≢false (sym f ∙ ap (λ (s : PoisonState). s.overflow) (made_empty v p)))
        go (inr j) = record { first = j.first; rest = j.rest; prefix = j.prefix; line = j.line; dropped = j.dropped }

    only : EverDropped made calls → (history made blank_paper calls).device.poison.overflow ≡ true
    only e = rw e.prefix (joined_flag n made blank_paper h e.first e.rest e.line e.dropped)
