-- What the poison commands ensure of their answers (`ListDone`, and the reply of Get Poison List), by their cases. Assumes nothing.
use mathlib.Core.Path.{◌≡◌, refl, sym, ap, ap₂, ◌∙◌, subst}
use mathlib.Core.Bool.{Bool, true, false, cond, true≢false}
use mathlib.Core.List.{List}
use Prim.Native.Nat.{ℕ, ◌+◌, ◌*◌, ◌≤◌, ◌<◌, min}
use native.Mathlib.Omega.{arith}
use native.Mathlib.Decide.{ℕ_discrete}
use native.Mathlib.Nat.{min_comm}
use lib.ListN.{length, take, length-append, length-take}
use borrow.Author.Tests.{ne_eqb}
use Rattle.wire.specs.Wire.{Read, field, splice}
use Rattle.poison.specs.State.{PoisonState, capacity, entries_of, ValidList, ValidSlots, state_of}
use Rattle.poison.specs.Inject.{injects, adds, after_inject, Injects}
use Rattle.poison.specs.Clear.{after_clear, Clears}
use Rattle.poison.specs.Range.{sharing, records_bytes, Wrote}
use Rattle.poison.specs.declared.list.PoisonList.{PoisonList}
use Rattle.poison.proofs.Laws.{valid_more, slots_more, length_records, adds_taken}
use Rattle.wire.specs.Returns.{success, inject_limit, need, Refused}
use Rattle.commands.specs.Numbers.{unit_lines, most_units, mailbox_size, poison_records}
use Rattle.settings.specs.Reply.{replied, no_reply}
use Rattle.list_commands.specs.PoisonCommands.{ListChange, line_of, line_code, range_code, inject_poison, inject_adds, clear_poison, list_header, list_reply, get_poison_list}
use Rattle.list_commands.specs.Relations.{ListDone, InjectDone}
use Rattle.wire.specs.Done.{Writes as Replied}
use Rattle.settings.proofs.Laws.{no_bytes, bytes_written, field_before}
use Rattle.list_commands.proofs.Headers.{header_length}
use Rattle.list_commands.proofs.Addresses.{line_inside}

-- a command that changes the list, by its number and the list that follows
pub list_done : {o : ListChange} {s : PoisonState} {lines code : ℕ} {l r : PoisonList} → o ≡ record { code = code; list = s } → state_of r ≡ s
    → (Refused code → r ≡ l) → ValidList lines r → ListDone o lines l code r
list_done {o} {s} {lines} {code} {l} {r} e n f v =
    subst (λ (x : ListChange). ListDone x lines l code r) (sym e) (record { code = refl; list = n; refused = f; valid = v })

module _ (lines : ℕ) (s : PoisonState) (p : List ℕ) where
  -- refused by the checks of the address
  module _ (code : ℕ) (e : code ≡ line_code lines (field p 0 8)) (f : code ≡ 0 → ⊥) where
    pub inject_refused : inject_poison lines s p ≡ record { code = code; list = s }
    unfolding inject_poison
    inject_refused = simp (sym e, ne_eqb _ _ f)

    pub clear_refused : (time : ℕ) → clear_poison lines s p time ≡ record { code = code; list = s }
    unfolding clear_poison
    clear_refused time = simp (sym e, ne_eqb _ _ f)

    pub refused_adds : false ≡ inject_adds lines s p
    unfolding inject_adds
    refused_adds = simp (sym e, ne_eqb _ _ f)

  -- past those checks
  module _ (e : line_code lines (field p 0 8) ≡ 0) where
    pub inject_taken : injects s (line_of (field p 0 8)) ≡ true → inject_poison lines s p ≡ record { code = success; list = after_inject s (line_of (field p 0 8)) }
    unfolding inject_poison
    inject_taken t = simp (e, t)

    pub inject_full : injects s (line_of (field p 0 8)) ≡ false → inject_poison lines s p ≡ record { code = inject_limit; list = s }
    unfolding inject_poison
    inject_full t = simp (e, t)

    pub taken_adds : adds s (line_of (field p 0 8)) ≡ inject_adds lines s p
    unfolding inject_adds
    taken_adds = simp e

    pub clear_taken : (time : ℕ) → clear_poison lines s p time ≡ record { code = success; list = after_clear s (line_of (field p 0 8)) time }
    unfolding clear_poison
    clear_taken time = simp e

  -- one that adds an entry is answered Success
  pub adding_code : inject_adds lines s p ≡ true → (inject_poison lines s p).code ≡ success
  unfolding inject_adds
  adding_code t = go (ℕ_discrete (line_code lines (field p 0 8)) 0)
    where
      go : Dec (line_code lines (field p 0 8) ≡ 0) → (inject_poison lines s p).code ≡ success
      go (yes e) = ap (λ (c : ListChange). c.code) (inject_taken e (adds_taken s (line_of (field p 0 8)) (taken_adds e ∙ t)))
      go (no f) = absurd (true≢false (sym t ∙ sym (refused_adds _ refl f)))

  -- Get Poison List
  pub get_refused : (code : ℕ) → code ≡ range_code lines (field p 0 8) (field p 8 8) → (code ≡ 0 → ⊥) → get_poison_list lines s p ≡ no_reply code
  unfolding get_poison_list
  get_refused code e f = simp (sym e, ne_eqb _ _ f)

  pub get_taken : range_code lines (field p 0 8) (field p 8 8) ≡ 0 → get_poison_list lines s p ≡ replied (list_reply s (line_of (field p 0 8)) (field p 8 8))
  unfolding get_poison_list
  get_taken e = simp e

-- the reply for n lines from a on: the records written first, then the header before them
module _ (s : PoisonState) (a n found count : ℕ) (isf : found ≡ length (sharing a n s.entries)) (isc : count ≡ min poison_records found) where
  count_is : count ≡ length (take poison_records (sharing a n s.entries))
  count_is = isc ∙ ap (min poison_records) isf ∙ sym (length-take poison_records (sharing a n s.entries))

  pub reply_length : 32 + 16 * count ≡ length (list_reply s a n)
  unfolding list_reply
  reply_length =
      let h = header_length s.overflow s.overflow_time (length (sharing a n s.entries)) (length (take poison_records (sharing a n s.entries))) in
      let r = length_records (take poison_records (sharing a n s.entries)) in
      let c = count_is in
      simp length-append (omega arith)

  pub reply_written : (xs : List ℕ) → 2048 ≤ length xs
      → splice 0 (list_header s.overflow s.overflow_time found count) (splice 32 (records_bytes (take poison_records (sharing a n s.entries))) xs)
      ≡ splice 0 (list_reply s a n) xs
  unfolding list_reply
  reply_written xs h =
      let rs = records_bytes (take poison_records (sharing a n s.entries)) in
      let r = length_records (take poison_records (sharing a n s.entries)) in
      let c = count_is in
      ap (λ (x : ℕ). splice 0 (list_header s.overflow s.overflow_time x count) (splice 32 rs xs)) isf
      ∙ ap (λ (x : ℕ). splice 0 (list_header s.overflow s.overflow_time (length (sharing a n s.entries)) x) (splice 32 rs xs)) c
      ∙ field_before 32 _ rs xs (sym (header_length _ _ _ _)) (omega arith)

-- ---- the answers, from what the list's functions ensure at the line of an address that was read from the payload and checked
module _ {lines : ℕ} {l : PoisonList} {p : List ℕ} {address code : ℕ} (v : ValidList lines l) (e : Read p 0 8 address) (h : code ≡ line_code lines address) where
  field_code : code ≡ line_code lines (field p 0 8)
  field_code = h ∙ ap (line_code lines) e.value

  pub inject_refusal : (code ≡ 0 → ⊥) → InjectDone lines l p code false l
  inject_refusal f =
      record {
        done = list_done (inject_refused lines (state_of l) p code field_code f) refl (λ g. refl) v;
        added = refused_adds lines (state_of l) p code field_code f;
      }

  pub clear_refusal : (time : ℕ) → (code ≡ 0 → ⊥) → ListDone (clear_poison lines (state_of l) p time) lines l code l
  clear_refusal time f = list_done (clear_refused lines (state_of l) p code field_code f time) refl (λ g. refl) v

  module _ (z : code ≡ 0) where
    at_field : line_code lines (field p 0 8) ≡ 0
    at_field = sym field_code ∙ z

    below : line_of (field p 0 8) < lines
    below = line_inside lines (field p 0 8) at_field

    pub inject_done : {b more : Bool} {r : PoisonList} → Injects l (line_of address) b more r → InjectDone lines l p (need b inject_limit 0) more r
    inject_done {b} {more} {r} a = record { done = go b here; added = here.added ∙ taken_adds lines (state_of l) p at_field }
      where
        here : Injects l (line_of (field p 0 8)) b more r
        here = subst (λ (x : ℕ). Injects l (line_of x) b more r) e.value a

        either : (c : Bool) → injects (state_of l) (line_of (field p 0 8)) ≡ c → state_of r ≡ cond c (after_inject (state_of l) (line_of (field p 0 8))) (state_of l)
        either c d = here.state ∙ ap (λ (x : Bool). cond x (after_inject (state_of l) (line_of (field p 0 8))) (state_of l)) d

        go : (c : Bool) → Injects l (line_of (field p 0 8)) c more r → ListDone (inject_poison lines (state_of l) p) lines l (need c inject_limit 0) r
        go true i = list_done (inject_taken lines (state_of l) p at_field (sym i.done)) (either true (sym i.done)) (λ f. absurd (f.not_success refl)) (i.valid lines v below)
        go false i = list_done (inject_full lines (state_of l) p at_field (sym i.done)) (either false (sym i.done)) (λ f. i.refused refl) (i.valid lines v below)

    pub clear_success : {time : ℕ} {r : PoisonList} → Clears l (line_of address) time r → ListDone (clear_poison lines (state_of l) p time) lines l code r
    clear_success {time} {r} a =
        let here = subst (λ (x : ℕ). Clears l (line_of x) time r) e.value a in
        list_done (clear_taken lines (state_of l) p at_field time ∙ ap (λ (x : ℕ). record { code = x; list = after_clear (state_of l) (line_of (field p 0 8)) time }) (sym z))
        here.state (λ f. absurd (f.not_success z)) (here.valid lines v)

module _ (lines : ℕ) {p : List ℕ} {address n code : ℕ} (e : Read p 0 8 address) (m : Read p 8 8 n) (h : code ≡ range_code lines address n) where
  range_at : code ≡ range_code lines (field p 0 8) (field p 8 8)
  range_at = h ∙ ap₂ (range_code lines) e.value m.value

  pub get_refusal : (s : PoisonState) {before : List ℕ} → (code ≡ 0 → ⊥) → Replied (get_poison_list lines s p) (record { code = code; length = 0 }) before before
  get_refusal s f = no_bytes (get_refused lines s p code range_at f)

  pub get_reply : (l : PoisonList) {found count : ℕ} {before middle after : List ℕ} → code ≡ 0
      → Wrote (entries_of l) (line_of address) n poison_records 32 found before middle → count ≡ min found poison_records
      → after ≡ splice 0 (list_header l.overflow l.overflow_time found count) middle → mailbox_size ≤ length before
      → Replied (get_poison_list lines (state_of l) p) (record { code = success; length = 32 + 16 * count }) before after
  get_reply l {found} {count} {before} {middle} {after} z w c written room =
      let s = state_of l in
      let k = line_of (field p 0 8) in
      let here : Wrote s.entries k (field p 8 8) poison_records 32 found before middle
      = subst (λ (x : ℕ). Wrote s.entries k x poison_records 32 found before middle) m.value
      (subst (λ (x : ℕ). Wrote s.entries (line_of x) n poison_records 32 found before middle) e.value w) in
      let isc : count ≡ min poison_records found = c ∙ min_comm found poison_records in
      bytes_written (get_taken lines s p (sym range_at ∙ z)) (reply_length s k (field p 8 8) found count here.number isc)
      (written ∙ ap (splice 0 (list_header s.overflow s.overflow_time found count)) here.bytes ∙ reply_written s k (field p 8 8) found count here.number isc before room)

-- ---- on a device of so many units
-- a device of at most the most units has not too many lines, and its list is valid on them and on the largest device
module _ {units lines : ℕ} (few : units ≤ most_units) (e : lines ≡ unit_lines * units) where
  pub device_lines : lines ≤ capacity
  device_lines = omega (arith, few, e)

  pub device_slots : {count : ℕ} {starts lengths kinds : List ℕ} → ValidSlots (unit_lines * units) count starts lengths kinds → ValidSlots lines count starts lengths kinds
  device_slots = slots_more (omega (arith, e))

  pub device_list : {l : PoisonList} → ValidList (unit_lines * units) l → ValidList lines l
  device_list = valid_more (omega (arith, e))

  pub device_any : {l : PoisonList} → ValidList (unit_lines * units) l → ValidList capacity l
  device_any = valid_more (omega (arith, few))
