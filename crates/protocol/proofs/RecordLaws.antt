-- The record at the front of the bytes that are left, found part by part: two bytes for its mark, then its fixed part, its head, the whole of it. A reading that gives
-- a size looks at no byte past it (`Local`), so that neither more bytes read later nor the record taken out of the others change what it gives. Assumes nothing.
use mathlib.Core.Path.{◌≡◌, sym, ap, ap₂, subst, ◌∙◌}
use mathlib.Core.Logic.{⊎_elim, inl, inr}
use mathlib.Core.List.{List, [], ◌++◌, append-nil}
use Prim.Native.Nat.{ℕ, ◌*◌, ◌+◌, ◌-◌, ◌≤◌, ◌<◌}
use native.Mathlib.Omega.{arith}
use native.Mathlib.Decide.{dec_le, ℕ_discrete}
use lib.ListN.{length, take, drop, length-take, length-append}
use lib.Seq.{take-take, get_or-take}
use borrow.Author.Tests.{eq-eqb, ne_eqb, le-leb, lt-leb}
use Rattle.std.specs.Prelude.{Option, unwrap_or}
use Rattle.std.proofs.lemmas.Bool.Decides.{nat_tests}
use Rattle.wire.specs.Wire.{part}
use Rattle.protocol.specs.declared.stream.Stream.{Stream}
use Rattle.protocol.specs.declared.records.Found.{Found}
use Rattle.protocol.specs.Stream.{Fits, unread, count_left, left, Wants, Past}
use Rattle.protocol.specs.Records.{some_size, mark_of, whole, tells, told_fixed, told_head, front_fixed, front_head, front_size, OneRecord}
use Rattle.protocol.specs.Relations.{Finds, FindsBytes}
use Rattle.protocol.proofs.StreamLaws.{continues_then, length_left, front_more}

-- ---- some bytes at the front

pub whole_cut : (n : ℕ) (l : List ℕ) → length l < n → whole n l ≡ 0
unfolding whole
whole_cut n l h = rw (lt-leb n (length l) h)

pub whole_there : (n : ℕ) (l : List ℕ) → n ≤ length l → whole n l ≡ n
unfolding whole
whole_there n l h = rw (le-leb n (length l) h)

whole_some : (n : ℕ) (l : List ℕ) → (whole n l ≡ 0 → ⊥) → (n ≤ length l) × (whole n l ≡ n)
whole_some n l some = go (dec_le n (length l))
  where
    go : Dec (n ≤ length l) → (n ≤ length l) × (whole n l ≡ n)
    go (yes p) = (p, whole_there n l p)
    go (no p) = absurd (some (whole_cut n l (omega arith)))

tells_none : (f : List ℕ → ℕ) (n : ℕ) (l : List ℕ) → whole n l ≡ 0 → tells f n l ≡ 0
unfolding tells
tells_none f n l e = rw (eq-eqb (whole n l) 0 e)

tells_told : (f : List ℕ → ℕ) (n : ℕ) (l : List ℕ) → (whole n l ≡ 0 → ⊥) → tells f n l ≡ f (take n l)
unfolding tells
tells_told f n l some = rw (ne_eqb (whole n l) 0 some)

-- the number of a size told
pub number_told : {n m : ℕ} {r : Option ℕ} → m ≡ unwrap_or r 0 → r ≡ some_size n → m ≡ n
number_told p q = grind (arith, nat_tests)

-- ---- readings that look at no byte past what they give

abbrev pub Local : (List ℕ → ℕ) → Type 0
Local f = (l l' : List ℕ) → (f l ≡ 0 → ⊥) → take (f l) l' ≡ take (f l) l → f l ≤ length l' → f l' ≡ f l

pub local_whole : (n : ℕ) → Local (whole n)
local_whole n l l' some same fits =
    let told = whole_some n l some in
    whole_there n l' (omega (arith, told.1)) ∙ sym told.1

-- what the first bytes tell, where that is no less than they are
module _ (f g : List ℕ → ℕ) (grows : (l : List ℕ) → g l ≤ length l → (f (take (g l) l) ≡ 0 → ⊥) → g l ≤ f (take (g l) l)) (near : Local (λ r. whole (g r) r)) where
  told_again : (l l' : List ℕ) → (whole (g l) l ≡ 0 → ⊥) → take (g l) l' ≡ take (g l) l → g l ≤ length l' → tells f (g l') l' ≡ f (take (g l) l)
  told_again l l' some same fits =
      let told = whole_some (g l) l some in
      let kept : whole (g l') l' ≡ whole (g l) l = near l l' some (ap (λ (k : ℕ). take k l') told.1 ∙ same ∙ ap (λ (k : ℕ). take k l) (sym told.1)) (omega (arith, told.1)) in
      let some' : whole (g l') l' ≡ 0 → ⊥ = λ e. some (sym kept ∙ e) in
      let n : g l' ≡ g l = sym (whole_some (g l') l' some').1 ∙ kept ∙ told.1 in
      tells_told f (g l') l' some' ∙ ap (λ (k : ℕ). f (take k l')) n ∙ ap f same

  pub local_tells : Local (λ r. whole (tells f (g r) r) r)
  local_tells l l' some same fits =
      let k = tells f (g l) l in
      let all = whole_some k l some in
      let more : whole (g l) l ≡ 0 → ⊥ = λ e. some (ap (λ (j : ℕ). whole j l) (tells_none f (g l) l e) ∙ whole_there 0 l (omega arith)) in
      let head = whole_some (g l) l more in
      let this : k ≡ f (take (g l) l) = tells_told f (g l) l more in
      let enough : g l ≤ k = omega (arith, this, grows l head.0 (λ e. some (all.1 ∙ this ∙ e))) in
      let front : take k l' ≡ take k l = ap (λ (j : ℕ). take j l') (sym all.1) ∙ same ∙ ap (λ (j : ℕ). take j l) all.1 in
      let front' : take (g l) l' ≡ take (g l) l = sym (take-take (g l) k l' enough) ∙ ap (take (g l)) front ∙ take-take (g l) k l enough in
      let fits' : k ≤ length l' = omega (arith, all.1, fits) in
      let again : tells f (g l') l' ≡ k = told_again l l' more front' (omega arith) ∙ sym this in
      ap (λ (j : ℕ). whole j l') again ∙ whole_there k l' fits' ∙ sym all.1

-- of bytes that are one whole reading so told, the first ones told of it: they are there, and they are one whole reading themselves
module _ (f g : List ℕ → ℕ) (near : Local (λ r. whole (g r) r)) where
  pub first_part : (r : List ℕ) → OneRecord (λ r. whole (tells f (g r) r) r) r
      → (0 < g r) × (g r ≤ length r) × (f (take (g r) r) ≡ length r) × OneRecord (λ r. whole (g r) r) (take (g r) r)
  first_part r this =
      let some : whole (tells f (g r) r) r ≡ 0 → ⊥ = λ e. omega (arith, e, this.all, this.some) in
      let more : whole (g r) r ≡ 0 → ⊥ = λ e. some (ap (λ (j : ℕ). whole j r) (tells_none f (g r) r e) ∙ whole_there 0 r (omega arith)) in
      let told = whole_some (g r) r more in
      let long : length (take (g r) r) ≡ g r = rw length-take (omega (arith, told.0)) in
      let kept : whole (g (take (g r) r)) (take (g r) r) ≡ whole (g r) r =
      near r (take (g r) r) more
      (ap (λ (k : ℕ). take k (take (g r) r)) told.1 ∙ take-take (g r) (g r) r (omega arith) ∙ ap (λ (k : ℕ). take k r) (sym told.1))
      (omega (arith, told.1, long)) in
      let some' : 0 < g r = omega (arith, told.1, more) in (
        some',
        told.0,
        sym (tells_told f (g r) r more) ∙ sym (whole_some (tells f (g r) r) r some).1 ∙ this.all,
        record { all = kept ∙ told.1 ∙ sym long; some = omega (arith, long, some') },
      )

-- the mark is in the first bytes
pub mark_front : (n : ℕ) (r : List ℕ) → 2 ≤ n → mark_of (take n r) ≡ mark_of r
mark_front n r h = ap₂ (λ (a b : ℕ). a * 256 + b) (get_or-take n r 0 0 (omega arith)) (get_or-take n r 1 0 (omega arith))

-- a program's sizes: a fixed part holds the mark, a head its fixed part, and a record its head
pub record Sized (fixed : ℕ → ℕ) (head size : List ℕ → ℕ) : Type 0 where
  pub marked : (m : ℕ) → (fixed m ≡ 0 → ⊥) → 2 ≤ fixed m
  pub headed : (h : List ℕ) → fixed (mark_of h) ≡ length h → (head h ≡ 0 → ⊥) → length h ≤ head h
  pub sized : (h : List ℕ) → (size h ≡ 0 → ⊥) → length h ≤ size h

-- what the fixed part of a record tells, where its head has so many bytes
pub record Parts (fixed : ℕ → ℕ) (head size : List ℕ → ℕ) (r : List ℕ) : Type 0 where
  pub may : fixed (mark_of r) ≡ 0 → ⊥
  pub count : ℕ
  pub told : head (take (fixed (mark_of r)) r) ≡ count
  pub fields : fixed (mark_of r) ≤ count
  pub inside : count ≤ length r
  pub all : size (take count r) ≡ length r

module _ (fixed : ℕ → ℕ) (head size : List ℕ → ℕ) (sized : Sized fixed head size) where
  pub local_fixed : Local (front_fixed fixed)
  unfolding front_fixed
  local_fixed = local_tells (λ h. fixed (mark_of h)) (λ _. 2) (λ l _ some. sized.marked (mark_of (take 2 l)) some) (local_whole 2)

  pub local_head : Local (front_head fixed head)
  unfolding front_head front_fixed
  local_head = local_tells head (told_fixed fixed) grown local_fixed
    where
      -- a head holds its fixed part, which the mark tells of
      grown : (l : List ℕ) → told_fixed fixed l ≤ length l → (head (take (told_fixed fixed l) l) ≡ 0 → ⊥) → told_fixed fixed l ≤ head (take (told_fixed fixed l) l)
      grown l fits some = go (ℕ_discrete (whole 2 l) 0)
        where
          n : ℕ
          n = told_fixed fixed l

          go : Dec (whole 2 l ≡ 0) → n ≤ head (take n l)
          go (yes none) = omega (arith, tells_none (λ h. fixed (mark_of h)) 2 l none)
          go (no more) = more_of (ℕ_discrete n 0)
            where
              long : length (take n l) ≡ n
              long = rw length-take (omega arith)

              told : n ≡ fixed (mark_of (take 2 l))
              told = tells_told (λ h. fixed (mark_of h)) 2 l more

              more_of : Dec (n ≡ 0) → n ≤ head (take n l)
              more_of (yes none) = omega (arith, none)
              more_of (no wide) =
                  let two : 2 ≤ n = omega (arith, told, sized.marked (mark_of (take 2 l)) (λ e. wide (told ∙ e))) in
                  let same : fixed (mark_of (take n l)) ≡ length (take n l) = ap fixed (mark_front n l two ∙ sym (mark_front 2 l (omega arith))) ∙ sym told ∙ sym long in
                  omega (arith, long, sized.headed (take n l) same some)

  pub local_front : Local (front_size fixed head size)
  unfolding front_size front_head
  local_front =
      local_tells size (told_head fixed head)
      (λ l fits some. let long : length (take (told_head fixed head l) l) ≡ told_head fixed head l = rw length-take (omega arith) in omega (arith, long, sized.sized (take (told_head fixed head l) l) some))
      local_head

  -- a fixed part: of a mark that may stand there
  pub fixed_part : (r : List ℕ) → OneRecord (front_fixed fixed) r → (fixed (mark_of r) ≡ 0 → ⊥) × (fixed (mark_of r) ≡ length r)
  unfolding front_fixed
  fixed_part r this =
      let part = first_part (λ h. fixed (mark_of h)) (λ _. 2) (local_whole 2) r this in
      let told : fixed (mark_of r) ≡ length r = ap fixed (sym (mark_front 2 r (omega arith))) ∙ part.2 in
      ((λ e. omega (arith, e, told, this.some)), told)

  -- a head: its fixed part tells how long it is
  pub head_part : (r : List ℕ) → OneRecord (front_head fixed head) r
      → (fixed (mark_of r) ≡ 0 → ⊥) × (fixed (mark_of r) ≤ length r) × (head (take (fixed (mark_of r)) r) ≡ length r)
  unfolding front_head front_fixed
  head_part r this =
      let part = first_part head (told_fixed fixed) local_fixed r this in
      let n = told_fixed fixed r in
      let long : length (take n r) ≡ n = rw length-take (omega (arith, part.1)) in
      let whole = fixed_part (take n r) part.3 in
      let two : 2 ≤ n = omega (arith, long, whole.1, sized.marked (mark_of (take n r)) whole.0) in
      let same : fixed (mark_of r) ≡ n = ap fixed (sym (mark_front n r two)) ∙ whole.1 ∙ long in
      ((λ e. omega (arith, e, same, two)), omega (arith, same, part.1), ap (λ (k : ℕ). head (take k r)) same ∙ part.2)

  -- a whole record: its head tells how long it is
  pub parts : (r : List ℕ) → OneRecord (front_size fixed head size) r → Parts fixed head size r
  unfolding front_size front_head
  parts r this =
      let part = first_part size (told_head fixed head) local_head r this in
      let n = told_head fixed head r in
      let long : length (take n r) ≡ n = rw length-take (omega (arith, part.1)) in
      let told = head_part (take n r) part.3 in
      let two : 2 ≤ n = omega (arith, long, told.1, sized.marked (mark_of (take n r)) told.0) in
      let same : fixed (mark_of (take n r)) ≡ fixed (mark_of r) = ap fixed (mark_front n r two) in
      let fits : fixed (mark_of r) ≤ n = omega (arith, long, told.1, same) in
      record {
        may = λ e. told.0 (same ∙ e);
        count = n;
        told = ap head (sym (take-take (fixed (mark_of r)) n r fits) ∙ ap (λ (k : ℕ). take k (take n r)) (sym same)) ∙ told.2 ∙ long;
        fields = fits;
        inside = part.1;
        all = part.2;
      }

  -- so it has the two bytes of its mark
  pub mark_there : (r : List ℕ) → OneRecord (front_size fixed head size) r → 2 ≤ length r
  mark_there r this =
      let part = parts r this in
      omega (arith, part.fields, part.inside, sized.marked (mark_of r) part.may)

-- ---- what is found at a place

-- so many bytes wanted: they are cut, and the input has ended, or they are there
module _ (n : ℕ) {s here : Stream} {before after : List ℕ} (want : Wants n s here before after) (long : length after ≡ 65536) where
  many : length (left here after) ≡ count_left here
  many = length_left here after want.same.fits long

  pub finds_cut : count_left here < n → FindsBytes n s (record { size = 0; stream = here }) before after
  finds_cut short =
      record {
        found = record { size = sym (whole_cut n (left here after) (omega (arith, many))); sure = inl (want.short short); same = want.same; inside = omega arith };
        idle = want.idle;
      }

  pub finds_there : n ≤ count_left here → FindsBytes n s (record { size = n; stream = here }) before after
  finds_there there =
      record {
        found =
            record {
              size = sym (whole_there n (left here after) (omega (arith, many)));
              sure = inr (λ more. whole_there n (left here after ++ more) (omega (arith, many, length-append (left here after) more)));
              same = want.same;
              inside = there;
            };
        idle = want.idle;
      }

module _ (f g : List ℕ → ℕ) {s : Stream} {before : List ℕ} where
  -- nothing is found where the bytes that would tell of it are cut
  pub finds_none : (r : Found) {after : List ℕ} → Finds (λ r. whole (g r) r) s r before after → r.size ≡ 0 → Finds (λ r. whole (tells f (g r) r) r) s r before after
  finds_none r {after} found none =
      record {
        size = none ∙ sym (nothing (left r.stream after) (sym found.size ∙ none));
        sure = ⊎_elim (λ e. inl e) (λ h. inr (λ more. nothing (left r.stream after ++ more) (h more ∙ none) ∙ sym none)) found.sure;
        same = found.same;
        inside = found.inside;
      }
    where
      nothing : (l : List ℕ) → whole (g l) l ≡ 0 → whole (tells f (g l) l) l ≡ 0
      nothing l e = ap (λ (j : ℕ). whole j l) (tells_none f (g l) l e) ∙ whole_there 0 l (omega arith)

  -- what they tell, found after them: the bytes that they are stay as they were, whatever is read after them
  pub finds_told : (a b : Found) (k m : ℕ) {between after : List ℕ} → Local (λ r. whole (g r) r) → Finds (λ r. whole (g r) r) s a before between → (a.size ≡ 0 → ⊥)
      → k ≡ a.size → m ≡ f (take k (drop a.stream.at between)) → FindsBytes m a.stream b between after → length between ≡ 65536 → length after ≡ 65536
      → Finds (λ r. whole (tells f (g r) r) r) s b before after
  unfolding part
  finds_told a b k m {between} {after} near first some width this then long long' =
      record {
        size = then.found.size ∙ sym now;
        sure = ⊎_elim (λ e. inl e) (λ h. inr (λ more. agree more ∙ h more)) then.found.sure;
        same = continues_then first.same then.found.same;
        inside = then.found.inside;
      }
    where
      l : List ℕ
      l = left a.stream between

      rest : List ℕ
      rest = left b.stream after

      count : g l ≡ a.size
      count = sym (whole_some (g l) l (λ e. some (first.size ∙ e))).1 ∙ sym first.size

      told : f (take (g l) l) ≡ m
      told =
          ap (λ (j : ℕ). f (take j l)) (count ∙ sym width)
          ∙ ap f (take-take k (count_left a.stream) (drop a.stream.at between) (omega (arith, first.inside)))
          ∙ sym this

      agree : (more : List ℕ) → whole (tells f (g (rest ++ more)) (rest ++ more)) (rest ++ more) ≡ whole m (rest ++ more)
      agree more =
          let many : length rest ≡ count_left b.stream = length_left b.stream after then.found.same.fits long' in
          let have : length l ≡ count_left a.stream = length_left a.stream between first.same.fits long in
          let all : length (rest ++ more) ≡ length rest + length more = length-append rest more in
          let front : take (count_left a.stream) (rest ++ more) ≡ l = front_more (count_left a.stream) rest more l then.found.same.kept (omega (arith, then.found.same.more)) in
          let front' : take (g l) (rest ++ more) ≡ take (g l) l =
          sym (take-take (g l) (count_left a.stream) (rest ++ more) (omega (arith, count, first.inside))) ∙ ap (take (g l)) front in
          let kept : whole (g (rest ++ more)) (rest ++ more) ≡ whole (g l) l =
          near l (rest ++ more) (λ e. some (first.size ∙ e))
          (ap (λ (j : ℕ). take j (rest ++ more)) (sym first.size ∙ sym count) ∙ front' ∙ ap (λ (j : ℕ). take j l) (count ∙ first.size))
          (omega (arith, first.size, first.inside, then.found.same.more)) in
          let some' : whole (g (rest ++ more)) (rest ++ more) ≡ 0 → ⊥ = λ e. some (first.size ∙ sym kept ∙ e) in
          let n : g (rest ++ more) ≡ g l = sym (whole_some (g (rest ++ more)) (rest ++ more) some').1 ∙ kept ∙ sym first.size ∙ sym count in
          ap (λ (j : ℕ). whole j (rest ++ more))
          (tells_told f (g (rest ++ more)) (rest ++ more) some' ∙ ap (λ (j : ℕ). f (take j (rest ++ more))) n ∙ ap f front' ∙ told)

      now : whole (tells f (g rest) rest) rest ≡ whole m rest
      now = ap (λ (x : List ℕ). whole (tells f (g x) x) x) (sym (append-nil rest)) ∙ agree [] ∙ ap (whole m) (append-nil rest)

-- where so many bytes were found, they are as many as were wanted
pub found_all : (n : ℕ) {s : Stream} {r : Found} {before after : List ℕ} → FindsBytes n s r before after → (r.size ≡ 0 → ⊥) → r.size ≡ n
found_all n {s} {r} {before} {after} h some = h.found.size ∙ (whole_some n (left r.stream after) (λ e. some (h.found.size ∙ e))).1

-- what was found, taken out of the bytes left, is found again there: one whole reading
pub found_one : (reading : List ℕ → ℕ) {s : Stream} {r : Found} {before after : List ℕ} (n : ℕ) → Local reading → Finds reading s r before after → (r.size ≡ 0 → ⊥)
    → length after ≡ 65536 → n ≡ r.size → OneRecord reading (take n (drop r.stream.at after))
unfolding part
found_one reading {s} {r} {before} {after} n near found some long width =
    let l : List ℕ = left r.stream after in
    let many : length l ≡ count_left r.stream = length_left r.stream after found.same.fits long in
    let taken : take n (drop r.stream.at after) ≡ take r.size l =
    ap (λ (k : ℕ). take k (drop r.stream.at after)) width
    ∙ sym (take-take r.size (count_left r.stream) (drop r.stream.at after) found.inside) in
    let size : length (take r.size l) ≡ r.size = rw length-take (omega (arith, found.inside)) in
    let again : reading (take r.size l) ≡ reading l =
    near l (take r.size l) (λ e. some (found.size ∙ e))
    (ap (λ (k : ℕ). take k (take r.size l)) (sym found.size) ∙ take-take r.size r.size l (omega arith) ∙ ap (λ (k : ℕ). take k l) found.size)
    (omega (arith, found.size, size)) in
    subst (OneRecord reading) (sym taken)
    (record { all = again ∙ sym found.size ∙ sym size; some = omega (arith, size) })

-- so is a record, up to the place past it
pub one_record : (reading : List ℕ → ℕ) {s : Stream} {r : Found} {p : Stream} {before after : List ℕ} → Local reading → Finds reading s r before after → (r.size ≡ 0 → ⊥)
    → length after ≡ 65536 → Past r.stream r.size p → OneRecord reading (take (p.at - r.stream.at) (drop r.stream.at after))
one_record reading {s} {r} {p} near found some long step = found_one reading (p.at - r.stream.at) near found some long (omega (arith, step.at))

-- ---- the start of the input

pub unread_fits : {s : Stream} → s ≡ unread → Fits s
unread_fits e = subst Fits (sym e) (record { order = omega arith; input = omega arith; output = omega arith })
