-- How many records a walk gives, and how deep it goes (document 02, W-202): each halving cuts at most one entry in two, and a range is halved only where more entries
-- share a line with it than a reply carries. So on every device a room of 320 records, 5,120 bytes, is enough, and 26 halvings are. Assumes nothing.
use mathlib.Core.Path.{◌≡◌, refl, sym, ap, ap₂, ◌∙◌, subst}
use mathlib.Core.Bool.{Bool, true, false, cond}
use mathlib.Core.List.{List, [], ◌∷◌, ◌++◌}
use Prim.Native.Nat.{ℕ, zero, suc, ◌+◌, ◌-◌, ◌*◌, ◌/◌, ◌^◌, ◌≤◌, ◌<◌}
use native.Mathlib.Nat.{mul_assoc, mul-add, suc-mul, pow-suc, mul-le-mul_left}
use native.Mathlib.Decide.{ℕ_discrete}
use native.Mathlib.Omega.{arith}
use lib.Dec.{ltb}
use lib.ListN.{length, take, length-append, length-take}
use borrow.Author.Tests.{ltb-true, lt-ltb, le-ltb}
use Rattle.wire.specs.Returns.{small_buffer}
use Rattle.wire.proofs.Laws.{and_parts}
use Rattle.poison.specs.Runs.{end, one_if, slots, Chain}
use Rattle.poison.specs.State.{Entry, shape, shapes, capacity}
use Rattle.poison.specs.Range.{kept, shared_start, shared_end, shares, cut_to, sharing}
use Rattle.poison.proofs.Laws.{chain_sharing, length_records, chain_length}
use Rattle.mailbox.specs.declared.device.Device.{Device}
use Rattle.commands.specs.Numbers.{poison_records}
use Rattle.mailbox.specs.State.{ValidDevice, lines_of, state_of}
use Rattle.list_commands.specs.PoisonCommands.{line_of}
use Rattle.host.specs.Walk.{halves, walked, walk}
use Rattle.host.specs.Walking.{held, walk_of, walk_answer}
use Rattle.host.proofs.WalkLaws.{two_lines, walk_halved, walk_whole}
use Rattle.host.proofs.WalkLines.{whole}
use Rattle.host.proofs.WalkCalls.{range_few}
use Rattle.host.proofs.WalkTheorems.{taken, none_refused, small_only}

-- ---- how many entries share a line with a range
abbrev shared : List Entry → ℕ → ℕ → ℕ
shared es a n = length (sharing a n es)

length_kept : (b : Bool) (e : Entry) (es : List Entry) → length (kept b e es) ≡ one_if b + length es
unfolding kept
length_kept true e es = omega arith
length_kept false e es = omega arith

shared_more : (e : Entry) (es : List Entry) (a n : ℕ) → shared (e ∷ es) a n ≡ one_if (shares a n e) + shared es a n
unfolding sharing
shared_more e es a n = length_kept (shares a n e) (cut_to a n e) (sharing a n es)

one_most : (b : Bool) → one_if b ≤ 1
one_most true = omega arith
one_most false = omega arith

-- no more than there are
shared_few : (es : List Entry) (a n : ℕ) → shared es a n ≤ length es
unfolding sharing
shared_few [] a n = omega arith
shared_few (e ∷ es) a n = let i = shared_few es a n in let m = shared_more e es a n in let o = one_most (shares a n e) in omega arith

-- none where the range ends before the first of them
shared_none : (lo hi : ℕ) (es : List Entry) (a n : ℕ) → Chain lo hi (shapes es) → a + n ≤ lo → shared es a n ≡ 0
unfolding sharing
shared_none lo hi [] a n c h = refl
shared_none lo hi (e ∷ es) a n c h =
    let i = shared_none (end (shape e)) hi es a n c.2 (omega arith) in
    let b : shares a n e ≡ false = le-ltb (shared_start a e) (shared_end a n e) (omega arith) in
    shared_more e es a n ∙ rw b (omega arith)

-- ---- of a range and its two parts: none of the parts has more, and together they have at most one more, the entry with lines in both
record Parts (first second all : ℕ) : Type 0 where
  pub of_first : first ≤ all
  pub of_second : second ≤ all
  pub of_both : first + second ≤ all + 1

-- one entry more, whose tests give x, y and z: where it is in the second part, none after it is in the first
parts_more : (x z first second all : ℕ) (y : Bool) → x ≤ z → one_if y ≤ z → z ≤ 1 → (y ≡ true → first ≡ 0) → Parts first second all
    → Parts (x + first) (one_if y + second) (z + all)
parts_more x z first second all true f g h k p =
    let e = k refl in record { of_first = omega (arith, p.of_first); of_second = omega (arith, p.of_second); of_both = omega (arith, p.of_second) }
parts_more x z first second all false f g h k p =
    record { of_first = omega (arith, p.of_first); of_second = omega (arith, p.of_second); of_both = omega (arith, p.of_both) }

one_if_le : (x z : Bool) → (x ≡ true → z ≡ true) → one_if x ≤ one_if z
one_if_le true z f = rw (f refl) (omega arith)
one_if_le false z f = omega arith

module _ (a m n : ℕ) where
  parts : (lo hi : ℕ) (es : List Entry) → Chain lo hi (shapes es) → Parts (shared es a m) (shared es (a + m) n) (shared es a (m + n))
  unfolding sharing
  parts lo hi [] c = record { of_first = omega arith; of_second = omega arith; of_both = omega arith }
  parts lo hi (e ∷ es) c =
      rw (shared_more e es a m, shared_more e es (a + m) n, shared_more e es a (m + n))
      (parts_more (one_if (shares a m e)) (one_if (shares a (m + n) e)) (shared es a m) (shared es (a + m) n) (shared es a (m + n)) (shares (a + m) n e)
      (one_if_le (shares a m e) (shares a (m + n) e) in_first) (one_if_le (shares (a + m) n e) (shares a (m + n) e) in_second) (one_most (shares a (m + n) e)) none_after
      (parts (end (shape e)) hi es c.2))
    where
      in_first : shares a m e ≡ true → shares a (m + n) e ≡ true
      in_first t = let h = ltb-true (shared_start a e) (shared_end a m e) t in lt-ltb (shared_start a e) (shared_end a (m + n) e) (omega arith)

      in_second : shares (a + m) n e ≡ true → shares a (m + n) e ≡ true
      in_second t = let h = ltb-true (shared_start (a + m) e) (shared_end (a + m) n e) t in lt-ltb (shared_start a e) (shared_end a (m + n) e) (omega arith)

      none_after : shares (a + m) n e ≡ true → shared es a m ≡ 0
      none_after t = let h = ltb-true (shared_start (a + m) e) (shared_end (a + m) n e) t in shared_none (end (shape e)) hi es a m c.2 (omega arith)

-- ---- the walk
-- a step of the bound: both halves by their bounds, with a surplus of p and of q
step : (most first second all u v p q t : ℕ) → most * u ≤ most * first + p → most * v ≤ most * second + q → p + q ≤ t → first + second ≤ all + 1 → most < all
    → most * (u + v) ≤ most * all + (t + (all - 1))
step most first second all u v p q t hu hv ht hs hm =
    let d = mul-add most u v in
    let e = mul-add most first second in
    let f = mul-le-mul_left most hs in
    let g = mul-add most all 1 in
    omega arith

-- where each surplus is one for each entry but the first, at each of some halvings
surplus : (depth first second all : ℕ) → first ≤ all → second ≤ all → first + second ≤ all + 1 → depth * (first - 1) + depth * (second - 1) ≤ depth * (all - 1)
surplus depth first second all f g h =
    let few : first - 1 + (second - 1) ≤ all - 1 = omega arith in
    let d = mul-add depth (first - 1) (second - 1) in
    let m = mul-le-mul_left depth few in
    omega arith

module _ (es : List Entry) (hi : ℕ) (c : Chain 0 hi (shapes es)) (most : ℕ) (some : 0 < most) where
  -- a range that is halved has more entries than a reply carries
  many : (a n : ℕ) → halves most es a n ≡ true → most < shared es a n
  unfolding halves
  many a n h = ltb-true most (shared es a n) (and_parts (ltb most (shared es a n)) (ltb 1 n) h).0

  not_halved : (depth a n : ℕ) → halves most es a n ≡ false → most * length (walk most es a n) ≤ most * shared es a n + depth * (shared es a n - 1)
  not_halved depth a n h = rw (whole es hi c most some a n h) (omega arith)

  -- At most one entry is cut at each of `depth` halvings, for each `most` entries: in a range of at most 2 ^ depth lines.
  pub walk_bound : (depth a n : ℕ) → n ≤ 2 ^ depth → most * length (walk most es a n) ≤ most * shared es a n + depth * (shared es a n - 1)
  walk_bound zero a n u = go (halves most es a n) refl
    where
      go : (b : Bool) → halves most es a n ≡ b → most * length (walk most es a n) ≤ most * shared es a n + 0 * (shared es a n - 1)
      go true h = let t = two_lines most es a n h in absurd (omega arith)
      go false h = not_halved 0 a n h
  walk_bound (suc depth) a n u = go (halves most es a n) refl (λ b m w. walk_bound depth b m w)
    where
      go : (b : Bool) → halves most es a n ≡ b → ((b m : ℕ) → m ≤ 2 ^ depth → most * length (walk most es b m) ≤ most * shared es b m + depth * (shared es b m - 1))
          → most * length (walk most es a n) ≤ most * shared es a n + suc depth * (shared es a n - 1)
      go true h i =
          let p2 : 2 ^ suc depth ≡ 2 ^ depth * 2 = pow-suc 2 depth in
          let e : n / 2 + (n - n / 2) ≡ n = omega arith in
          let first = shared es a (n / 2) in
          let second = shared es (a + n / 2) (n - n / 2) in
          let all = shared es a n in
          let s : Parts first second all = subst (λ (k : ℕ). Parts first second (shared es a k)) e (parts a (n / 2) (n - n / 2) 0 hi es c) in
          let l : length (walk most es a n) ≡ length (walk most es a (n / 2)) + length (walk most es (a + n / 2) (n - n / 2))
          = ap length (walk_halved most es a n h) ∙ length-append (walk most es a (n / 2)) (walk most es (a + n / 2) (n - n / 2)) in
          rw (l, suc-mul depth (all - 1))
          (step most first second all (length (walk most es a (n / 2))) (length (walk most es (a + n / 2) (n - n / 2)))
          (depth * (first - 1)) (depth * (second - 1)) (depth * (all - 1)) (i a (n / 2) (omega arith)) (i (a + n / 2) (n - n / 2) (omega arith))
          (surplus depth first second all s.of_first s.of_second s.of_both) s.of_both (many a n h))
      go false h i = not_halved (suc depth) a n h

  -- ---- how deep it goes
  -- a range of no more lines than a reply has records is not halved
  few_whole : (a n : ℕ) → n ≤ most → halves most es a n ≡ false
  few_whole a n u = go (halves most es a n) refl
    where
      go : (b : Bool) → halves most es a n ≡ b → b ≡ false
      go true h = let m = many a n h in let l = chain_length a (a + n) (sharing a n es) (chain_sharing a n 0 hi es c) in absurd (omega arith)
      go false h = refl

  -- and so one of at most `most` * 2 ^ depth lines is halved at most `depth` times
  deep : (depth a n : ℕ) → n ≤ most * 2 ^ depth → walked most depth es a n ≡ walk most es a n
  unfolding walked
  deep zero a n u = sym (walk_whole most es a n (few_whole a n (omega arith)))
  deep (suc depth) a n u = go (halves most es a n) refl (λ b m w. deep depth b m w)
    where
      go : (b : Bool) → halves most es a n ≡ b → ((b m : ℕ) → m ≤ most * 2 ^ depth → walked most depth es b m ≡ walk most es b m)
          → cond b (walked most depth es a (n / 2) ++ walked most depth es (a + n / 2) (n - n / 2)) (take most (sharing a n es)) ≡ walk most es a n
      go true h i =
          let p2 : most * 2 ^ suc depth ≡ most * 2 ^ depth * 2 = ap (λ (x : ℕ). most * x) (pow-suc 2 depth) ∙ sym (mul_assoc most (2 ^ depth) 2) in
          ap₂ ◌++◌ (i a (n / 2) (omega arith)) (i (a + n / 2) (n - n / 2) (omega arith)) ∙ sym (walk_halved most es a n h)
      go false h i = sym (walk_whole most es a n h)

-- A walk on a device of any size halves a range at most 26 times: the recursion that follows it has at most 27 levels.
pub walk_deep : (es : List Entry) (hi : ℕ) → Chain 0 hi (shapes es) → (a n : ℕ) → n ≤ capacity → walked poison_records 26 es a n ≡ walk poison_records es a n
walk_deep es hi c a n u = deep es hi c poison_records (omega arith) 26 a n (omega arith)

-- A walk of a list of at most 256 entries, on a device of any size, has at most 320 records.
pub walk_few : (es : List Entry) (hi : ℕ) → Chain 0 hi (shapes es) → length es ≤ slots → (a n : ℕ) → n ≤ capacity → length (walk poison_records es a n) ≤ 320
walk_few es hi c few a n u =
    let b = walk_bound es hi c poison_records (omega arith) 32 a n (omega arith) in
    let s = shared_few es a n in
    omega arith

-- So a room of 5,120 bytes is never refused with 0100h.
pub walk_enough : (d : Device) (address n room : ℕ) → ValidDevice d → 5120 ≤ room → (walk_answer d address n room).code ≡ small_buffer → ⊥
walk_enough d address n room v h e =
    let t = small_only d address n room e in
    let f = range_few d address n v t.0 in
    let few : length (held d) ≤ slots = rw length-take (omega (arith, v.poison.few)) in
    let l = walk_few (held d) (lines_of (state_of d)) v.poison.chain few (line_of address) n (omega arith) in
    let m = t.1 in
    omega arith

-- However large the room is, a walk gives no more than 5,120 bytes.
pub walk_size : (d : Device) (address n room : ℕ) → ValidDevice d → length (walk_answer d address n room).bytes ≤ 5120
walk_size d address n room v = go (ℕ_discrete (walk_answer d address n room).code 0)
  where
    go : Dec ((walk_answer d address n room).code ≡ 0) → length (walk_answer d address n room).bytes ≤ 5120
    go (no refused) = let none : length (walk_answer d address n room).bytes ≡ 0 = ap length (none_refused d address n room refused) in omega (arith, none)
    go (yes e) =
        let t = taken d address n room e in
        let f = range_few d address n v t.1 in
        let few : length (held d) ≤ slots = rw length-take (omega (arith, v.poison.few)) in
        let l = walk_few (held d) (lines_of (state_of d)) v.poison.chain few (line_of address) n (omega arith) in
        let size : length (walk_answer d address n room).bytes ≡ 16 * length (walk_of d (line_of address) n) = ap length t.0 ∙ length_records (walk_of d (line_of address) n) in
        omega arith
