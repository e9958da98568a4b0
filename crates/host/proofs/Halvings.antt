-- What the functions of the walk know at each place, over plain variables: of a range that is halved, and of one that is not. Assumes nothing.
use mathlib.Core.Path.{◌≡◌, refl, sym, ap, ap₂, ◌∙◌}
use mathlib.Core.Bool.{Bool, true, false, cond}
use mathlib.Core.List.{List, ◌++◌}
use Prim.Native.Nat.{ℕ, ◌+◌, ◌-◌, ◌*◌, ◌/◌, ◌≤◌, ◌<◌}
use native.Mathlib.Omega.{arith}
use lib.ListN.{length, take, drop, length-append}
use Rattle.wire.specs.Wire.{part, splice}
use Rattle.wire.proofs.Laws.{joined}
use Rattle.poison.specs.State as P
use Rattle.poison.specs.State.{Entry}
use Rattle.poison.specs.Range.{sharing, records_bytes}
use Rattle.poison.proofs.Laws.{length_records}
use Rattle.mailbox.specs.declared.device.Device.{Device}
use Rattle.commands.specs.Numbers.{poison_records}
use Rattle.mailbox.specs.State.{lines_of, state_of}
use Rattle.list_commands.specs.PoisonCommands.{list_reply}
use Rattle.host.specs.Walk.{halves, first_half}
use Rattle.host.specs.Walking.{held, walk_of, Askable, RangeAsked, IsHalved, IsWhole, Copied, Wrote}
use Rattle.host.proofs.WalkLaws.{two_lines, walk_halved, walk_whole}
use Rattle.host.proofs.WalkLines.{length_walk}
use Rattle.host.proofs.WalkRecords.{records_append}
use Rattle.host.proofs.WalkCalls.{range_askable, range_few, by_device, too_many}
use Rattle.host.proofs.WalkReplies.{length_reply, few_carried, half_of_reply, records_part}

-- a walk has no more records than lines
pub few_records : {d : Device} {a n : ℕ} → Askable d a n → length (walk_of d a n) ≤ n
few_records {d} {a} {n} q = length_walk (held d) (lines_of (state_of d)) q.valid.poison.chain poison_records (omega arith) a n

-- the two halves at the length that the code found
halved_at : {d : Device} {a n : ℕ} (h : ℕ) → h ≡ n / 2 → 1 < n → Askable d a n
    → walk_of d a n ≡ walk_of d a (n / 2) ++ walk_of d (a + n / 2) (n - n / 2) → IsHalved d a n h
halved_at {d} {a} {n} h e l q w =
    let is : walk_of d a n ≡ walk_of d a h ++ walk_of d (a + h) (n - h) = rw e w in
    record {
      lines = l;
      half = e;
      first = record { valid = q.valid; inside = omega (arith, q.inside) };
      second = record { valid = q.valid; inside = omega (arith, q.inside) };
      is = is;
      sizes = ap length is ∙ length-append (walk_of d a h) (walk_of d (a + h) (n - h));
      few = few_records q;
    }

-- the case that the walk's test gives, from what the code found
data Either (d : Device) (a n h : ℕ) : Type 0 where
  in_two : h ≡ n / 2 → halves poison_records (held d) a n ≡ true → Either d a n h
  in_one : h ≡ 0 → halves poison_records (held d) a n ≡ false → Either d a n h

module _ {d : Device} {a n r h : ℕ} {before s : List ℕ} (q : Askable d a n) (asked : RangeAsked d a n r before s) (test : h ≡ first_half s n) where
  by_test : h ≡ cond (halves poison_records (held d) a n) (n / 2) 0
  unfolding splice
  by_test =
      test ∙ ap (λ (l : List ℕ). first_half l n) asked.bytes
      ∙ half_of_reply (P.state_of d.poison) a n (drop (0 + length (list_reply (P.state_of d.poison) a n)) before)

  either : Either d a n h
  either = go (halves poison_records (held d) a n) by_test in_two in_one
    where
      go : (b : Bool) → h ≡ cond b (n / 2) 0 → (h ≡ n / 2 → b ≡ true → Either d a n h) → (h ≡ 0 → b ≡ false → Either d a n h) → Either d a n h
      go true e f g = f e refl
      go false e f g = g e refl

  pub halved : 0 < h → IsHalved d a n h
  halved some = go either
    where
      go : Either d a n h → IsHalved d a n h
      go (in_two e t) = halved_at h e (two_lines poison_records (held d) a n t) q (walk_halved poison_records (held d) a n t)
      go (in_one e t) = absurd (omega arith)

  pub whole : h ≤ 0 → 2048 ≤ length before → IsWhole d a n r s
  whole none room = go either
    where
      go : Either d a n h → IsWhole d a n r s
      go (in_two e t) = let l = two_lines poison_records (held d) a n t in absurd (omega arith)
      go (in_one e t) =
          let w = walk_whole poison_records (held d) a n t in
          let size : r ≡ 32 + 16 * length (walk_of d a n)
          = asked.size ∙ length_reply (P.state_of d.poison) a n ∙ ap (λ (l : List Entry). 32 + 16 * length l) (sym w) in
          let long : r - 32 ≡ 16 * length (take poison_records (sharing a n (held d))) = omega (arith, ap length w) in
          record {
            size = size;
            few = omega (arith, ap length w, few_carried (P.state_of d.poison) a n);
            bytes = ap₂ (λ (k : ℕ) (l : List ℕ). part 32 k l) long asked.bytes ∙ records_part (P.state_of d.poison) a n before room ∙ ap records_bytes (sym w);
          }

-- ---- records written
-- those of both halves, one after the other
pub wrote_halves : {d : Device} {a n h at next r : ℕ} {xs ys zs : List ℕ} → IsHalved d a n h → at + 16 * length (walk_of d a n) ≤ length xs
    → Wrote (walk_of d a h) at next xs ys → Wrote (walk_of d (a + h) (n - h)) next r ys zs → Wrote (walk_of d a n) at r xs zs
wrote_halves {d} {a} {n} {h} {at} {next} {r} {xs} {ys} {zs} w room p q =
    let es = walk_of d a h in
    let fs = walk_of d (a + h) (n - h) in
    let s = w.sizes in
    let m = length_records es in
    let o = length_records fs in
    record {
      next = omega (arith, p.next, q.next);
      bytes =
          q.bytes ∙ ap (splice next (records_bytes fs)) p.bytes
          ∙ joined at next (records_bytes es) (records_bytes fs) xs (omega (arith, p.next)) (omega (arith, p.next))
          ∙ ap (λ (l : List ℕ). splice at l xs) (sym (records_append es fs)) ∙ ap (λ (l : List Entry). splice at (records_bytes l) xs) (sym w.is);
    }

-- those of one reply
pub wrote_whole : {d : Device} {a n size at r : ℕ} {s xs ys : List ℕ} → IsWhole d a n size s → Copied s size at r xs ys → Wrote (walk_of d a n) at r xs ys
wrote_whole {d} {a} {n} {size} {at} {r} {s} {xs} {ys} w k =
    record { next = omega (arith, w.size, k.next); bytes = k.bytes ∙ ap (λ (l : List ℕ). splice at l xs) w.bytes }

-- what the check looks for in `walk`
pub ruleset walking = (range_askable, range_few, few_records, by_device, too_many)
