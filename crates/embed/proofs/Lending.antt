-- The arrays of the poison list of a device in memory, lent at once: what a walk of `f(&mut d.poison.starts, &mut d.poison.lengths, &mut d.poison.kinds, ..)` behind a pointer needs beside the logic's
-- `denote.Lend`, which lends what lies in memory for a lifetime and takes it back.
--     slots_out    the device's cell gives the three arrays as they lie in memory, side by side, and the way back (`Back`): a struct's place is its fields' places
--     slots_in     the arrays, with whatever lists they hold then, and the way back give the device's cell with these lists in their place, and that what lies there is a device
--     with_slots   the device with other arrays
-- Assumes `Logic` (of it `at_field` and `at_fields`).
use mathlib.Core.Path.{refl, subst}
use Prim.Native.Nat.{ℕ, zero, ◌+◌}
use mathlib.Core.List.{List, [], ◌∷◌, map}
use seplogic.Ra.Ura.{Ura}
use base.Fraction.{full_share}
use mir.Syntax.{Width, w8, w32, w64, Tys, tnil, tcons, ty_int, ty_bool, ty_array}
use mir.Val.{Val, Vals, vnil, vcons, vint, vbool, vstruct}
use base.Logic.{SProp, ent, sep, all, emp, wand, all_e, apply∗}
use base.Fml.{Fml, fsep, fat}
use prog.Model.{fields_at}
use types.Logic.{Logic, sem}
use contract.Monad.{fact}
use types.Kit.{⋆, ‵, raw, ◌⊛◌, ◌$◌, ◌∵◌, !, qed, move, use1, use2, rewrite, split, fsplit, fjoin, fpick, fpack, group, assume, each, frame, done}
use types.Part.{sub, whole}
use denote.RattleType.{RattleType}
use denote.Laws.{Is, shows}
use denote.Memory.{cell_at, part_at, part_of}
use denote.Builtin.{u8, u32}
use denote.Plain.{UInt, uint_vals, uint_Tells, uint_Makes}
use denote.Array.{Array, array_val, Array-Makes, Array-Tells}
use denote.Steps.{owned, facts, heard}
use denote.Struct.Laws as LL
use Rattle.poison.specs.State.{list_of}
use Rattle.poison.specs.contracts.list.PoisonList as PoisonListT
use Rattle.poison.proofs.list.PoisonList.TheLaws as PoisonListL
use Rattle.mailbox.specs.declared.device.Device.{Device}
use Rattle.mailbox.specs.contracts.device.Device as DeviceT
use Rattle.mailbox.proofs.device.Device.TheLaws as DeviceL
use Rattle.embed.proofs.Steps.{so, holds}
use Rattle.embed.proofs.Indexed.{put_field}

-- ---- an array of numbers that is a field of a struct: the value of its cell, and that it is one of n numbers of that width
abbrev val : Width → List ℕ → Val
val w xs = array_val (map (λ (e : ℕ). vint w e) xs)

abbrev Slots : Width → ℕ → List ℕ → Type 0
Slots w n xs = Is (Array (UInt w) n) xs (val w xs ∷ [])

-- its cell is the array as it lies in memory
module _ {M : Type 1} {𝓤 : Ura M} (𝓛 : Logic 𝓤) (w : Width) (n : ℕ) (b o : ℕ) (xs : List ℕ) where
  open 𝓛 use {H}

  abbrev R : RattleType
  R = Array (UInt w) n

  abbrev Cell : SProp 𝓤
  Cell = H.at full_share (ty_array (ty_int w) n) b o (val w xs)

  lies_in : Slots w n xs → ent 𝓤 Cell (sem 𝓛 (part_at R full_share xs b o))
  unfolding part_of
  lies_in is =
      qed 𝓛 (‵ (fat full_share (ty_array (ty_int w) n) b o (val w xs)) ∷ []) ∵ owned ! R (Is R) (Array-Makes 𝓛 (UInt w) (uint_Makes 𝓛 w) n) xs (val w xs ∷ []) is $
      move ! (1 ∷ 0 ∷ []) $ fjoin ! $ fpack ! (List Val) (λ us. fsep (cell_at full_share R.mir us b o) (R.own_val xs us)) (val w xs ∷ []) $ done !

  lies_out : ent 𝓤 (sem 𝓛 (part_at R full_share xs b o)) (sep 𝓤 Cell (fact 𝓤 (Slots w n xs)))
  unfolding part_of
  lies_out =
      qed 𝓛 (‵ (part_at R full_share xs b o) ∷ []) ∵ fpick ! (λ vs. fsplit ! $ move ! (1 ∷ []) $ facts ! R (Is R) (shows 𝓛 R) xs vs (λ is.
      rewrite ! 0 (λ (us : List Val). ‵ (cell_at full_share R.mir us b o)) (Array-Tells (UInt w) (uint_vals w) (uint_Tells w) n xs vs is) refl $
      holds ! (so 𝓤 (subst (λ (us : List Val). Is R xs us) (Array-Tells (UInt w) (uint_vals w) (uint_Tells w) n xs vs is) is)) $ done !))

-- ---- a device with other arrays
abbrev mach : Device → Val
mach d = LL.val DeviceT.the_type DeviceL.the_laws d

abbrev Held : Device → Type 0
Held d = Is DeviceT.the_row d (mach d ∷ [])

abbrev pub with_slots : Device → List ℕ → List ℕ → List ℕ → Device
with_slots d starts lengths kinds =
    record {
      volatile = d.volatile;
      persistent = d.persistent;
      clock = d.clock;
      policy = d.policy;
      logs = d.logs;
      poison = list_of starts lengths kinds d.poison.count d.poison.overflow d.poison.overflow_time;
      media = d.media;
    }

module _ (d : Device) (was : Held d) where
  list_held : Is PoisonListT.the_row d.poison (LL.val PoisonListT.the_type PoisonListL.the_laws d.poison ∷ [])
  list_held = (LL.owed DeviceT.the_type DeviceL.the_laws d _ was).1.1.1.1.1.0

  starts_held : Slots w32 256 d.poison.starts
  starts_held = (LL.owed PoisonListT.the_type PoisonListL.the_laws d.poison _ list_held).0

  lengths_held : Slots w32 256 d.poison.lengths
  lengths_held = (LL.owed PoisonListT.the_type PoisonListL.the_laws d.poison _ list_held).1.0

  kinds_held : Slots w8 256 d.poison.kinds
  kinds_held = (LL.owed PoisonListT.the_type PoisonListL.the_laws d.poison _ list_held).1.1.0

  with_slots_held : (starts lengths kinds : List ℕ) → Slots w32 256 starts → Slots w32 256 lengths → Slots w8 256 kinds → Held (with_slots d starts lengths kinds)
  with_slots_held starts lengths kinds s l k =
      let owed = LL.owed DeviceT.the_type DeviceL.the_laws d _ was in
      let rest = (LL.owed PoisonListT.the_type PoisonListL.the_laws d.poison _ list_held).1.1.1 in
      let list = LL.owes PoisonListT.the_type PoisonListL.the_laws (with_slots d starts lengths kinds).poison (s, (l, (k, rest))) in
      LL.owes DeviceT.the_type DeviceL.the_laws (with_slots d starts lengths kinds) (owed.0, (owed.1.0, (owed.1.1.0, (owed.1.1.1.0, (owed.1.1.1.1.0, (list, owed.1.1.1.1.1.1))))))

-- ---- its cell, and those of the arrays. The list lies 5,320 bytes into the device (proofs/Header.antt)
abbrev fields : Tys
fields = tcons (ty_array (ty_int w32) 256) (tcons (ty_array (ty_int w32) 256) (tcons (ty_array (ty_int w8) 256) (tcons (ty_int w64) (tcons ty_bool (tcons (ty_int w64) tnil)))))

module _ {M : Type 1} {𝓤 : Ura M} (𝓛 : Logic 𝓤) (b o : ℕ) (d : Device) where
  open 𝓛 use {H}

  abbrev cell_s : Val → Fml
  cell_s v = fat full_share (ty_array (ty_int w32) 256) b (o + 5320 + 0) v

  abbrev cell_l : Val → Fml
  cell_l v = fat full_share (ty_array (ty_int w32) 256) b (o + 5320 + 1024) v

  abbrev cell_k : Val → Fml
  cell_k v = fat full_share (ty_array (ty_int w8) 256) b (o + 5320 + 2048) v

  abbrev cell_list : Val → Fml
  cell_list v = fat full_share PoisonListL.mir b (o + 5320) v

  abbrev cell : Val → Fml
  cell v = fat full_share DeviceL.mir b o v

  -- the fields' values, with these of the arrays; the device's with them
  abbrev values : Val × Val × Val → Vals
  values x = vcons x.0 (vcons x.1 (vcons x.2 (vcons (vint w64 d.poison.count) (vcons (vbool d.poison.overflow) (vcons (vint w64 d.poison.overflow_time) vnil)))))

  abbrev device : Val × Val × Val → Val
  device x = put_field (mach d) 5 (vstruct (values x))

  -- the ways back: to the device's cell from the list's, to the list's from its fields', and both
  abbrev OfDevice : Val → SProp 𝓤
  OfDevice u = wand 𝓤 (sem 𝓛 (cell_list u)) (sem 𝓛 (cell (put_field (mach d) 5 u)))

  abbrev Fields : Vals → SProp 𝓤
  Fields us = fields_at 𝓤 H full_share fields zero b (o + 5320) us

  abbrev OfList : Vals → SProp 𝓤
  OfList us = wand 𝓤 (Fields us) (sem 𝓛 (cell_list (vstruct us)))

  abbrev Cells : Val × Val × Val → SProp 𝓤
  Cells x = sep 𝓤 (sem 𝓛 (cell_s x.0)) (sep 𝓤 (sem 𝓛 (cell_l x.1)) (sem 𝓛 (cell_k x.2)))

  abbrev pub Back : Val × Val × Val → SProp 𝓤
  Back x = wand 𝓤 (Cells x) (sem 𝓛 (cell (device x)))

  -- the values of the arrays' cells, at these lists
  abbrev vals : List ℕ → List ℕ → List ℕ → Val × Val × Val
  vals starts lengths kinds = (val w32 starts, val w32 lengths, val w8 kinds)

  abbrev now : Val × Val × Val
  now = vals d.poison.starts d.poison.lengths d.poison.kinds

  -- the fields beside the arrays
  abbrev Rest : SProp 𝓤
  Rest = sep 𝓤 (H.at full_share (ty_int w64) b (o + 5320 + 2304) (vint w64 d.poison.count)) (sep 𝓤 (H.at full_share ty_bool b (o + 5320 + 2312) (vbool d.poison.overflow)) (sep 𝓤 (H.at full_share (ty_int w64) b (o + 5320 + 2320) (vint w64 d.poison.overflow_time)) (emp 𝓤)))

  apart : ent 𝓤 (sem 𝓛 (cell (mach d))) (sep 𝓤 (Cells now) (all 𝓤 Back))
  apart =
      qed 𝓛 (‵ (cell (mach d)) ∷ []) ∵ use1 𝓛 (‵ (cell_list (vstruct (values now))) ⊛ raw (all 𝓤 OfDevice)) (sub {𝓛 = 𝓛} {K = Unit {0}} tt 5 refl (whole tt)).out $ split ! $
      use1 𝓛 ((‵ (cell_s now.0) ⊛ ‵ (cell_l now.1) ⊛ ‵ (cell_k now.2) ⊛ raw Rest) ⊛ raw (all 𝓤 OfList)) (𝓛.laws.at_fields full_share (PoisonListT.the_type).name fields b (o + 5320) (values now)) $ split ! $
      split ! $ move ! (1 ∷ []) $ split ! $ move ! (1 ∷ []) $ split ! $
      -- [the types; the fields beside the arrays; the lengths; the starts; the way back to the list; the way back to the device]
      move ! (3 ∷ 2 ∷ 0 ∷ []) $ group ! 3 $ frame ! $ each ! Back (λ x. assume ! (‵ (cell_s x.0) ⊛ ‵ (cell_l x.1) ⊛ ‵ (cell_k x.2)) $ split ! $ move ! (1 ∷ []) $ split ! $
      move ! (2 ∷ 0 ∷ 1 ∷ 3 ∷ []) $ group ! 4 $ move ! (1 ∷ []) $ use1 𝓛 (raw (OfList (values x))) (all_e 𝓤 OfList (values x)) $ move ! (1 ∷ 0 ∷ []) $
      use2 𝓛 (‵ (cell_list (vstruct (values x)))) (apply∗ 𝓤 (Fields (values x)) (sem 𝓛 (cell_list (vstruct (values x))))) $
      move ! (1 ∷ []) $ use1 𝓛 (raw (OfDevice (vstruct (values x)))) (all_e 𝓤 OfDevice (vstruct (values x))) $ move ! (1 ∷ 0 ∷ []) $
      use2 𝓛 (‵ (cell (device x))) (apply∗ 𝓤 (sem 𝓛 (cell_list (vstruct (values x)))) (sem 𝓛 (cell (device x)))) $ done !)

  together : (starts lengths kinds : List ℕ) → ent 𝓤 (sep 𝓤 (Cells (vals starts lengths kinds)) (all 𝓤 Back)) (sem 𝓛 (cell (mach (with_slots d starts lengths kinds))))
  together starts lengths kinds =
      qed 𝓛 (raw (Cells (vals starts lengths kinds)) ∷ raw (all 𝓤 Back) ∷ []) ∵ move ! (1 ∷ []) $ use1 𝓛 (raw (Back (vals starts lengths kinds))) (all_e 𝓤 Back (vals starts lengths kinds)) $ move ! (1 ∷ 0 ∷ []) $
      use2 𝓛 (‵ (cell (mach (with_slots d starts lengths kinds)))) (apply∗ 𝓤 (Cells (vals starts lengths kinds)) (sem 𝓛 (cell (mach (with_slots d starts lengths kinds))))) $ done !

  -- ---- the arrays as they lie in memory
  abbrev pub Starts : List ℕ → Fml
  Starts xs = part_at (Array u32 256) full_share xs b (o + 5320 + 0)

  abbrev pub Lengths : List ℕ → Fml
  Lengths xs = part_at (Array u32 256) full_share xs b (o + 5320 + 1024)

  abbrev pub Kinds : List ℕ → Fml
  Kinds xs = part_at (Array u8 256) full_share xs b (o + 5320 + 2048)

  module _ (was : Is DeviceT.the_row d (mach d ∷ [])) where
    pub slots_out : ent 𝓤 (H.at full_share DeviceL.mir b o (mach d)) (⋆ 𝓛 (‵ (Starts d.poison.starts) ∷ ‵ (Lengths d.poison.lengths) ∷ ‵ (Kinds d.poison.kinds) ∷ raw (all 𝓤 Back) ∷ []))
    slots_out =
        qed 𝓛 (‵ (cell (mach d)) ∷ []) ∵ use1 𝓛 ((‵ (cell_s now.0) ⊛ ‵ (cell_l now.1) ⊛ ‵ (cell_k now.2)) ⊛ raw (all 𝓤 Back)) apart $ split ! $ split ! $
        use1 𝓛 (‵ (Starts d.poison.starts)) (lies_in 𝓛 w32 256 b (o + 5320 + 0) d.poison.starts (starts_held d was)) $ move ! (1 ∷ []) $ split ! $
        use1 𝓛 (‵ (Lengths d.poison.lengths)) (lies_in 𝓛 w32 256 b (o + 5320 + 1024) d.poison.lengths (lengths_held d was)) $ move ! (1 ∷ []) $
        use1 𝓛 (‵ (Kinds d.poison.kinds)) (lies_in 𝓛 w8 256 b (o + 5320 + 2048) d.poison.kinds (kinds_held d was)) $ move ! (2 ∷ 1 ∷ 0 ∷ []) $ done !

    pub slots_in : (starts lengths kinds : List ℕ) → ent 𝓤 (⋆ 𝓛 (‵ (Starts starts) ∷ ‵ (Lengths lengths) ∷ ‵ (Kinds kinds) ∷ raw (all 𝓤 Back) ∷ []))
        (sep 𝓤 (H.at full_share DeviceL.mir b o (mach (with_slots d starts lengths kinds))) (fact 𝓤 (Is DeviceT.the_row (with_slots d starts lengths kinds) (mach (with_slots d starts lengths kinds) ∷ []))))
    slots_in starts lengths kinds =
        qed 𝓛 (‵ (Starts starts) ∷ ‵ (Lengths lengths) ∷ ‵ (Kinds kinds) ∷ raw (all 𝓤 Back) ∷ []) ∵
        use1 𝓛 (‵ (cell_s (val w32 starts)) ⊛ raw (fact 𝓤 (Slots w32 256 starts))) (lies_out 𝓛 w32 256 b (o + 5320 + 0) starts) $ split ! $ move ! (1 ∷ []) $ heard ! (Slots w32 256 starts) (λ s. move ! (1 ∷ []) $
        use1 𝓛 (‵ (cell_l (val w32 lengths)) ⊛ raw (fact 𝓤 (Slots w32 256 lengths))) (lies_out 𝓛 w32 256 b (o + 5320 + 1024) lengths) $ split ! $ move ! (1 ∷ []) $ heard ! (Slots w32 256 lengths) (λ l. move ! (2 ∷ []) $
        use1 𝓛 (‵ (cell_k (val w8 kinds)) ⊛ raw (fact 𝓤 (Slots w8 256 kinds))) (lies_out 𝓛 w8 256 b (o + 5320 + 2048) kinds) $ split ! $ move ! (1 ∷ []) $ heard ! (Slots w8 256 kinds) (λ k.
        move ! (2 ∷ 1 ∷ 0 ∷ []) $ group ! 3 $ use2 𝓛 (‵ (cell (mach (with_slots d starts lengths kinds)))) (together starts lengths kinds) $ holds ! (so 𝓤 (with_slots_held d was starts lengths kinds s l k)) $ done !)))
