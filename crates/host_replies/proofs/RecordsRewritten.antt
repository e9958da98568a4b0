-- One record of an accepted reply, by what is read of it (document 02, W-202: "a reply read gives each field 01 names in it, and written again the same bytes"): the
-- fields of a log and of a poison record have every bit of the record's bytes. (An event record is read as its bytes.) Assumes nothing.
use mathlib.Core.Path.{◌≡◌, refl, sym, ap, ◌∙◌}
use mathlib.Core.List.{List, ◌++◌}
use Prim.Native.Nat.{ℕ, ◌+◌, ◌-◌, ◌*◌, ◌/◌, ◌%◌, ◌≤◌, ◌<◌}
use native.Mathlib.Omega.{arith}
use lib.ListN.{length, drop, get_or, length-drop}
use lib.Seq.{get_or-drop}
use borrow.Author.Tests.{lt-ltb}
use Rattle.wire.specs.Wire.{le, part, field}
use Rattle.wire.proofs.Laws.{field_step}
use Rattle.host_replies.specs.declared.counted.Kind.TheVariants.{SupportedLogs, PoisonList}
use Rattle.host_replies.specs.Counted.{header_size, count_place, record_size, record_reserved}
use Rattle.host_replies.specs.Replies.{supported_log, poison_record}
use Rattle.host_replies.specs.Fields.{Bytes, Good, log_bytes, poison_bytes}
use Rattle.host_replies.proofs.CountedLaws.{list_high, record_first, record_high}
use Rattle.host_replies.proofs.Bytes.{bytes_drop, le_field, next_field, parts_joined, zero_part}
use Rattle.host_replies.proofs.Accepted.{clear_at}

-- ---- a log
-- The identifier and the size read of the i-th record are its 20 bytes.
pub supported_log_rewritten : (bs : List ℕ) → Bytes bs → Good SupportedLogs bs → (i : ℕ) → i < field bs (count_place SupportedLogs) 2
    → log_bytes (supported_log (drop (header_size SupportedLogs) bs) i) ≡ part (20 * i) 20 (drop (header_size SupportedLogs) bs)
unfolding header_size record_size supported_log log_bytes
supported_log_rewritten bs b g i l =
    let h = g.header in
    let e = g.long in
    let d = length-drop 8 bs in
    let rs = drop 8 bs in
    rw (lt-ltb i (length rs / 20) (omega arith)) (next_field (bytes_drop 8 b) (20 * i) 16 (20 * i + 16) 4 20 refl refl (omega arith))

-- ---- a poison record
module _ (bs : List ℕ) (b : Bytes bs) (g : Good PoisonList bs) where
  -- no reserved bit of byte j of the i-th record is set
  byte_clear : (i j : ℕ) → j < 16 → 16 * i + j < length (drop 32 bs) → record_reserved j (get_or (drop 32 bs) (16 * i + j) 0) ≡ 0
  byte_clear i j small l =
      let d = length-drop 32 bs in
      let p : ℕ = 32 + (16 * i + j) in
      let place : (p - 32) % 16 ≡ j = omega arith in
      rw (get_or-drop 32 bs (16 * i + j) 0)
      (list_high p (get_or bs p 0) (λ e. omega arith) (omega arith) (omega arith) (ap (λ (x : ℕ). record_reserved x (get_or bs p 0)) (sym place))
      ∙ clear_at PoisonList bs g p (omega arith))

  module _ (i : ℕ) (inside : 16 * i + 16 ≤ length (drop 32 bs)) where
    -- bits 3 to 5 of the address are zero, so that the address of the line and the type are all of it
    address_whole : field (drop 32 bs) (16 * i) 8 / 64 * 64 + field (drop 32 bs) (16 * i) 8 % 8 ≡ field (drop 32 bs) (16 * i) 8
    address_whole =
        let step = field_step (drop 32 bs) (16 * i) 7 refl (omega arith) in
        let place : 16 * i ≡ 16 * i + 0 = omega arith in
        let first : get_or (drop 32 bs) (16 * i) 0 / 8 % 8 ≡ 0 =
        ap (λ (x : ℕ). get_or (drop 32 bs) x 0 / 8 % 8) place ∙ record_first 0 (get_or (drop 32 bs) (16 * i + 0) 0) refl ∙ byte_clear i 0 (omega arith) (omega arith)
        in
        omega arith

    -- its last four bytes are zero
    last_zero : (j : ℕ) → 16 * i + 12 ≤ j → j < 16 * i + 12 + 4 → get_or (drop 32 bs) j 0 ≡ 0
    last_zero j low high =
        let place : j ≡ 16 * i + (j - 16 * i) = omega arith in
        ap (λ (x : ℕ). get_or (drop 32 bs) x 0) place
        ∙ record_high (j - 16 * i) (get_or (drop 32 bs) (16 * i + (j - 16 * i)) 0) (λ e. omega arith) (omega arith)
        ∙ byte_clear i (j - 16 * i) (omega arith) (omega arith)

    fields_whole : le 8 (field (drop 32 bs) (16 * i) 8) ++ le 4 (field (drop 32 bs) (16 * i + 8) 4) ++ le 4 0 ≡ part (16 * i) 16 (drop 32 bs)
    fields_whole =
        let c = bytes_drop 32 b in
        rw (
          le_field (drop 32 bs) (16 * i) 8 c (omega arith),
          next_field c (16 * i) 8 (16 * i + 8) 4 12 refl refl (omega arith),
          zero_part (drop 32 bs) (16 * i + 12) 4 (omega arith) last_zero,
        )
        (parts_joined (16 * i) 12 (16 * i + 12) 4 16 (drop 32 bs) refl refl)

  -- The address, the type and the length read of the i-th record are its 16 bytes.
  pub poison_record_rewritten : (i : ℕ) → i < field bs (count_place PoisonList) 2
      → poison_bytes (poison_record (drop (header_size PoisonList) bs) i) ≡ part (16 * i) 16 (drop (header_size PoisonList) bs)
  unfolding header_size record_size poison_record poison_bytes
  poison_record_rewritten i l =
      let h = g.header in
      let e = g.long in
      let d = length-drop 32 bs in
      rw (lt-ltb i (length (drop 32 bs) / 16) (omega arith), address_whole i (omega arith)) (fields_whole i (omega arith))
