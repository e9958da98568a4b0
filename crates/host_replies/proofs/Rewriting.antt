-- A reply that is accepted, "written again the same bytes" (document 02, W-202): its header from the fields read is its header; and the reply written from those
-- fields and the bytes after the header is the same reply, for each of the twelve commands. Assumes nothing.
use mathlib.Core.Path.{◌≡◌, refl, sym, ap, ◌∙◌}
use mathlib.Core.List.{List, [], ◌∷◌, ◌++◌}
use Prim.Native.Nat.{ℕ, ◌+◌, ◌*◌, ◌≤◌, ◌<◌}
use native.Mathlib.Omega.{arith}
use lib.ListN.{length, take, drop, get_or, length-drop, take-append-drop}
use lib.Seq.{get_or-drop}
use borrow.Author.Tests.{le-leb, lt-ltb}
use Rattle.wire.specs.Wire.{le, field}
use Rattle.host_replies.specs.declared.counted.Kind.{Kind}
use Rattle.host_replies.specs.declared.counted.Kind.TheVariants.{EventRecords, SupportedLogs, PoisonList}
use Rattle.events.specs.Get.{header}
use Rattle.wire.specs.Done.{written}
use Rattle.host_replies.specs.Counted.{header_size, count_place, record_size, first_reserved, verdict_of, writing_verdict, rewritten}
use Rattle.host_replies.specs.Replies.{event_fields, read_event_records, event_header, read_policy, read_timestamp, read_supported_logs, logs_header, read_log, list_fields, read_poison_list, list_header}
use Rattle.host_replies.specs.Replies.{identity_fields, read_identity, identity_limits, identity_bytes, write_identity, read_nothing, write_bytes}
use Rattle.host_replies.specs.Fields.{Bytes, Good, SameBytes}
use Rattle.wire.proofs.Laws.{part_whole}
use Rattle.host_replies.proofs.CountedLaws.{written_verdict, events_first, events_middle, logs_middle, list_first, list_middle}
use Rattle.host_replies.proofs.Bytes.{le_field, field_small, parts_joined, next_field, front_field, front_zero, front, none_reserved}
use Rattle.host_replies.proofs.Accepted.{verdict_zero, clear_at, events_code, logs_code, list_code, policy_code, time_code, identity_code, nothing_code}
use Rattle.host_replies.proofs.Accepted.{events_taken, logs_taken, list_taken, policy_taken, time_taken, identity_taken}

-- ---- an accepted reply written again
module _ (k : Kind) (bs : List ℕ) (g : Good k bs) where
  -- no reserved bit of its records is set
  records_clear : first_reserved k (header_size k) (drop (header_size k) bs) ≡ header_size k + length (drop (header_size k) bs)
  records_clear =
      none_reserved k (header_size k) (drop (header_size k) bs)
      (λ i l. rw (get_or-drop (header_size k) bs i 0) (clear_at k bs g (header_size k + i) (omega (arith, length-drop (header_size k) bs))))

  -- With a header that is the one read, it is the same reply.
  pub same_bytes : (header : List ℕ) → header ≡ take (header_size k) bs → SameBytes k (field bs (count_place k) 2) header bs
  unfolding rewritten
  same_bytes header e =
      let h = g.header in
      let l = length-drop (header_size k) bs in
      let count : length (drop (header_size k) bs) ≡ record_size k * field bs (count_place k) 2 = omega (arith, g.long) in
      let v : (room : ℕ) → length bs ≤ room → writing_verdict k (field bs (count_place k) 2) (drop (header_size k) bs) room ≡ verdict_of 0 0 =
      λ room fits. sym (written_verdict k (field bs (count_place k) 2) (drop (header_size k) bs) room (omega arith) count records_clear)
      in
      record {
        written = v;
        bytes = λ room fits. rw (v room fits) (ap (λ (x : List ℕ). x ++ drop (header_size k) bs) e ∙ take-append-drop (header_size k) bs);
      }

-- ---- the header from the fields read is the header
module _ {bs : List ℕ} (b : Bytes bs) where
  events_header : Good EventRecords bs → event_header (event_fields bs) ≡ take (header_size EventRecords) bs
  unfolding event_header event_fields header header_size
  events_header g =
      let l : 32 ≤ length bs = g.header in
      let zero_1 : (i : ℕ) → 1 ≤ i → i < 2 → get_or bs i 0 ≡ 0 = λ i low high. events_first i (get_or bs i 0) (omega arith) ∙ clear_at EventRecords bs g i (omega arith) in
      let zero_22 : (i : ℕ) → 22 ≤ i → i < 32 → get_or bs i 0 ≡ 0 =
      λ i low high. events_middle i (get_or bs i 0) (λ e. omega arith) low high ∙ clear_at EventRecords bs g i (omega arith)
      in
      rw (
        le_field bs 0 1 b (omega arith),
        front_zero bs 1 1 2 refl (omega arith) zero_1,
        front_field b 2 2 4 refl (omega arith),
        front_field b 4 8 12 refl (omega arith),
        front_field b 12 8 20 refl (omega arith),
        front_field b 20 2 22 refl (omega arith),
        front_zero bs 22 10 32 refl l zero_22,
      )
      (front 32 bs)

  logs_read_header : Good SupportedLogs bs → logs_header (field bs 0 2) ≡ take (header_size SupportedLogs) bs
  unfolding logs_header header_size
  logs_read_header g =
      let l : 8 ≤ length bs = g.header in
      let zero_2 : (i : ℕ) → 2 ≤ i → i < 8 → get_or bs i 0 ≡ 0 = λ i low high. logs_middle i (get_or bs i 0) low high ∙ clear_at SupportedLogs bs g i (omega arith) in
      rw (le_field bs 0 2 b (omega arith), front_zero bs 2 6 8 refl l zero_2) (front 8 bs)

  list_read_header : Good PoisonList bs → list_header (list_fields bs) ≡ take (header_size PoisonList) bs
  unfolding list_header list_fields header_size
  list_read_header g =
      let l : 32 ≤ length bs = g.header in
      let zero_1 : (i : ℕ) → 1 ≤ i → i < 2 → get_or bs i 0 ≡ 0 = λ i low high. list_first i (get_or bs i 0) (omega arith) ∙ clear_at PoisonList bs g i (omega arith) in
      let zero_12 : (i : ℕ) → 12 ≤ i → i < 32 → get_or bs i 0 ≡ 0 =
      λ i low high. list_middle i (get_or bs i 0) (λ e. omega arith) low high ∙ clear_at PoisonList bs g i (omega arith)
      in
      rw (
        le_field bs 0 1 b (omega arith),
        front_zero bs 1 1 2 refl (omega arith) zero_1,
        front_field b 2 8 10 refl (omega arith),
        front_field b 10 2 12 refl (omega arith),
        front_zero bs 12 20 32 refl l zero_12,
      )
      (front 32 bs)

  identity_read : length bs ≡ 69 → identity_bytes (identity_fields bs) ≡ bs
  unfolding identity_bytes identity_limits identity_fields
  identity_read e =
      rw (
        front_field b 16 8 24 refl (omega arith),
        front_field b 24 8 32 refl (omega arith),
        front_field b 32 8 40 refl (omega arith),
        front_field b 40 8 48 refl (omega arith),
        le_field bs 48 2 b (omega arith),
        next_field b 48 2 50 2 4 refl refl (omega arith),
        next_field b 48 4 52 2 6 refl refl (omega arith),
        next_field b 48 6 54 2 8 refl refl (omega arith),
        next_field b 48 8 56 4 12 refl refl (omega arith),
        next_field b 48 12 60 3 15 refl refl (omega arith),
        next_field b 48 15 63 2 17 refl refl (omega arith),
        next_field b 48 17 65 2 19 refl refl (omega arith),
        next_field b 48 19 67 2 21 refl refl (omega arith),
        parts_joined 0 48 48 21 69 bs refl refl,
      )
      (part_whole 69 bs e)

-- ---- THE THEOREM of the replies with a count: read with code 0 and written again from the fields read and the bytes after the header, they are the same bytes
pub events_rewritten : (bs : List ℕ) → Bytes bs → (read_event_records bs).code ≡ 0
    → SameBytes EventRecords (read_event_records bs).fields.count (event_header (read_event_records bs).fields) bs
unfolding event_fields count_place
events_rewritten bs b z =
    let v = events_code bs z in
    let g = verdict_zero EventRecords bs v in
    rw (events_taken bs v) (same_bytes EventRecords bs g (event_header (event_fields bs)) (events_header b g))

pub logs_rewritten : (bs : List ℕ) → Bytes bs → (read_supported_logs bs).code ≡ 0
    → SameBytes SupportedLogs (read_supported_logs bs).count (logs_header (read_supported_logs bs).count) bs
unfolding count_place
logs_rewritten bs b z =
    let v = logs_code bs z in
    let g = verdict_zero SupportedLogs bs v in
    rw (logs_taken bs v) (same_bytes SupportedLogs bs g (logs_header (field bs 0 2)) (logs_read_header b g))

pub list_rewritten : (bs : List ℕ) → Bytes bs → (read_poison_list bs).code ≡ 0
    → SameBytes PoisonList (read_poison_list bs).fields.count (list_header (read_poison_list bs).fields) bs
unfolding list_fields count_place
list_rewritten bs b z =
    let v = list_code bs z in
    let g = verdict_zero PoisonList bs v in
    rw (list_taken bs v) (same_bytes PoisonList bs g (list_header (list_fields bs)) (list_read_header b g))

-- ---- THE THEOREM of the other replies: read with code 0 and written again into a room that they fit, they are the same bytes
fits_written : (bs : List ℕ) (room : ℕ) → length bs ≤ room → write_bytes bs room ≡ written bs
unfolding write_bytes
fits_written bs room fits = rw (le-leb (length bs) room fits)

pub policy_rewritten : (bs : List ℕ) (room : ℕ) → (read_policy bs).code ≡ 0 → length bs ≤ room → write_bytes (read_policy bs).settings room ≡ written bs
policy_rewritten bs room z fits = rw (policy_taken bs (policy_code bs z)) (fits_written bs room fits)

pub time_rewritten : (bs : List ℕ) (room : ℕ) → Bytes bs → (read_timestamp bs).code ≡ 0 → length bs ≤ room
    → write_bytes (le 8 (read_timestamp bs).time) room ≡ written bs
time_rewritten bs room b z fits =
    let e = time_code bs z in
    rw (time_taken bs e, le_field bs 0 8 b (omega arith), part_whole 8 bs e) (fits_written bs room fits)

-- of Get Log, every byte is the log's
pub log_rewritten : (asked : ℕ) (bs : List ℕ) (room : ℕ) → read_log asked bs ≡ 0 → length bs ≤ room → write_bytes bs room ≡ written bs
log_rewritten asked bs room z fits = fits_written bs room fits

pub identity_rewritten : (bs : List ℕ) (room : ℕ) → Bytes bs → (read_identity bs).code ≡ 0 → length bs ≤ room
    → write_identity (read_identity bs).fields room ≡ written bs
unfolding write_identity identity_fields
identity_rewritten bs room b z fits =
    let e = identity_code bs z in
    rw (identity_taken bs e, le-leb 69 room (omega arith), lt-ltb (field bs 60 3) 16777216 (field_small bs 60 3 b (omega arith)), identity_read b e)

-- of the commands for which no reply is named, nothing
pub nothing_rewritten : (bs : List ℕ) (room : ℕ) → read_nothing bs ≡ 0 → write_bytes [] room ≡ written bs
unfolding write_bytes
nothing_rewritten bs room z = go bs (nothing_code bs z)
  where
    go : (l : List ℕ) → length l ≡ 0 → write_bytes [] room ≡ written l
    go [] e = rw (le-leb 0 room (omega arith))
    go (x ∷ l) e = absurd (omega arith)
