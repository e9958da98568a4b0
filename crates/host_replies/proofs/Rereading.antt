-- A reply that is written from fields and records "read gives each field" (document 02, W-202): it is accepted, its fields are those given, and past its header stand the
-- records. The records need not be bytes: it is enough that the writing's own checks let them through. Assumes nothing.
use mathlib.Core.Path.{◌≡◌, refl, sym, ap, ◌∙◌}
use mathlib.Core.Bool.{Bool, true, false}
use mathlib.Core.List.{List, [], ◌++◌, append_assoc}
use Prim.Native.Nat.{ℕ, ◌+◌, ◌*◌, ◌<◌, ◌^◌}
use native.Mathlib.Omega.{arith}
use lib.Dec.{eqb, leb, ltb}
use lib.ListN.{length, length-append}
use lib.Seq.{drop_at}
use borrow.Author.Tests.{eq-eqb, eqb-true, le-leb, ltb-true}
use Rattle.wire.specs.Wire.{le, number, part, field}
use Rattle.wire.specs.Returns.{need}
use Rattle.wire.proofs.Laws.{length_le, part_whole}
use Rattle.wire.proofs.Splice.{number_le, field_front, field_past, part_front, number_read}
use Rattle.events.specs.Get.{header}
use Rattle.host_replies.specs.declared.counted.Kind.{Kind}
use Rattle.host_replies.specs.declared.counted.Kind.TheVariants.{EventRecords, SupportedLogs, PoisonList}
use Rattle.host_replies.specs.Counted.{Verdict, header_size, count_place, record_size, reserved, first_reserved, verdict_of, verdict, writing_verdict, rewritten}
use Rattle.host_replies.specs.declared.reply.EventFields.{EventFields}
use Rattle.host_replies.specs.declared.reply.IdentityFields.{IdentityFields}
use Rattle.host_replies.specs.declared.reply.ListFields.{ListFields}
use Rattle.wire.specs.Done.{written, refused}
use Rattle.host_replies.specs.Replies.{event_fields, read_event_records, event_header, read_policy, read_timestamp, read_supported_logs, logs_header, read_log, list_fields, read_poison_list, list_header}
use Rattle.host_replies.specs.Replies.{identity_fields, read_identity, identity_limits, identity_bytes, write_identity, read_nothing, write_bytes}
use Rattle.host_replies.specs.Fields.{Good, EventWidths, ListWidths, IdentityWidths, SameFields}
use Rattle.host_replies.proofs.CountedLaws.{count_inside}
use Rattle.host_replies.proofs.Bytes.{reserved_append}
use Rattle.host_replies.proofs.Accepted.{zero_verdict, events_taken, logs_taken, list_taken, policy_taken, time_taken, identity_taken, log_taken, nothing_taken}

-- ---- a header and the records that the checks of writing let through are an accepted reply
module _ (k : Kind) (count : ℕ) (rs : List ℕ) (room : ℕ) where
  -- records of the number and the bits that the checks ask for
  record Allowed : Type 0 where
    long : length rs ≡ record_size k * count
    clear : first_reserved k (header_size k) rs ≡ header_size k + length rs

  allowed : (writing_verdict k count rs room).code ≡ 0 → Allowed
  unfolding writing_verdict
  allowed z =
      go (leb (header_size k + length rs) room) (eqb (length rs) (record_size k * count)) refl
      (eqb (first_reserved k (header_size k) rs) (header_size k + length rs)) refl z
    where
      go : (a b : Bool) → eqb (length rs) (record_size k * count) ≡ b → (c : Bool) → eqb (first_reserved k (header_size k) rs) (header_size k + length rs) ≡ c
          → (need a (verdict_of 256 0) (need b (verdict_of 22 0) (need c (verdict_of 2 (first_reserved k (header_size k) rs)) (verdict_of 0 0)))).code ≡ 0 → Allowed
      go true true q true r z =
          record {
            long = eqb-true (length rs) (record_size k * count) q;
            clear = eqb-true (first_reserved k (header_size k) rs) (header_size k + length rs) r;
          }
      go true true q false r z = absurd (omega arith)
      go true false q c r z = absurd (omega arith)
      go false b q c r z = absurd (omega arith)

  module _ (z : (writing_verdict k count rs room).code ≡ 0) (header : List ℕ) (size : length header ≡ header_size k) where
    good : field header (count_place k) 2 ≡ count → first_reserved k 0 header ≡ header_size k → Good k (header ++ rs)
    good counts clear =
        let a = allowed z in
        let inside = count_inside k in
        let whole : length (header ++ rs) ≡ header_size k + length rs = length-append header rs ∙ ap (λ (n : ℕ). n + length rs) size in
        let told : field (header ++ rs) (count_place k) 2 ≡ count = field_front (count_place k) 2 header rs (omega arith) ∙ counts in
        record {
          header = omega arith;
          long = whole ∙ ap (λ (n : ℕ). header_size k + n) (a.long ∙ ap (λ (n : ℕ). record_size k * n) (sym told));
          clear =
              reserved_append k 0 header rs (clear ∙ omega arith) ∙ ap (λ (n : ℕ). first_reserved k n rs) (omega arith) ∙ a.clear ∙ sym whole;
        }

    pub accepted : field header (count_place k) 2 ≡ count → first_reserved k 0 header ≡ header_size k → (verdict k (header ++ rs)).code ≡ 0
    accepted counts clear = sym (ap (λ (x : Verdict). x.code) (zero_verdict k (header ++ rs) (good counts clear)))

    -- so it reads as it reads where it is accepted
    pub same_fields : {A : Type 0} (read : List ℕ → A) (given : A) → read (header ++ rs) ≡ given → SameFields k count header rs room read given
    unfolding rewritten
    same_fields read given e =
        record {
          bytes = rw (eq-eqb (writing_verdict k count rs room).code 0 z);
          fields = e;
          records = drop_at header rs (header_size k) size;
        }

-- ---- THE THEOREM of the replies with a count: what is written from fields within their widths, and from records that the checks let through, reads as those fields
module _ (f : EventFields) (w : EventWidths f) (rs : List ℕ) where
  events_told : event_fields (event_header f ++ rs) ≡ f
  unfolding event_fields event_header header field part le
  events_told =
      let flags = number_le 1 f.flags w.flags in
      let overflow = number_le 2 f.overflow_count w.overflow in
      let first = number_le 8 f.first_time w.first in
      let last = number_le 8 f.last_time w.last in
      let count = number_le 2 f.count w.count in
      λ i. record { flags = flags i; overflow_count = overflow i; first_time = first i; last_time = last i; count = count i }

  events_counts : field (event_header f) (count_place EventRecords) 2 ≡ f.count
  unfolding event_header header field part le count_place
  events_counts = number_le 2 f.count w.count

  events_size : length (event_header f) ≡ header_size EventRecords
  unfolding event_header header le header_size
  events_size = refl

  events_clear : first_reserved EventRecords 0 (event_header f) ≡ header_size EventRecords
  unfolding event_header header le header_size first_reserved reserved
  events_clear = refl

  pub events_reread : (room : ℕ) → (writing_verdict EventRecords f.count rs room).code ≡ 0
      → SameFields EventRecords f.count (event_header f) rs room read_event_records (record { code = 0; place = 0; fields = f })
  events_reread room z =
      let v = accepted EventRecords f.count rs room z (event_header f) events_size events_counts events_clear in
      same_fields EventRecords f.count rs room z (event_header f) events_size read_event_records _
      (events_taken (event_header f ++ rs) v ∙ ap (λ (x : EventFields). record { code = 0; place = 0; fields = x }) events_told)

module _ (n : ℕ) (small : n < 65536) (rs : List ℕ) where
  logs_told : field (logs_header n ++ rs) 0 2 ≡ n
  unfolding logs_header field part le
  logs_told = number_le 2 n small

  logs_counts : field (logs_header n) (count_place SupportedLogs) 2 ≡ n
  unfolding logs_header field part le count_place
  logs_counts = number_le 2 n small

  logs_size : length (logs_header n) ≡ header_size SupportedLogs
  unfolding logs_header le header_size
  logs_size = refl

  logs_clear : first_reserved SupportedLogs 0 (logs_header n) ≡ header_size SupportedLogs
  unfolding logs_header le header_size first_reserved reserved
  logs_clear = refl

  pub logs_reread : (room : ℕ) → (writing_verdict SupportedLogs n rs room).code ≡ 0
      → SameFields SupportedLogs n (logs_header n) rs room read_supported_logs (record { code = 0; place = 0; count = n })
  logs_reread room z =
      let v = accepted SupportedLogs n rs room z (logs_header n) logs_size logs_counts logs_clear in
      same_fields SupportedLogs n rs room z (logs_header n) logs_size read_supported_logs _
      (logs_taken (logs_header n ++ rs) v ∙ ap (λ (x : ℕ). record { code = 0; place = 0; count = x }) logs_told)

module _ (f : ListFields) (w : ListWidths f) (rs : List ℕ) where
  list_told : list_fields (list_header f ++ rs) ≡ f
  unfolding list_fields list_header field part le
  list_told =
      let flags = number_le 1 f.flags w.flags in
      let time = number_le 8 f.overflow_time w.time in
      let count = number_le 2 f.count w.count in
      λ i. record { flags = flags i; overflow_time = time i; count = count i }

  list_counts : field (list_header f) (count_place PoisonList) 2 ≡ f.count
  unfolding list_header field part le count_place
  list_counts = number_le 2 f.count w.count

  list_size : length (list_header f) ≡ header_size PoisonList
  unfolding list_header le header_size
  list_size = refl

  list_clear : first_reserved PoisonList 0 (list_header f) ≡ header_size PoisonList
  unfolding list_header le header_size first_reserved reserved
  list_clear = refl

  pub list_reread : (room : ℕ) → (writing_verdict PoisonList f.count rs room).code ≡ 0
      → SameFields PoisonList f.count (list_header f) rs room read_poison_list (record { code = 0; place = 0; fields = f })
  list_reread room z =
      let v = accepted PoisonList f.count rs room z (list_header f) list_size list_counts list_clear in
      same_fields PoisonList f.count rs room z (list_header f) list_size read_poison_list _
      (list_taken (list_header f ++ rs) v ∙ ap (λ (x : ListFields). record { code = 0; place = 0; fields = x }) list_told)

-- ---- THE THEOREM of the other replies: what is written into a room that it fits reads as what was given
bytes_written : (bs : List ℕ) (room : ℕ) → (write_bytes bs room).code ≡ 0 → (write_bytes bs room).bytes ≡ bs
unfolding write_bytes
bytes_written bs room z = go (leb (length bs) room) z
  where
    go : (t : Bool) → (need t (refused 256) (written bs)).code ≡ 0 → (need t (refused 256) (written bs)).bytes ≡ bs
    go true z = refl
    go false z = absurd (omega arith)

pub policy_reread : (settings : List ℕ) (room : ℕ) → length settings ≡ 5 → (write_bytes settings room).code ≡ 0
    → read_policy (write_bytes settings room).bytes ≡ record { code = 0; settings = settings }
policy_reread settings room e z = rw (bytes_written settings room z) (policy_taken settings e)

pub time_reread : (time room : ℕ) → time < 256 ^ 8 → (write_bytes (le 8 time) room).code ≡ 0
    → read_timestamp (write_bytes (le 8 time) room).bytes ≡ record { code = 0; time = time }
time_reread time room small z =
    rw (bytes_written (le 8 time) room z, time_taken (le 8 time) (length_le 8 time), number_read 8 time small)

-- of Get Log, the bytes given, where so many were asked for
pub log_reread : (bs : List ℕ) (room : ℕ) → (write_bytes bs room).code ≡ 0 → (read_log (length bs) (write_bytes bs room).bytes ≡ 0) × ((write_bytes bs room).bytes ≡ bs)
log_reread bs room z = let e = bytes_written bs room z in (rw e (log_taken bs (length bs) refl), e)

pub nothing_reread : (room : ℕ) → read_nothing (write_bytes [] room).bytes ≡ 0
unfolding write_bytes
nothing_reread room = rw (le-leb 0 room (omega arith)) (nothing_taken [] refl)

module _ (f : IdentityFields) (w : IdentityWidths f) where
  -- the bytes after the version
  abbrev after_version : List ℕ
  after_version = le 8 f.total ++ (le 8 f.volatile ++ (le 8 f.persistent ++ (le 8 f.alignment ++ identity_limits f)))

  version_first : identity_bytes f ≡ f.version ++ after_version
  unfolding identity_bytes
  version_first = simp append_assoc

  identity_long : length (identity_bytes f) ≡ 69
  unfolding identity_limits le
  identity_long = ap length version_first ∙ length-append f.version after_version ∙ omega (arith, w.version)

  told : (at k n : ℕ) (place : ℕ) → place ≡ 16 + at → field after_version at k ≡ number (le k n) → n < 256 ^ k → field (f.version ++ after_version) place k ≡ n
  told at k n place e h small = field_past at k place f.version after_version (omega (arith, w.version)) ∙ h ∙ number_le k n small

  version_told : part 0 16 (f.version ++ after_version) ≡ f.version
  version_told = part_front 0 16 f.version after_version (omega (arith, w.version)) ∙ part_whole 16 f.version w.version

  identity_told : f.poison_list_size < 256 ^ 3 → identity_fields (f.version ++ after_version) ≡ f
  unfolding identity_fields identity_limits field part le
  identity_told few =
      let total = told 0 8 f.total 16 refl refl w.total in
      let volatile = told 8 8 f.volatile 24 refl refl w.volatile in
      let persistent = told 16 8 f.persistent 32 refl refl w.persistent in
      let alignment = told 24 8 f.alignment 40 refl refl w.alignment in
      let info = told 32 2 f.info_log_size 48 refl refl w.info in
      let warning = told 34 2 f.warning_log_size 50 refl refl w.warning in
      let failure = told 36 2 f.failure_log_size 52 refl refl w.failure in
      let fatal = told 38 2 f.fatal_log_size 54 refl refl w.fatal in
      let label = told 40 4 f.label_size 56 refl refl w.label in
      let poison = told 44 3 f.poison_list_size 60 refl refl few in
      let inject = told 47 2 f.inject_limit 63 refl refl w.inject in
      let capabilities = told 49 2 f.capabilities 65 refl refl w.capabilities in
      let dynamic = told 51 2 f.dynamic_log_size 67 refl refl w.dynamic in
      λ i. record {
        version = version_told i;
        total = total i;
        volatile = volatile i;
        persistent = persistent i;
        alignment = alignment i;
        info_log_size = info i;
        warning_log_size = warning i;
        failure_log_size = failure i;
        fatal_log_size = fatal i;
        label_size = label i;
        poison_list_size = poison i;
        inject_limit = inject i;
        capabilities = capabilities i;
        dynamic_log_size = dynamic i;
      }

  -- its bytes, and what is written of them into a room that they fit
  pub identity_reads : f.poison_list_size < 256 ^ 3 → read_identity (identity_bytes f) ≡ record { code = 0; fields = f }
  identity_reads few =
      identity_taken (identity_bytes f) identity_long
      ∙ ap (λ (x : IdentityFields). record { code = 0; fields = x }) (ap identity_fields version_first ∙ identity_told few)

  pub identity_reread : (room : ℕ) → (write_identity f room).code ≡ 0 → read_identity (write_identity f room).bytes ≡ record { code = 0; fields = f }
  unfolding write_identity
  identity_reread room z = go (leb 69 room) (ltb f.poison_list_size 16777216) refl z
    where
      go : (t u : Bool) → ltb f.poison_list_size 16777216 ≡ u → (need t (refused 256) (need u (refused 2) (written (identity_bytes f)))).code ≡ 0
          → read_identity (need t (refused 256) (need u (refused 2) (written (identity_bytes f)))).bytes ≡ record { code = 0; fields = f }
      go true true e z = identity_reads (ltb-true f.poison_list_size 16777216 e)
      go true false e z = absurd (omega arith)
      go false u e z = absurd (omega arith)
