-- What it is for a reply to be accepted (document 02, W-202): what a verdict of 0, and a reading of code 0, say of its bytes, and what is then read. Assumes nothing.
use mathlib.Core.Path.{◌≡◌, refl, sym, ap, ◌∙◌}
use mathlib.Core.Bool.{Bool, true, false, ◌&&◌}
use mathlib.Core.List.{List}
use Prim.Native.Nat.{ℕ, ◌+◌, ◌*◌, ◌≤◌, ◌<◌}
use native.Mathlib.Omega.{arith}
use lib.Dec.{eqb, leb}
use lib.ListN.{length, get_or}
use borrow.Author.Tests.{le-leb, leb-true, eq-eqb, eqb-true}
use Rattle.wire.specs.Wire.{field}
use Rattle.wire.specs.Returns.{need}
use Rattle.host_replies.specs.declared.counted.Kind.{Kind}
use Rattle.host_replies.specs.declared.counted.Kind.TheVariants.{EventRecords, SupportedLogs, PoisonList}
use Rattle.host_replies.specs.Replies.{EventsRead, PolicyRead, TimeRead, LogsRead, IdentityRead, ListRead, events_of, logs_of, list_of, list_fields, read_poison_list, read_nothing}
use Rattle.host_replies.specs.Counted.{header_size, count_place, record_size, reserved, first_reserved, counted, verdict_of, verdict}
use Rattle.host_replies.specs.declared.reply.EventFields.{EventFields}
use Rattle.host_replies.specs.declared.reply.ListFields.{ListFields}
use Rattle.host_replies.specs.Replies.{event_fields, read_event_records, read_policy, read_timestamp, read_supported_logs, read_log, identity_fields, read_identity}
use Rattle.host_replies.specs.Fields.{Good}
use Rattle.host_replies.proofs.Bytes.{reserved_none}

-- ---- what a verdict of 0 says
module _ (k : Kind) (bs : List ℕ) where
  -- What is accepted has its header, is as long as its count says, and has no reserved bit set.
  pub verdict_zero : (verdict k bs).code ≡ 0 → Good k bs
  unfolding verdict counted
  verdict_zero z = go (leb (header_size k) (length bs)) refl (eqb (length bs) (header_size k + record_size k * field bs (count_place k) 2)) refl
      (eqb (first_reserved k 0 bs) (length bs)) refl z
    where
      go : (a : Bool) → leb (header_size k) (length bs) ≡ a → (b : Bool) → eqb (length bs) (header_size k + record_size k * field bs (count_place k) 2) ≡ b
          → (c : Bool) → eqb (first_reserved k 0 bs) (length bs) ≡ c
          → (need (a && b) (verdict_of 22 0) (need c (verdict_of 2 (first_reserved k 0 bs)) (verdict_of 0 0))).code ≡ 0 → Good k bs
      go true p true q true r z =
          record {
            header = leb-true (header_size k) (length bs) p;
            long = eqb-true (length bs) (header_size k + record_size k * field bs (count_place k) 2) q;
            clear = eqb-true (first_reserved k 0 bs) (length bs) r;
          }
      go true p true q false r z = absurd (omega arith)
      go true p false q c r z = absurd (omega arith)
      go false p b q c r z = absurd (omega arith)

  -- and the other way
  pub zero_verdict : Good k bs → verdict_of 0 0 ≡ verdict k bs
  unfolding verdict counted
  zero_verdict g =
      rw (
        le-leb (header_size k) (length bs) g.header,
        eq-eqb (length bs) (header_size k + record_size k * field bs (count_place k) 2) g.long,
        eq-eqb (first_reserved k 0 bs) (length bs) g.clear,
      )

-- no reserved bit of any byte is set
pub clear_at : (k : Kind) (bs : List ℕ) → Good k bs → (i : ℕ) → i < length bs → reserved k i (get_or bs i 0) ≡ 0
clear_at k bs g i l = ap (λ (x : ℕ). reserved k x (get_or bs i 0)) (omega arith) ∙ reserved_none k 0 bs (g.clear ∙ omega arith) i l

-- ---- a reading whose code is 0: its check held
-- of a reading that hands on the verdict's number,
told : {A : Type 0} (code : A → ℕ) (n : ℕ) (refusal good : A) → code refusal ≡ n → code (need (eqb n 0) refusal good) ≡ 0 → n ≡ 0
told {A} code n refusal good e z = go (eqb n 0) refl z
  where
    go : (t : Bool) → eqb n 0 ≡ t → code (need t refusal good) ≡ 0 → n ≡ 0
    go true q c = eqb-true n 0 q
    go false q c = sym e ∙ c

-- and of one that has a test of its own
held : {A : Type 0} (code : A → ℕ) (t : Bool) (refusal good : A) → code refusal ≡ 22 → code (need t refusal good) ≡ 0 → t ≡ true
held code true refusal good e z = refl
held code false refusal good e z = absurd (omega arith)

module _ (bs : List ℕ) where
  pub events_code : (read_event_records bs).code ≡ 0 → (verdict EventRecords bs).code ≡ 0
  unfolding read_event_records
  events_code z = told (λ (r : EventsRead). r.code) (verdict EventRecords bs).code _ _ refl z

  pub logs_code : (read_supported_logs bs).code ≡ 0 → (verdict SupportedLogs bs).code ≡ 0
  unfolding read_supported_logs
  logs_code z = told (λ (r : LogsRead). r.code) (verdict SupportedLogs bs).code _ _ refl z

  pub list_code : (read_poison_list bs).code ≡ 0 → (verdict PoisonList bs).code ≡ 0
  unfolding read_poison_list
  list_code z = told (λ (r : ListRead). r.code) (verdict PoisonList bs).code _ _ refl z

  pub policy_code : (read_policy bs).code ≡ 0 → length bs ≡ 5
  unfolding read_policy
  policy_code z = eqb-true (length bs) 5 (held (λ (r : PolicyRead). r.code) (eqb (length bs) 5) _ _ refl z)

  pub time_code : (read_timestamp bs).code ≡ 0 → length bs ≡ 8
  unfolding read_timestamp
  time_code z = eqb-true (length bs) 8 (held (λ (r : TimeRead). r.code) (eqb (length bs) 8) _ _ refl z)

  pub identity_code : (read_identity bs).code ≡ 0 → length bs ≡ 69
  unfolding read_identity
  identity_code z = eqb-true (length bs) 69 (held (λ (r : IdentityRead). r.code) (eqb (length bs) 69) _ _ refl z)

  pub nothing_code : read_nothing bs ≡ 0 → length bs ≡ 0
  unfolding read_nothing
  nothing_code z = eqb-true (length bs) 0 (held (λ (n : ℕ). n) (eqb (length bs) 0) _ _ refl z)

  -- ---- and what is then read
  pub events_taken : (verdict EventRecords bs).code ≡ 0 → read_event_records bs ≡ record { code = 0; place = 0; fields = event_fields bs }
  unfolding read_event_records
  events_taken v = rw (eq-eqb (verdict EventRecords bs).code 0 v)

  pub logs_taken : (verdict SupportedLogs bs).code ≡ 0 → read_supported_logs bs ≡ record { code = 0; place = 0; count = field bs 0 2 }
  unfolding read_supported_logs
  logs_taken v = rw (eq-eqb (verdict SupportedLogs bs).code 0 v)

  pub list_taken : (verdict PoisonList bs).code ≡ 0 → read_poison_list bs ≡ record { code = 0; place = 0; fields = list_fields bs }
  unfolding read_poison_list
  list_taken v = rw (eq-eqb (verdict PoisonList bs).code 0 v)

  pub policy_taken : length bs ≡ 5 → read_policy bs ≡ record { code = 0; settings = bs }
  unfolding read_policy
  policy_taken e = rw (eq-eqb (length bs) 5 e)

  pub time_taken : length bs ≡ 8 → read_timestamp bs ≡ record { code = 0; time = field bs 0 8 }
  unfolding read_timestamp
  time_taken e = rw (eq-eqb (length bs) 8 e)

  pub identity_taken : length bs ≡ 69 → read_identity bs ≡ record { code = 0; fields = identity_fields bs }
  unfolding read_identity
  identity_taken e = rw (eq-eqb (length bs) 69 e)

  pub log_taken : (asked : ℕ) → length bs ≡ asked → read_log asked bs ≡ 0
  unfolding read_log
  log_taken asked e = rw (eq-eqb (length bs) asked e)

  pub nothing_taken : length bs ≡ 0 → read_nothing bs ≡ 0
  unfolding read_nothing
  nothing_taken e = rw (eq-eqb (length bs) 0 e)

  -- ---- the fields that a reading gives come with the header, and with as many records as their count says
  pub events_whole : {f : EventFields} → events_of 0 0 f ≡ read_event_records bs → (32 ≤ length bs) × (length bs ≡ 32 + 128 * f.count)
  unfolding header_size count_place record_size event_fields
  events_whole e =
      let z = events_code (sym (ap (λ (r : EventsRead). r.code) e)) in
      let g = verdict_zero EventRecords bs z in
      (g.header, g.long ∙ ap (λ (r : EventsRead). 32 + 128 * r.fields.count) (sym (e ∙ events_taken z)))

  pub logs_whole : {n : ℕ} → logs_of 0 0 n ≡ read_supported_logs bs → (8 ≤ length bs) × (length bs ≡ 8 + 20 * n)
  unfolding header_size count_place record_size
  logs_whole e =
      let z = logs_code (sym (ap (λ (r : LogsRead). r.code) e)) in
      let g = verdict_zero SupportedLogs bs z in
      (g.header, g.long ∙ ap (λ (r : LogsRead). 8 + 20 * r.count) (sym (e ∙ logs_taken z)))

  pub list_whole : {f : ListFields} → list_of 0 0 f ≡ read_poison_list bs → (32 ≤ length bs) × (length bs ≡ 32 + 16 * f.count)
  unfolding header_size count_place record_size list_fields
  list_whole e =
      let z = list_code (sym (ap (λ (r : ListRead). r.code) e)) in
      let g = verdict_zero PoisonList bs z in
      (g.header, g.long ∙ ap (λ (r : ListRead). 32 + 16 * r.fields.count) (sym (e ∙ list_taken z)))
