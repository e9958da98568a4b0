-- What make and the device-side calls ensure of their answers, by their cases. Assumes nothing.
use mathlib.Core.Path.{◌≡◌, refl, sym, ap, ◌∙◌, subst}
use mathlib.Core.Bool.{Bool, true, false, ◌&&◌, ◌||◌}
use mathlib.Core.List.{List}
use Prim.Native.Nat.{ℕ, ◌+◌, ◌≤◌, ◌<◌}
use native.Mathlib.Omega.{arith}
use lib.Dec.{leb, ltb, eqb}
use lib.ListN.{length, get_or, set}
use borrow.Author.Tests.{ne_eqb, leb-true, eqb-true, lt-ltb, le-ltb}
use Rattle.poison.specs.State as P
use Rattle.poison.specs.Report as R
use Rattle.poison.specs.LineTest.{line_test as list_test}
use Rattle.poison.specs.declared.list.PoisonList.{PoisonList}
use Rattle.poison.specs.declared.line_test.LineTest.{LineTest}
use Rattle.events.specs.Log.{states_of, blank}
use Rattle.events.specs.Report.{report_code, ReportOutcome, ReportDone}
use Rattle.events.specs.declared.report.Reported.{Reported as LogReported}
use Rattle.events.proofs.Laws.{report_code_zero, event_report_refused, event_report_taken, valid_set}
use Rattle.mailbox.specs.declared.device.Device.{Device}
use Rattle.wire.specs.Returns.{success, invalid_input, need}
use Rattle.commands.specs.Numbers.{most_units}
use Rattle.mailbox.specs.State.{DeviceState, ValidDevice, state_of, lines_of, with_logs, with_poison}
use Rattle.settings.specs.Clock.{device_time}
use Rattle.list_commands.specs.PoisonCommands.{line_of, line_code, range_code}
use Rattle.mailbox.specs.DeviceCalls.{new_device, make, MakeOutcome, event_answer, media_code, media_answer, MediaOutcome, line_test, LineOutcome}
use Rattle.mailbox.specs.LineStatus.{status_number, status_type, status_of}
use Rattle.mailbox.specs.declared.line_status.LineStatus.{LineStatus}
use Rattle.mailbox.specs.declared.line_status.LineStatus.TheVariants.{Unknown, Disabled}
use Rattle.settings.specs.Vector.{no_vector, numbered, raised}
use Rattle.mailbox.specs.Relations.{Makes, EventDone, MediaDone, LineDone}
use Rattle.wire.proofs.Laws.{need_fails, need_holds, need_zero}
use Rattle.list_commands.proofs.Laws.{range_ends}
use Rattle.mailbox.proofs.Answers.{valid_device}
use Rattle.settings.proofs.Laws.{carries_numbered, carries_equal, raised_later}

-- a check that refuses gives its number, whatever follows
need_refuses : (t : Bool) (code rest : ℕ) → code ≡ need t invalid_input 0 → (code ≡ 0 → ⊥) → code ≡ need t invalid_input rest
need_refuses true code rest e f = absurd (f e)
need_refuses false code rest e f = e

reportable_by : (kind : ℕ) (a b : Bool) → (a ≡ true → kind ≤ 2) → (b ≡ true → kind ≡ 7) → (a || b) ≡ true → kind < 8
reportable_by kind true b f g e = let h = f refl in omega arith
reportable_by kind false b f g e = let h = g e in omega arith

-- a type that may be reported has three bits
reportable_small : (kind : ℕ) → R.reportable kind ≡ true → kind < 8
unfolding R.reportable
reportable_small kind e = reportable_by kind (leb kind 2) (eqb kind 7) (leb-true kind 2) (eqb-true kind 7) e

-- ---- make
makes : {o : MakeOutcome} {code : ℕ} {s : DeviceState} {d : Device} → o ≡ record { code = code; next = s } → state_of d ≡ s → ValidDevice d
    → Makes o (record { code = code; device = d })
makes {o} {code} {s} {d} e n v = subst (λ (x : MakeOutcome). Makes x (record { code = code; device = d })) (sym e) (record { code = refl; next = n; valid = v })

-- whether a total is of 1 to 1,023 units
abbrev units_test : ℕ → Bool
units_test units = leb 1 units && leb units most_units

module _ (volatile persistent : ℕ) {d : Device} where
  pub make_refused : units_test (volatile + persistent) ≡ false → state_of d ≡ new_device 1 0 → ValidDevice d → Makes (make volatile persistent) (record { code = invalid_input; device = d })
  unfolding make
  make_refused e n v = makes (simp e) n v

  pub make_taken : units_test (volatile + persistent) ≡ true → state_of d ≡ new_device volatile persistent → ValidDevice d → Makes (make volatile persistent) (record { code = success; device = d })
  unfolding make
  make_taken e n v = makes (simp e) n v

-- ---- event report
module _ (d : Device) (time log : ℕ) (bytes : List ℕ) (v : ValidDevice d) where
  pub event_refused : (code : ℕ) → code ≡ report_code log (length bytes) → (code ≡ 0 → ⊥)
      → EventDone (event_answer (state_of d) time log bytes) d (record { code = code; stored = false; vector = numbered no_vector; device = d })
  unfolding event_answer
  event_refused code e f =
      let r = event_report_refused (states_of d.logs) log bytes (device_time d.clock time) (λ z. f (e ∙ z)) in
      record {
        code = e ∙ sym (ap (λ (x : ReportOutcome). x.code) r);
        stored = sym (ap (λ (x : ReportOutcome). x.stored) r);
        vector = carries_equal (sym (raised_later d.policy log) ∙ sym (ap (λ (x : ReportOutcome). raised d.policy log x.first) r)) (carries_numbered no_vector);
        next = sym (ap (λ (x : ReportOutcome). with_logs (state_of d) x.logs) r);
        refused = λ g. refl;
        valid = v;
      }

  pub event_taken : (code now : ℕ) (a : LogReported) → length d.logs ≡ 5 → code ≡ 0 → now ≡ device_time d.clock time → report_code log (length bytes) ≡ 0
      → ReportDone (get_or d.logs log blank) bytes now a
      → EventDone (event_answer (state_of d) time log bytes) d
      (record {
        code = code;
        stored = a.stored;
        vector = numbered (raised d.policy log a.first);
        device = record { volatile = d.volatile; persistent = d.persistent; clock = d.clock; policy = d.policy; logs = set d.logs log a.log; poison = d.poison; media = d.media };
      })
  unfolding event_answer
  event_taken code now a five none t z done =
      let r = event_report_taken d.logs log bytes (device_time d.clock time) a z (subst (λ (x : ℕ). ReportDone (get_or d.logs log blank) bytes x a) t done) in
      record {
        code = none ∙ sym (ap (λ (x : ReportOutcome). x.code) r);
        stored = sym (ap (λ (x : ReportOutcome). x.stored) r);
        vector = carries_equal (sym (ap (λ (x : ReportOutcome). raised d.policy log x.first) r)) (carries_numbered _);
        next = sym (ap (λ (x : ReportOutcome). with_logs (state_of d) x.logs) r);
        refused = λ g. absurd (g.not_success none);
        valid = valid_device d _ _ _ _ v (valid_set d.logs log a.log five (report_code_zero log (length bytes) z).1 v.logs done.valid) v.poison;
      }

-- ---- media report
module _ (lines address n kind : ℕ) where
  module _ (code : ℕ) (e : code ≡ need (R.reportable kind) invalid_input 0) where
    -- the type is refused
    pub media_type : (code ≡ 0 → ⊥) → code ≡ media_code lines address n kind
    unfolding media_code
    media_type f = need_refuses (R.reportable kind) code _ e f

    -- the type is not: then the number of lines
    pub media_none : code ≡ 0 → n ≡ 0 → invalid_input ≡ media_code lines address n kind
    unfolding media_code
    media_none z none = need_fails _ _ (le-ltb 0 n (omega arith)) ∙ need_holds _ _ (need_zero (R.reportable kind) invalid_input 0 (omega arith) (sym e ∙ z)).0

    -- and the range
    pub media_range : code ≡ 0 → (n ≡ 0 → ⊥) → range_code lines address n ≡ media_code lines address n kind
    unfolding media_code
    media_range z some = need_holds _ _ (lt-ltb 0 n (omega (arith, some))) ∙ need_holds _ _ (need_zero (R.reportable kind) invalid_input 0 (omega arith) (sym e ∙ z)).0

  -- where nothing is refused, the type has three bits and the range ends on the device
  pub media_zero : media_code lines address n kind ≡ 0 → (kind < 8) × (line_of address + n ≤ lines)
  unfolding media_code
  media_zero z =
      let typed = need_zero (R.reportable kind) invalid_input _ (omega arith) z in
      (reportable_small kind typed.0, range_ends lines address n (need_zero (ltb 0 n) invalid_input _ (omega arith) typed.1).1)

module _ (d : Device) (time address n kind : ℕ) (v : ValidDevice d) where
  pub media_refused : (code : ℕ) → code ≡ media_code (lines_of (state_of d)) address n kind → (code ≡ 0 → ⊥)
      → MediaDone (media_answer (state_of d) time address n kind) d (record { code = code; stored = 0; dropped = 0; device = d })
  unfolding media_answer
  media_refused code e f =
      subst (λ (x : MediaOutcome). MediaDone x d (record { code = code; stored = 0; dropped = 0; device = d })) (sym (simp (sym e, ne_eqb _ _ f)))
      (record { code = refl; stored = refl; dropped = refl; next = refl; refused = λ g. refl; valid = v })

  pub media_taken : (code now : ℕ) {s r : ℕ} {l : PoisonList} → code ≡ 0 → now ≡ device_time d.clock time → media_code (lines_of (state_of d)) address n kind ≡ 0
      → R.Reports d.poison (line_of address) n kind now s r l
      → MediaDone (media_answer (state_of d) time address n kind) d
      (record {
        code = code;
        stored = s;
        dropped = r;
        device = record { volatile = d.volatile; persistent = d.persistent; clock = d.clock; policy = d.policy; logs = d.logs; poison = l; media = d.media };
      })
  unfolding media_answer
  media_taken code now none t z done =
      record {
        code = none ∙ sym (ap (λ (x : MediaOutcome). x.code) taken);
        stored = done.stored ∙ sym (ap (λ (x : MediaOutcome). x.stored) taken);
        dropped = done.dropped ∙ sym (ap (λ (x : MediaOutcome). x.dropped) taken);
        next = ap (with_poison (state_of d)) (done.state ∙ ap (R.after_report (state_of d).poison (line_of address) n kind) t) ∙ sym (ap (λ (x : MediaOutcome). x.next) taken);
        refused = λ g. absurd (g.not_success none);
        valid = valid_device d _ _ _ _ v v.logs (done.valid _ v.poison (media_zero (lines_of (state_of d)) address n kind z).1);
      }
    where
      taken : media_answer (state_of d) time address n kind
          ≡ record {
            code = success;
            stored = R.lines_stored (state_of d).poison.entries (line_of address) n;
            dropped = R.lines_dropped (state_of d).poison.entries (line_of address) n;
            next = with_poison (state_of d) (R.after_report (state_of d).poison (line_of address) n kind (device_time d.clock time));
          }
      taken = simp z

-- ---- line test
module _ (d : Device) (address : ℕ) where
  pub line_refused : (code : ℕ) → code ≡ line_code (lines_of (state_of d)) address → (code ≡ 0 → ⊥)
      → LineDone (line_test (state_of d) address) (record { code = code; answer = Unknown })
  unfolding line_test
  line_refused code e f =
      subst (λ (x : LineOutcome). LineDone x (record { code = code; answer = Unknown })) (sym (simp (sym e, ne_eqb _ _ f))) (record { code = refl; number = refl; kind = refl })

  module _ (z : line_code (lines_of (state_of d)) address ≡ 0) where
    -- "While disabled the line test answers Disabled, 3, after its address checks" (document 02, W-207)
    pub line_disabled : d.media.disabled ≡ true → LineDone (line_test (state_of d) address) (record { code = 0; answer = Disabled })
    unfolding line_test
    line_disabled off = subst (λ (x : LineOutcome). LineDone x (record { code = 0; answer = Disabled })) (sym (simp (z, off))) (record { code = refl; number = refl; kind = refl })

    pub line_tested : (t : LineTest) {a : LineStatus} → d.media.disabled ≡ false → t ≡ list_test (P.state_of d.poison) (line_of address) → a ≡ status_of t
        → LineDone (line_test (state_of d) address) (record { code = 0; answer = a })
    unfolding line_test
    line_tested t {a} on e s =
        let told = s ∙ ap status_of e in
        subst (λ (x : LineOutcome). LineDone x (record { code = 0; answer = a })) (sym (simp (z, on))) (record { code = refl; number = ap status_number told; kind = ap status_type told })
