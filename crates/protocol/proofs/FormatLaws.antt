-- The sizes of the records of both programs: each fixed part by its mark, the head by its fixed part, the whole record by its head, how far they go, and what is known of a record
-- found. Assumes nothing.
use mathlib.Core.Path.{◌≡◌, refl, sym, ap, ap₂, subst, ◌∙◌}
use mathlib.Core.Bool.{Bool, true, false, cond}
use mathlib.Core.List.{List}
use Prim.Native.Nat.{ℕ, ◌+◌, ◌*◌, ◌≤◌, ◌<◌}
use native.Mathlib.Decide.{ℕ_discrete}
use native.Mathlib.Omega.{arith}
use lib.ListN.{length, take, length-take}
use borrow.Author.Tests.{ne_eqb}
use Rattle.std.proofs.lemmas.Bool.Decides.{nat_tests}
use Rattle.wire.specs.Wire.{field}
use Rattle.protocol.specs.declared.formats.Format.{Format}
use Rattle.protocol.specs.declared.formats.Format.TheVariants.{Bench, Probe}
use Rattle.protocol.specs.Records.{mark_of, NW, CM, EV, MD, LT, ES, DT, RQ, RP, RW, WK, AR, AB, PC, front_fixed, front_head, front_size, OneRecord}
use Rattle.protocol.specs.Formats.{bench_fixed, bench_size, of_command, probe_least, probe_fixed, probe_head, probe_within, probe_rest, probe_size, fixed, head, size, FixedPart, Head, Ready}
use Rattle.protocol.specs.HostFormats.{within, opcode_of, request_head, request_within, request_rest, RequestRead}
use Rattle.protocol.proofs.StreamLaws.{field_front}
use Rattle.protocol.proofs.RecordLaws.{mark_front, Sized, Parts, fixed_part, head_part, parts, mark_there}

-- to unfold one of these is to unfold the definitions of sizes, or those that a request's own depend on
unfoldable pub sizes : Unit {0}
unfolding fixed bench_fixed probe_fixed probe_least size bench_size probe_size probe_within probe_rest
sizes = tt

unfoldable pub requests : Unit {0}
unfolding head probe_head request_head request_within request_rest
requests = tt

-- ---- fixed parts

-- no later mark of `bench` but the four
pub bench_none : (m : ℕ) → (m ≡ mark_of CM → ⊥) → (m ≡ mark_of EV → ⊥) → (m ≡ mark_of MD → ⊥) → (m ≡ mark_of LT → ⊥) → 0 ≡ bench_fixed false m
unfolding bench_fixed
bench_none m h₁ h₂ h₃ h₄ = grind (arith, nat_tests)

-- a fixed part holds the mark, and no more than 139 bytes
abbrev Good : ℕ → Type 0
Good n = ((n ≡ 0 → ⊥) → 2 ≤ n) × (n ≤ 139)

-- no mark of `probe` but the fourteen
pub least_none : (m : ℕ) → (m ≡ mark_of NW → ⊥) → (m ≡ mark_of CM → ⊥) → (m ≡ mark_of EV → ⊥) → (m ≡ mark_of MD → ⊥) → (m ≡ mark_of LT → ⊥) → (m ≡ mark_of ES → ⊥) → (m ≡ mark_of DT → ⊥) → (m ≡ mark_of RQ → ⊥) → (m ≡ mark_of RP → ⊥) → (m ≡ mark_of RW → ⊥) → (m ≡ mark_of WK → ⊥)
    → (m ≡ mark_of AR → ⊥) → (m ≡ mark_of AB → ⊥) → (m ≡ mark_of PC → ⊥) → 0 ≡ probe_least m
unfolding probe_least
least_none m h₁ h₂ h₃ h₄ h₅ h₆ h₇ h₈ h₉ h₁₀ h₁₁ h₁₂ h₁₃ h₁₄ = grind (arith, nat_tests)

-- the fixed part of each is good
least_good : (m : ℕ) → Good (probe_least m)
unfolding probe_least
least_good m = grind (arith, nat_tests)

pub fixed_good : (f : Format) (first : Bool) (m : ℕ) → Good (fixed f first m)
unfolding sizes
fixed_good Bench true m = grind (arith, nat_tests)
fixed_good Bench false m = grind (arith, nat_tests)
fixed_good Probe true m = grind (arith, nat_tests)
fixed_good Probe false m = grind (arith, nat_tests)

-- a first record of either is a make
first_new : (f : Format) (m : ℕ) → (fixed f true m ≡ 0 → ⊥) → (m ≡ mark_of NW) × (fixed f true m ≡ 6)
unfolding sizes
first_new Bench m may = grind (arith, nat_tests)
first_new Probe m may = grind (arith, nat_tests)

-- a fixed part holds the fields that a later record of its mark has
fixed_fields : (f : Format) (first : Bool) (m : ℕ) → (fixed f first m ≡ 0 → ⊥) → fixed f false m ≤ fixed f first m
unfolding sizes
fixed_fields f false m may = omega arith
fixed_fields Bench true m may = grind (arith, nat_tests)
fixed_fields Probe true m may = grind (arith, nat_tests)

-- ---- whole records of `probe`

-- its sizes are within their limits, or one is not
pub size_within : (h : List ℕ) → (probe_size h ≡ 0 → ⊥) → (probe_within h ≡ true) × (length h + probe_rest h ≡ probe_size h)
unfolding probe_size
size_within h some = grind (arith, nat_tests)

-- ---- records of either

-- a record holds its head
module _ (h : List ℕ) where
  abbrev Headed : ℕ → Type 0
  Headed n = (n ≡ 0 → ⊥) → length h ≤ n

  size_headed : (f : Format) → Headed (size f h)
  unfolding size bench_size probe_size
  size_headed Bench = grind (arith, nat_tests)
  size_headed Probe = grind (arith, nat_tests)

-- a request's head, by its opcode: none, or its fixed part and no more than 139 bytes
abbrev Request : ℕ → Type 0
Request n = ((n ≡ 0 → ⊥) → 7 ≤ n) × (n ≤ 139)

request_good : (op : ℕ) → Request (request_head op)
unfolding request_head
request_good op = grind (arith, nat_tests)

pub request_most : (op : ℕ) → request_head op ≤ 139
request_most op = (request_good op).1

-- no opcode but the twelve
pub request_none : (op : ℕ) → (op ≡ 0x0100 → ⊥) → (op ≡ 0x0101 → ⊥) → (op ≡ 0x0102 → ⊥) → (op ≡ 0x0103 → ⊥) → (op ≡ 0x0300 → ⊥) → (op ≡ 0x0301 → ⊥)
    → (op ≡ 0x0400 → ⊥) → (op ≡ 0x0401 → ⊥) → (op ≡ 0x4000 → ⊥) → (op ≡ 0x4300 → ⊥) → (op ≡ 0x4301 → ⊥) → (op ≡ 0x4302 → ⊥)
    → 0 ≡ request_head op
unfolding request_head
request_none op h₁ h₂ h₃ h₄ h₅ h₆ h₇ h₈ h₉ h₁₀ h₁₁ h₁₂ = grind (arith, nat_tests)

-- the head of a record of another mark is its fixed part; of `RQ` its opcode and its room tell
pub head_plain : (h : List ℕ) → (mark_of h ≡ mark_of RQ → ⊥) → length h ≡ probe_head h
unfolding probe_head
head_plain h e = sym (rw (ne_eqb (mark_of h) (mark_of RQ) e) refl)

pub head_request : (h : List ℕ) → mark_of h ≡ mark_of RQ → probe_head h ≡ cond (within (field h 4 2)) (request_head (opcode_of h)) 0
unfolding probe_head
head_request h e = rw e refl

-- a head holds the fixed part that tells of it, and no more than 139 bytes
probe_headed : (first : Bool) (h : List ℕ) → probe_fixed first (mark_of h) ≡ length h → Headed h (probe_head h) × (length h ≤ 139 → probe_head h ≤ 139)
unfolding probe_fixed probe_least probe_head
probe_headed true h e = grind (arith, nat_tests, request_good (opcode_of h))
probe_headed false h e = grind (arith, nat_tests, request_good (opcode_of h))

head_headed : (f : Format) (first : Bool) (h : List ℕ) → fixed f first (mark_of h) ≡ length h → Headed h (head f h) × (length h ≤ 139 → head f h ≤ 139)
unfolding head fixed
head_headed Bench first h e = ((λ _. omega arith), (λ few. few))
head_headed Probe first h e = probe_headed first h e

-- of `RQ` they stand in the fixed part, whatever comes after it
request_front : (first : Bool) (h : List ℕ) → (fixed Probe first (mark_of h) ≡ 0 → ⊥) → fixed Probe first (mark_of h) ≤ length h → mark_of h ≡ mark_of RQ
    → probe_head (take (fixed Probe first (mark_of h)) h) ≡ probe_head h
unfolding fixed probe_fixed probe_least
request_front first h may fits this =
    let n = fixed Probe first (mark_of h) in
    let wide : 7 ≤ n = subst (λ (m : ℕ). fixed Probe false m ≤ n) this (fixed_fields Probe first (mark_of h) may) in
    let letters : mark_of (take n h) ≡ mark_of h = mark_front n h (omega arith) in
    head_request (take n h) (letters ∙ this)
    ∙ sym (ap₂ (λ (x y : ℕ). cond (within x) (request_head y) 0) (field_front n 4 2 h (take n h) refl (omega arith) fits) (field_front n 2 2 h (take n h) refl (omega arith) fits))
    ∙ sym (head_request h this)

-- a head's own first bytes tell how long it is
head_again : (f : Format) (first : Bool) (h : List ℕ) → (fixed f first (mark_of h) ≡ 0 → ⊥) → fixed f first (mark_of h) ≤ length h
    → head f (take (fixed f first (mark_of h)) h) ≡ length h → head f h ≡ length h
unfolding head
head_again Bench first h may fits told = refl
head_again Probe first h may fits told = go (ℕ_discrete (mark_of h) (mark_of RQ))
  where
    go : Dec (mark_of h ≡ mark_of RQ) → probe_head h ≡ length h
    go (no other) = sym (head_plain h other)
    go (yes this) = sym (request_front first h may fits this) ∙ told

-- the sizes of either: a fixed part holds the mark, a head its fixed part, and a record its head
pub sized : (f : Format) (first : Bool) → Sized (fixed f first) (head f) (size f)
sized f first = record { marked = λ m. (fixed_good f first m).0; headed = λ h e. (head_headed f first h e).0; sized = λ h. size_headed h f }

-- a fixed part found, and a head found
pub fixed_of : (f : Format) (first : Bool) (h : List ℕ) → OneRecord (front_fixed (fixed f first)) h → FixedPart f h
fixed_of f first h this =
    let told = fixed_part (fixed f first) (head f) (size f) (sized f first) h this in
    let good = fixed_good f first (mark_of h) in
    record { marked = omega (arith, told.1, good.0 told.0); fields = omega (arith, told.1, fixed_fields f first (mark_of h) told.0); most = omega (arith, told.1, good.1) }

pub head_of : (f : Format) (first : Bool) (h : List ℕ) → OneRecord (front_head (fixed f first) (head f)) h → Head f h
head_of f first h this =
    let told = head_part (fixed f first) (head f) (size f) (sized f first) h this in
    let n = fixed f first (mark_of h) in
    let good = fixed_good f first (mark_of h) in
    let two : 2 ≤ n = good.0 told.0 in
    let long : length (take n h) ≡ n = rw length-take (omega (arith, told.1)) in
    let same : fixed f first (mark_of (take n h)) ≡ length (take n h) = ap (fixed f first) (mark_front n h two) ∙ sym long in
    record {
      part =
          record {
            marked = omega (arith, told.1, two);
            fields = omega (arith, told.1, fixed_fields f first (mark_of h) told.0);
            most = omega (arith, told.2, (head_headed f first (take n h) same).1 (omega (arith, long, good.1)));
          };
      told = head_again f first h told.0 told.1 told.2;
    }

-- the parts of a record that was found
pub found_parts : (f : Format) (first : Bool) (r : List ℕ) → OneRecord (front_size (fixed f first) (head f) (size f)) r → Parts (fixed f first) (head f) (size f) r
found_parts f first = parts (fixed f first) (head f) (size f) (sized f first)

-- a first record that was found is a make, with its fields
pub first_make : (f : Format) (r : List ℕ) → OneRecord (front_size (fixed f true) (head f) (size f)) r → mark_of r ≡ mark_of NW
first_make f r this = (first_new f (mark_of r) (found_parts f true r this).may).0

pub new_there : (f : Format) (r : List ℕ) → OneRecord (front_size (fixed f true) (head f) (size f)) r → 6 ≤ length r
new_there f r this =
    let part = found_parts f true r this in
    omega (arith, part.fields, part.inside, (first_new f (mark_of r) part.may).1)

-- any record that was found has the fields of its mark
pub fields_there : (f : Format) (first : Bool) (r : List ℕ) → OneRecord (front_size (fixed f first) (head f) (size f)) r → (m : ℕ) → mark_of r ≡ m → fixed f false m ≤ length r
fields_there f first r this m e =
    let part = found_parts f first r this in
    omega (arith, part.fields, part.inside, fixed_fields f first (mark_of r) part.may, ap (fixed f false) e)

-- no later record of `bench` has another mark
pub bench_marks : (r : List ℕ) → OneRecord (front_size (fixed Bench false) (head Bench) (size Bench)) r
    → (mark_of r ≡ mark_of CM → ⊥) → (mark_of r ≡ mark_of EV → ⊥) → (mark_of r ≡ mark_of MD → ⊥) → (mark_of r ≡ mark_of LT → ⊥) → ⊥
unfolding fixed
bench_marks r this c v d l = (found_parts Bench false r this).may (sym (bench_none (mark_of r) c v d l))

-- a record of `probe` has its mark and its fields, with its rooms and lengths within their limits
module _ (first : Bool) (r : List ℕ) (some : 0 < length r) (part : Parts (fixed Probe first) (head Probe) (size Probe) r) where
  abbrev n : ℕ
  n = part.count

  abbrev h : List ℕ
  h = take n r

  -- the fields that its mark has are in its head
  least : probe_least (mark_of r) ≤ n
  unfolding fixed probe_fixed
  least = omega (arith, part.fields, fixed_fields Probe first (mark_of r) part.may)

  letters : mark_of h ≡ mark_of r
  letters = mark_front n r (omega (arith, part.fields, (fixed_good Probe first (mark_of r)).0 part.may))

  fits : (probe_within h ≡ true) × (length h + probe_rest h ≡ probe_size h)
  unfolding size
  fits = size_within h (λ e. omega (arith, e, part.all, some))

  limits : probe_within h ≡ true
  limits = fits.0

  all : n + probe_rest h ≡ length r
  unfolding size
  all = let long : length h ≡ n = rw length-take (omega (arith, part.inside)) in omega (arith, fits.1, long, part.all)

  -- a field of the head is the record's
  same : (i k : ℕ) → i + k ≤ n → field r i k ≡ field h i k
  same i k fits = field_front n i k r h refl fits part.inside

  -- the room of a command's record of either mark, and of a walk
  command_room : (m : ℕ) → of_command m ≡ true → mark_of r ≡ m → field r 12 2 ≤ 4096
  unfolding probe_least probe_within
  command_room m asks e =
      let marked : of_command (mark_of h) ≡ true = ap of_command (letters ∙ e) ∙ asks in
      let told : probe_within h ≡ true = limits in
      let few : field h 12 2 ≤ 4096 = grind (arith, nat_tests) in
      omega (arith, few, same 12 2 (grind (arith, nat_tests, least)))

  walk_room : mark_of r ≡ mark_of WK → field r 18 4 ≤ 65536
  unfolding probe_least probe_within
  walk_room e =
      let marked : mark_of h ≡ mark_of WK = letters ∙ e in
      let told : probe_within h ≡ true = limits in
      let few : field h 18 4 ≤ 65536 = grind (arith, nat_tests) in
      omega (arith, few, same 18 4 (grind (arith, nat_tests, least)))

  -- the size that `AR` sets, and the end of the bytes that `AB` asks for
  area_size : mark_of r ≡ mark_of AR → field r 2 4 ≤ 8192
  unfolding probe_least probe_within
  area_size e =
      let marked : mark_of h ≡ mark_of AR = letters ∙ e in
      let told : probe_within h ≡ true = limits in
      let few : field h 2 4 ≤ 8192 = grind (arith, nat_tests) in
      omega (arith, few, same 2 4 (grind (arith, nat_tests, least)))

  bytes_end : mark_of r ≡ mark_of AB → field r 2 2 + field r 4 2 ≤ 8192
  unfolding probe_least probe_within
  bytes_end e =
      let marked : mark_of h ≡ mark_of AB = letters ∙ e in
      let told : probe_within h ≡ true = limits in
      let few : field h 2 2 + field h 4 2 ≤ 8192 = grind (arith, nat_tests) in
      let wide : 6 ≤ n = grind (arith, nat_tests, least) in
      omega (arith, few, same 2 2 (omega arith), same 4 2 (omega arith))

  -- of another mark than `RQ` the head is the fixed part
  head_fixed : (mark_of r ≡ mark_of RQ → ⊥) → n ≡ fixed Probe first (mark_of r)
  unfolding head
  head_fixed other =
      let k = fixed Probe first (mark_of r) in
      let front : mark_of (take k r) ≡ mark_of r = mark_front k r ((fixed_good Probe first (mark_of r)).0 part.may) in
      let long : length (take k r) ≡ k = rw length-take (omega (arith, part.fields, part.inside)) in
      sym part.told ∙ sym (head_plain (take k r) (λ e. other (sym front ∙ e))) ∙ long

  -- a reply's length, and the room of one written again
  reply_length : mark_of r ≡ mark_of RP → length r ≤ 4106
  unfolding fixed probe_fixed probe_least probe_within probe_rest
  reply_length e =
      let marked : mark_of h ≡ mark_of RP = letters ∙ e in
      let told : probe_within h ≡ true = limits in
      let few : probe_rest h ≤ 4096 = grind (arith, nat_tests) in
      let short : n ≤ 10 = grind (arith, nat_tests, head_fixed (λ q. omega (arith, q, e))) in
      omega (arith, few, short, all)

  again_lengths : mark_of r ≡ mark_of RW → (field r 8 2 ≤ 4096) × (length r ≤ 4109)
  unfolding fixed probe_fixed probe_least probe_within probe_rest
  again_lengths e =
      let marked : mark_of h ≡ mark_of RW = letters ∙ e in
      let told : probe_within h ≡ true = limits in
      let few : (field h 8 2 ≤ 4096) × (probe_rest h ≤ 4096) = grind (arith, nat_tests) in
      let short : n ≤ 13 = grind (arith, nat_tests, head_fixed (λ q. omega (arith, q, e))) in
      let wide : 13 ≤ n = grind (arith, nat_tests, least) in
      (omega (arith, few.0, same 8 2 (omega arith)), omega (arith, few.1, short, all))

  -- a request's fields
  request_read : mark_of r ≡ mark_of RQ → RequestRead r
  unfolding head probe_least probe_within probe_rest request_head request_within request_rest
  request_read e =
      let told : cond (within (field r 4 2)) (request_head (opcode_of r)) 0 ≡ n =
      sym (head_request r e) ∙ sym (request_front first r part.may (omega (arith, part.fields, part.inside)) e) ∙ part.told in
      let seven : 7 ≤ n = grind (arith, nat_tests, least) in
      let size : (field r 4 2 ≤ 4096) × (request_head (opcode_of r) ≡ n) = grind (arith, nat_tests) in
      let marked : mark_of h ≡ mark_of RQ = letters ∙ e in
      let within : probe_within h ≡ true = limits in
      record {
        room = size.0;
        fields = omega (arith, size.1, part.inside);
        handles = λ op.
            let eleven : n ≡ 11 = grind (arith, nat_tests) in
            let this : opcode_of h ≡ 0x0101 = omega (arith, op, same 2 2 (omega arith)) in
            let few : (field h 9 2 ≤ 1000) × (probe_rest h ≡ 2 * field h 9 2) = grind (arith, nat_tests) in
            let count = same 9 2 (omega arith) in
            (omega (arith, few.0, count), omega (arith, few.1, count, all));
      }

pub ready : (first : Bool) (r : List ℕ) → OneRecord (front_size (fixed Probe first) (head Probe) (size Probe)) r → Ready r
unfolding probe_least
ready first r this =
    let part = found_parts Probe first r this in
    record {
      marked = mark_there (fixed Probe first) (head Probe) (size Probe) (sized Probe first) r this;
      fields = omega (arith, least first r this.some part, part.inside);
      command = command_room first r this.some part (mark_of CM) refl;
      pool = command_room first r this.some part (mark_of PC) refl;
      request = request_read first r this.some part;
      reply = reply_length first r this.some part;
      again = again_lengths first r this.some part;
      walk = walk_room first r this.some part;
      area = area_size first r this.some part;
      stored = bytes_end first r this.some part;
    }
