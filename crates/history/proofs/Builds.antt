-- No build with one of the faults of specs/Builds.antt meets the contracts: one that refuses all, one with a fixed reply, one that changes nothing, one that
-- keeps the first report. The witnesses are devices that the build itself hands out, from make 1 0 on, and the definitions computed there. Assumes nothing.
use Prim.Native.Nat.{ℕ, zero, suc, ◌*◌, ◌<◌}
use mathlib.Core.Path.{◌≡◌, refl, sym, ap, ap₂, ◌∙◌, subst}
use mathlib.Core.Bool.{Bool, true, false, ◌&&◌, ◌||◌, cond}
use mathlib.Core.List.{List, [], ◌∷◌, ◌++◌}
use native.Mathlib.Omega.{arith}
use borrow.Author.Tests.{eq-eqb, eqb-true, ltb-true}
use lib.Dec.{eqb, ltb}
use lib.ListN.{length, take, get_or, replicate, length-replicate}
use Rattle.poison.specs.Runs.{total}
use Rattle.poison.specs.State.{shapes, damage_total}
use Rattle.wire.specs.Returns.{Refused}
use Rattle.mailbox.specs.LineStatus.{status_number}
use Rattle.mailbox.proofs.Laws.{refused_too}
use Rattle.events.specs.Log.{LogState, log_at}
use Rattle.labels.specs.Labels.{label_size, zero_area}
use Rattle.mailbox.specs.State.{DeviceState, ValidDevice, state_of}
use Rattle.mailbox.specs.declared.device.Device.{Device}
use Rattle.commands.specs.Commands.{commands, rows_of, known}
use Rattle.commands.specs.declared.mailboxes.Mailbox.TheVariants.{Pool}
use Rattle.mailbox.specs.Pool.{pool_answer}
use Rattle.commands.proofs.Laws.{known_one}
use Rattle.commands.specs.EffectsLog.{effects_log_id}
use Rattle.mailbox.specs.Outcome.{Outcome}
use Rattle.mailbox.specs.Mailbox.{outcome, area_after}
use Rattle.mailbox.specs.DeviceCalls as Device
use Rattle.wire.specs.Wire.{splice}
use Rattle.history.specs.Builds.{all_bytes, Slice, MakeAsked, CommandAsked, PoolAsked, EventAsked, MediaAsked, LineAsked, Build, Handed, by_make, by_command, by_event_report, by_media_report, Meets, RefusesAll, RefusesOne, every_make, every_command, every_event_report, every_media_report, every_line_test, every_pool_command, reply_of, pool_reply_of, FixedReply, among, telling, TellsNothing, of_command, of_labels, of_event_report, of_media_report, of_line_test, of_event_status, of_damage_total, of_pool_command, ChangesNothing, changing, LeavesOne, KeepsFirst, of_media, of_events}
use Rattle.wire.proofs.Laws.{and_parts}
use Rattle.history.proofs.Computing.{rules}

-- ---- arguments
-- whether a list is one of at most 2,048 bytes
abbrev short : List ℕ → Bool
short xs = all_bytes xs && ltb (length xs) 2049

-- such a list is a slice
slice : (xs : List ℕ) → short xs ≡ true → Slice xs
slice xs e =
    let p = and_parts (all_bytes xs) (ltb (length xs) 2049) e in
    let n : length xs < 2049 = ltb-true (length xs) 2049 p.1 in
    record { bytes = p.0; room = omega arith }

-- a reply buffer of 2,048 zeros
abbrev buffer : List ℕ
buffer = replicate 2048 0

-- a command at time 0 with that buffer and a label area of bytes
abbrev lends : (area : List ℕ) → all_bytes area ≡ true → length area ≡ label_size → (opcode : ℕ) (payload : List ℕ) → ltb opcode 65536 ≡ true → short payload ≡ true → CommandAsked
lends area each sized opcode payload o p =
    record {
      opcode = opcode;
      payload = payload;
      time = 0;
      area = area;
      before = buffer;
      opcode_u16 = ltb-true opcode 65536 o;
      payload_slice = slice payload p;
      time_u64 = omega arith;
      area_slice = record { bytes = each; room = omega (arith, sized) };
      before_slice = slice buffer refl;
    }

-- the same with an area of zeros
abbrev asks : (opcode : ℕ) (payload : List ℕ) → ltb opcode 65536 ≡ true → short payload ≡ true → CommandAsked
asks = lends zero_area refl (length-replicate {A = ℕ} label_size 0)

-- a command of the second mailbox at time 0 with that buffer
abbrev pool_asks : (opcode : ℕ) (payload : List ℕ) → ltb opcode 65536 ≡ true → short payload ≡ true → PoolAsked
pool_asks opcode payload o p =
    record { opcode = opcode; payload = payload; time = 0; before = buffer; opcode_u16 = ltb-true opcode 65536 o; payload_slice = slice payload p; time_u64 = omega arith; before_slice = slice buffer refl }

-- ---- devices of a build
-- a device that the build handed out, valid, with a view
record At (b : Build) (s : DeviceState) : Type 0 where
  device : Device
  handed : Handed b device
  valid : ValidDevice device
  view : state_of device ≡ s

module _ {b : Build} (m : Meets b) where
  -- the device of a make
  made : (a : MakeAsked) → At b (Device.make a.volatile a.persistent).next
  made a = record { device = (b.make a).device; handed = by_make a; valid = (m.make a).valid; view = (m.make a).next }

  module _ {s : DeviceState} (p : At b s) where
    -- what the definitions say of a command on the view
    abbrev defined : CommandAsked → Outcome
    defined a = outcome s a.opcode a.payload a.time a.area (length a.before)

    -- the device after a call
    commanded : (a : CommandAsked) → At b (defined a).next
    commanded a =
        let r = (m.command p.device p.handed p.valid a).done in
        record {
          device = (b.command p.device a).answer.device;
          handed = by_command p.device p.handed a;
          valid = r.valid;
          view = r.next ∙ ap (λ x. (outcome x a.opcode a.payload a.time a.area (length a.before)).next) p.view;
        }

    event_reported : (a : EventAsked) → At b (Device.event_report s a.time a.log a.event).next
    event_reported a =
        let r = (m.event_report p.device p.handed p.valid a).done in
        record {
          device = (b.event_report p.device a).device;
          handed = by_event_report p.device p.handed a;
          valid = r.valid;
          view = r.next ∙ ap (λ x. (Device.event_report x a.time a.log a.event).next) p.view;
        }

    media_reported : (a : MediaAsked) → At b (Device.media_report s a.time a.address a.lines a.kind).next
    media_reported a =
        let r = (m.media_report p.device p.handed p.valid a).done in
        record {
          device = (b.media_report p.device a).device;
          handed = by_media_report p.device p.handed a;
          valid = r.valid;
          view = r.next ∙ ap (λ x. (Device.media_report x a.time a.address a.lines a.kind).next) p.view;
        }

    -- the number of a call, and the reply of a command, are the definitions' on the view
    command_code : (a : CommandAsked) → (b.command p.device a).answer.code ≡ (defined a).code
    command_code a =
        (m.command p.device p.handed p.valid a).done.code
        ∙ ap (λ x. (outcome x a.opcode a.payload a.time a.area (length a.before)).code) p.view

    command_reply : (a : CommandAsked) → reply_of (b.command p.device a) ≡ take (length (defined a).reply) (splice 0 (defined a).reply a.before)
    command_reply a =
        let r = (m.command p.device p.handed p.valid a).done in
        ap₂ take r.size r.bytes
        ∙ ap (λ x. take (length (outcome x a.opcode a.payload a.time a.area (length a.before)).reply) (splice 0 (outcome x a.opcode a.payload a.time a.area (length a.before)).reply a.before)) p.view

    -- so of the second mailbox
    pool_code : (a : PoolAsked) → (b.pool_command p.device a).answer.code ≡ (pool_answer s a.opcode a.payload a.time (length a.before)).code
    pool_code a = (m.pool_command p.device p.handed p.valid a).code ∙ ap (λ x. (pool_answer x a.opcode a.payload a.time (length a.before)).code) p.view

    pool_reply : (a : PoolAsked) → pool_reply_of (b.pool_command p.device a)
        ≡ take (length (pool_answer s a.opcode a.payload a.time (length a.before)).bytes) (splice 0 (pool_answer s a.opcode a.payload a.time (length a.before)).bytes a.before)
    pool_reply a =
        let r = m.pool_command p.device p.handed p.valid a in
        ap₂ take r.size r.bytes
        ∙ ap (λ x. take (length (pool_answer x a.opcode a.payload a.time (length a.before)).bytes) (splice 0 (pool_answer x a.opcode a.payload a.time (length a.before)).bytes a.before)) p.view

    event_code : (a : EventAsked) → (b.event_report p.device a).code ≡ (Device.event_report s a.time a.log a.event).code
    event_code a = (m.event_report p.device p.handed p.valid a).done.code ∙ ap (λ x. (Device.event_report x a.time a.log a.event).code) p.view

    media_code : (a : MediaAsked) → (b.media_report p.device a).code ≡ (Device.media_report s a.time a.address a.lines a.kind).code
    media_code a =
        (m.media_report p.device p.handed p.valid a).done.code ∙ ap (λ x. (Device.media_report x a.time a.address a.lines a.kind).code) p.view

    line_code : (a : LineAsked) → (b.line_test p.device a).code ≡ (Device.line_test s a.address).code
    line_code a = (m.line_test p.device p.handed p.valid a).code ∙ ap (λ x. (Device.line_test x a.address).code) p.view

    -- lines stored, whether an event is stored, what a line test, event status and damage total say
    event_stored : (a : EventAsked) → (b.event_report p.device a).stored ≡ (Device.event_report s a.time a.log a.event).stored
    event_stored a = (m.event_report p.device p.handed p.valid a).done.stored ∙ ap (λ x. (Device.event_report x a.time a.log a.event).stored) p.view

    media_stored : (a : MediaAsked) → (b.media_report p.device a).stored ≡ (Device.media_report s a.time a.address a.lines a.kind).stored
    media_stored a =
        (m.media_report p.device p.handed p.valid a).done.stored
        ∙ ap (λ x. (Device.media_report x a.time a.address a.lines a.kind).stored) p.view

    line_number : (a : LineAsked) → status_number (b.line_test p.device a).answer ≡ (Device.line_test s a.address).number
    line_number a = (m.line_test p.device p.handed p.valid a).number ∙ ap (λ x. (Device.line_test x a.address).number) p.view

    status_bits : (b.event_status p.device).bits ≡ (Device.event_status s).bits
    status_bits = (m.event_status p.device p.handed p.valid).bits ∙ ap (λ x. (Device.event_status x).bits) p.view

    total_given : b.damage_total p.device ≡ Device.damage_total s
    total_given = m.damage_total p.device p.handed p.valid ∙ ap Device.damage_total p.view

-- ---- the calls of the witnesses
-- make 1 0, make 2 0
abbrev one_unit : MakeAsked
one_unit = record { volatile = 1; persistent = 0; volatile_u16 = omega arith; persistent_u16 = omega arith }

abbrev two_units : MakeAsked
two_units = record { volatile = 2; persistent = 0; volatile_u16 = omega arith; persistent_u16 = omega arith }

-- an event of zero bytes to log 0; damage of one line, of type 1, at line 0 and at line 1; a test of line 0
abbrev an_event : EventAsked
an_event = record { time = 0; log = 0; event = replicate 128 0; time_u64 = omega arith; log_u8 = omega arith; event_slice = slice (replicate 128 0) refl }

abbrev damage : (line : ℕ) → line < 2 → MediaAsked
damage line h =
    record { time = 0; address = line * 64; lines = 1; kind = 1; time_u64 = omega arith; address_u64 = omega arith; lines_u32 = omega arith; kind_u8 = omega arith }

abbrev first_line : LineAsked
first_line = record { address = 0; address_u64 = omega arith }

-- a device of one unit after n events to log 0
abbrev after_events : ℕ → DeviceState
after_events zero = (Device.make 1 0).next
after_events (suc n) = (Device.event_report (after_events n) 0 0 (replicate 128 0)).next

-- the build leads there
events_reported : {b : Build} (m : Meets b) (n : ℕ) → At b (after_events n)
events_reported m zero = made m one_unit
events_reported m (suc n) = event_reported m (events_reported m n) an_event

-- ---- one that refuses all
-- a payload with which a command of the opcode is not refused by a new device: it is answered 0000h, and a Sanitize 0001h
record Succeeds (opcode : ℕ) : Type 0 where
  payload : List ℕ
  small : ltb opcode 65536 ≡ true
  lent : short payload ≡ true
  taken : Refused (outcome (Device.make 1 0).next opcode payload 0 zero_area 2048).code → ⊥

-- what holds of k, and of n where the rest of a test holds, holds of n
one_of : (P : ℕ → Type 0) (n k : ℕ) (rest : Bool) → P k → (rest ≡ true → P n) → (eqb n k || rest) ≡ true → P n
one_of P n k rest h r = go (eqb n k) refl
  where
    go : (t : Bool) → eqb n k ≡ t → (t || rest) ≡ true → P n
    go true q e = subst P (sym (eqb-true n k q)) h
    go false q e = r e

-- a test that fails does not hold: the end of a list of cases
none_of : {A : Type 0} → false ≡ true → A
none_of e = absurd (let z : ◌≡◌ {A = ℕ} 0 1 = cc in omega arith)

-- every known opcode has one: no payload, or zeros, or the log's identifier and zeros
succeeds : (n : ℕ) → known commands n ≡ true → Succeeds n
unfolding rules
succeeds n =
    known_one Succeeds commands (
      zeros 0x0100 1 refl refl refl,
      (
        zeros 0x0101 6 refl refl refl,
        (
          zeros 0x0102 0 refl refl refl,
          (
            zeros 0x0103 4 refl refl refl,
            (
              zeros 0x0300 0 refl refl refl,
              (
                zeros 0x0301 8 refl refl refl,
                (
                  zeros 0x0400 0 refl refl refl,
                  (
                    record { payload = effects_log_id ++ replicate 8 0; small = refl; lent = refl; taken = λ r. r.not_success refl },
                    (
                      zeros 0x4000 0 refl refl refl,
                      (
                        zeros 0x4102 8 refl refl refl,
                        (
                          zeros 0x4103 8 refl refl refl,
                          (
                            zeros 0x4300 16 refl refl refl,
                            (
                              zeros 0x4301 8 refl refl refl,
                              (
                                zeros 0x4302 72 refl refl refl,
                                (
                                  record { payload = []; small = refl; lent = refl; taken = λ r. r.not_started refl },
                                  tt,
                                ),
                              ),
                            ),
                          ),
                        ),
                      ),
                    ),
                  ),
                ),
              ),
            ),
          ),
        ),
      ),
    )
    n
  where
    zeros : (k n : ℕ) → ltb k 65536 ≡ true → short (replicate n 0) ≡ true → (outcome (Device.make 1 0).next k (replicate n 0) 0 zero_area 2048).code ≡ 0 → Succeeds k
    zeros k n s l c = record { payload = replicate n 0; small = s; lent = l; taken = λ r. r.not_success c }

-- so of the second mailbox
record PoolSucceeds (opcode : ℕ) : Type 0 where
  payload : List ℕ
  small : ltb opcode 65536 ≡ true
  lent : short payload ≡ true
  taken : (pool_answer (Device.make 1 0).next opcode payload 0 2048).code ≡ 0

pool_succeeds : (n : ℕ) → known (rows_of Pool) n ≡ true → PoolSucceeds n
unfolding rules
pool_succeeds n =
    known_one PoolSucceeds (rows_of Pool) (
      zeros 0x0100 1 refl refl refl,
      (
        zeros 0x0102 0 refl refl refl,
        (
          zeros 0x0300 0 refl refl refl,
          (
            zeros 0x0400 0 refl refl refl,
            (
              record { payload = effects_log_id ++ replicate 8 0; small = refl; lent = refl; taken = refl },
              (
                zeros 0x4000 0 refl refl refl,
                (
                  zeros 0x4300 16 refl refl refl,
                  tt,
                ),
              ),
            ),
          ),
        ),
      ),
    )
    n
  where
    zeros : (k n : ℕ) → ltb k 65536 ≡ true → short (replicate n 0) ≡ true → (pool_answer (Device.make 1 0).next k (replicate n 0) 0 2048).code ≡ 0 → PoolSucceeds k
    zeros k n s l c = record { payload = replicate n 0; small = s; lent = l; taken = c }

-- A build that refuses every call of one kind, be it only every command of one opcode, does not meet the contracts.
pub refuses_one_fails : (b : Build) → RefusesOne b → Meets b → ⊥
unfolding rules
refuses_one_fails b (every_make f) m = (f one_unit).not_success (m.make one_unit).code
refuses_one_fails b (every_command opcode k f) m =
    let w = succeeds opcode k in
    let a = asks opcode w.payload w.small w.lent in
    w.taken (refused_too (command_code m (made m one_unit) a) (f (made m one_unit).device (made m one_unit).handed a refl))
refuses_one_fails b (every_event_report f) m = (f (made m one_unit).device (made m one_unit).handed an_event).not_success (event_code m (made m one_unit) an_event)
refuses_one_fails b (every_media_report f) m =
    (f (made m one_unit).device (made m one_unit).handed (damage 0 (omega arith))).not_success (media_code m (made m one_unit) (damage 0 (omega arith)))
refuses_one_fails b (every_line_test f) m = (f (made m one_unit).device (made m one_unit).handed first_line).not_success (line_code m (made m one_unit) first_line)
refuses_one_fails b (every_pool_command opcode k f) m =
    let w = pool_succeeds opcode k in
    let a = pool_asks opcode w.payload w.small w.lent in
    (f (made m one_unit).device (made m one_unit).handed a refl).not_success (pool_code m (made m one_unit) a ∙ w.taken)

-- A build that refuses all does not meet the contracts.
pub refuses_all_fails : (b : Build) → RefusesAll b → Meets b → ⊥
refuses_all_fails b f = refuses_one_fails b (every_make f.make)

-- ---- numbers that differ
-- numbers that a test tells apart are not equal
differ : {x y : ℕ} → eqb x y ≡ false → x ≡ y → ⊥
differ {x} {y} d e = none_of (sym d ∙ eq-eqb x y e)

-- ---- one with a fixed reply
-- the bytes that the definitions put into the buffer for a command with a payload on a device
abbrev written : DeviceState → ℕ → List ℕ → List ℕ
written s opcode payload = take (length (outcome s opcode payload 0 zero_area 2048).reply) (splice 0 (outcome s opcode payload 0 zero_area 2048).reply buffer)

-- so of the second mailbox
abbrev pool_written : DeviceState → ℕ → List ℕ → List ℕ
pool_written s opcode payload = take (length (pool_answer s opcode payload 0 2048).bytes) (splice 0 (pool_answer s opcode payload 0 2048).bytes buffer)

-- two devices of the build that answer a command of the opcode, to either mailbox, with replies that differ at a place
record Told (b : Build) (opcode : ℕ) : Type 0 where
  payload : List ℕ
  small : ltb opcode 65536 ≡ true
  lent : short payload ≡ true
  left_view : DeviceState
  right_view : DeviceState
  left : At b left_view
  right : At b right_view
  left_code : (outcome left_view opcode payload 0 zero_area 2048).code ≡ 0
  right_code : (outcome right_view opcode payload 0 zero_area 2048).code ≡ 0
  place : ℕ
  apart : eqb (get_or (written left_view opcode payload) place 0) (get_or (written right_view opcode payload) place 0) ≡ false
  pool_left : (pool_answer left_view opcode payload 0 2048).code ≡ 0
  pool_right : (pool_answer right_view opcode payload 0 2048).code ≡ 0
  pool_apart : eqb (get_or (pool_written left_view opcode payload) place 0) (get_or (pool_written right_view opcode payload) place 0) ≡ false

-- the witnesses, each against a new device of one unit: an event in log 0 (0100h of log 0, record count at 20); log 0 enabled (0102h); the clock set to 1
-- (0300h); a device of two units (4000h, total units at 16); damage at line 0 (4300h of that line, record count at 10)
tells : (b : Build) → Meets b → (n : ℕ) → among telling n ≡ true → Told b n
unfolding rules
tells b m n =
    one_of (Told b) n 0x0100 _ (against 0x0100 (0 ∷ []) refl refl refl (event_reported m new an_event) refl 20 refl refl refl refl)
    (one_of (Told b) n 0x0102 _ (against 0x0102 [] refl refl refl (commanded m new (asks 0x0103 (1 ∷ replicate 3 0) refl refl)) refl 0 refl refl refl refl)
    (one_of (Told b) n 0x0300 _ (against 0x0300 [] refl refl refl (commanded m new (asks 0x0301 (1 ∷ replicate 7 0) refl refl)) refl 0 refl refl refl refl)
    (one_of (Told b) n 0x4000 _ (against 0x4000 [] refl refl refl (made m two_units) refl 16 refl refl refl refl)
    (one_of (Told b) n 0x4300 _ (against 0x4300 (replicate 8 0 ++ (1 ∷ replicate 7 0)) refl refl refl (media_reported m new (damage 0 (omega arith))) refl 10 refl refl refl refl)
    none_of))))
  where
    new : At b (Device.make 1 0).next
    new = made m one_unit

    against : (opcode : ℕ) (payload : List ℕ) → ltb opcode 65536 ≡ true → short payload ≡ true → (outcome (Device.make 1 0).next opcode payload 0 zero_area 2048).code ≡ 0
        → {s : DeviceState} → At b s → (outcome s opcode payload 0 zero_area 2048).code ≡ 0
        → (place : ℕ) → eqb (get_or (written (Device.make 1 0).next opcode payload) place 0) (get_or (written s opcode payload) place 0) ≡ false
        → (pool_answer (Device.make 1 0).next opcode payload 0 2048).code ≡ 0 → (pool_answer s opcode payload 0 2048).code ≡ 0
        → eqb (get_or (pool_written (Device.make 1 0).next opcode payload) place 0) (get_or (pool_written s opcode payload) place 0) ≡ false → Told b opcode
    against opcode payload small lent c {s} r d place apart x y z =
        record {
          payload = payload;
          small = small;
          lent = lent;
          left_view = (Device.make 1 0).next;
          right_view = s;
          left = new;
          right = r;
          left_code = c;
          right_code = d;
          place = place;
          apart = apart;
          pool_left = x;
          pool_right = y;
          pool_apart = z;
        }

-- A build in which one kind of call, be it only the commands of one opcode that tell of the device, answers the same whatever device is asked does not meet
-- the contracts. The other witnesses, against a new device of one unit: a Get LSA of the first byte of zeros, and of an area that begins with 1; an event to log 0 after eight of them; damage at line 0 after the same damage; a test of
-- line 0 after damage there; event status after an event; damage total after damage.
pub tells_nothing_fails : (b : Build) → TellsNothing b → Meets b → ⊥
unfolding rules
tells_nothing_fails b (of_command opcode k f) m =
    let w = tells b m opcode k in
    let a = asks opcode w.payload w.small w.lent in
    let same = f w.left.device w.right.device w.left.handed w.right.handed a refl (command_code m w.left a ∙ w.left_code) (command_code m w.right a ∙ w.right_code) in
    differ w.apart (ap (λ (bytes : List ℕ). get_or bytes w.place 0) (sym (command_reply m w.left a) ∙ same ∙ command_reply m w.right a))
tells_nothing_fails b (of_labels f) m =
    let new = made m one_unit in
    let p : List ℕ = replicate 4 0 ++ (1 ∷ replicate 3 0) in
    let zero = asks 0x4102 p refl refl in
    let one = lends (1 ∷ replicate 4095 0) refl refl 0x4102 p refl refl in
    let same = f new.device new.handed zero one refl refl refl (command_code m new zero) (command_code m new one) in
    differ {x = 0} {y = 1} refl (ap (λ (bytes : List ℕ). get_or bytes 0 9) (sym (command_reply m new zero) ∙ same ∙ command_reply m new one))
tells_nothing_fails b (of_event_report f) m =
    let new = made m one_unit in
    let full = events_reported m 8 in
    none_of (sym (event_stored m full an_event) ∙ f full.device new.device full.handed new.handed an_event ∙ event_stored m new an_event)
tells_nothing_fails b (of_media_report f) m =
    let new = made m one_unit in
    let a = damage 0 (omega arith) in
    let damaged = media_reported m new a in
    differ {x = 1} {y = 0} refl (sym (media_stored m new a) ∙ f new.device damaged.device new.handed damaged.handed a ∙ media_stored m damaged a)
tells_nothing_fails b (of_line_test f) m =
    let new = made m one_unit in
    let damaged = media_reported m new (damage 0 (omega arith)) in
    differ {x = 0} {y = 1} refl (sym (line_number m new first_line) ∙ f new.device damaged.device new.handed damaged.handed first_line ∙ line_number m damaged first_line)
tells_nothing_fails b (of_event_status f) m =
    let new = made m one_unit in
    let one = event_reported m new an_event in
    differ {x = 0} {y = 1} refl (sym (status_bits m new) ∙ f new.device one.device new.handed one.handed ∙ status_bits m one)
tells_nothing_fails b (of_damage_total f) m =
    let new = made m one_unit in
    let damaged = media_reported m new (damage 0 (omega arith)) in
    differ {x = 0} {y = 1} refl (sym (total_given m new) ∙ f new.device damaged.device new.handed damaged.handed ∙ total_given m damaged)
tells_nothing_fails b (of_pool_command opcode k f) m =
    let w = tells b m opcode k in
    let a = pool_asks opcode w.payload w.small w.lent in
    let same = f w.left.device w.right.device w.left.handed w.right.handed a refl (pool_code m w.left a ∙ w.pool_left) (pool_code m w.right a ∙ w.pool_right) in
    differ w.pool_apart (ap (λ (bytes : List ℕ). get_or bytes w.place 0) (sym (pool_reply m w.left a) ∙ same ∙ pool_reply m w.right a))

-- A build with a fixed reply does not meet the contracts.
pub fixed_reply_fails : (b : Build) → FixedReply b → Meets b → ⊥
fixed_reply_fails b f = tells_nothing_fails b (of_command 0x4000 refl (λ d e hd he a _ cd ce. f.fixed d hd a cd ∙ sym (f.fixed e he a ce)))

-- ---- one that changes nothing
-- what can be seen of a device: the records in log 0, the setting of log 0, whether the clock is set, whether media is disabled, the damage total
abbrev waiting : DeviceState → ℕ
waiting s = length (log_at s.logs 0).held

abbrev setting : DeviceState → ℕ
setting s = get_or s.policy 0 0

abbrev clock_set : DeviceState → ℕ
clock_set s = cond s.clock.set 1 0

abbrev disabled : DeviceState → ℕ
disabled s = cond s.media.disabled 1 0

-- a device of the build that a command of the opcode changes, by a number seen before and after it
record Changed (b : Build) (opcode : ℕ) : Type 0 where
  payload : List ℕ
  small : ltb opcode 65536 ≡ true
  lent : short payload ≡ true
  view : DeviceState
  start : At b view
  seen : DeviceState → ℕ
  apart : eqb (seen (outcome view opcode payload 0 zero_area 2048).next) (seen view) ≡ false

-- the witnesses: handle 1 of log 0 cleared after an event (0101h); log 0 enabled (0103h); the clock set to 0 (0301h); line 0 injected (4301h); line 0 cleared after
-- damage there (4302h); a Sanitize started (4400h)
changes : (b : Build) → Meets b → (n : ℕ) → among changing n ≡ true → Changed b n
unfolding rules
changes b m n =
    one_of (Changed b) n 0x0101 _ (seeing 0x0101 (0 ∷ 0 ∷ 1 ∷ 0 ∷ 0 ∷ 0 ∷ 1 ∷ 0 ∷ []) refl refl (event_reported m new an_event) waiting refl)
    (one_of (Changed b) n 0x0103 _ (seeing 0x0103 (1 ∷ replicate 3 0) refl refl new setting refl)
    (one_of (Changed b) n 0x0301 _ (seeing 0x0301 (replicate 8 0) refl refl new clock_set refl)
    (one_of (Changed b) n 0x4301 _ (seeing 0x4301 (replicate 8 0) refl refl new Device.damage_total refl)
    (one_of (Changed b) n 0x4302 _ (seeing 0x4302 (replicate 72 0) refl refl (media_reported m new (damage 0 (omega arith))) Device.damage_total refl)
    (one_of (Changed b) n 0x4400 _ (seeing 0x4400 [] refl refl new disabled refl)
    none_of)))))
  where
    new : At b (Device.make 1 0).next
    new = made m one_unit

    seeing : (opcode : ℕ) (payload : List ℕ) → ltb opcode 65536 ≡ true → short payload ≡ true → {s : DeviceState} → At b s → (seen : DeviceState → ℕ)
        → eqb (seen (outcome s opcode payload 0 zero_area 2048).next) (seen s) ≡ false → Changed b opcode
    seeing opcode payload small lent {s} p seen apart = record { payload = payload; small = small; lent = lent; view = s; start = p; seen = seen; apart = apart }

-- no number that differs before and after a call by the definitions is the same of the two devices
unchanged : {b : Build} (seen : DeviceState → ℕ) {s t : DeviceState} (p : At b s) (q : At b t) → eqb (seen t) (seen s) ≡ false
    → seen (state_of q.device) ≡ seen (state_of p.device) → ⊥
unchanged seen p q d e = differ d (ap seen (sym q.view) ∙ e ∙ ap seen p.view)

-- A build in which one kind of call that changes a device, be it only the commands of one opcode, leaves all that can be seen does not meet the contracts.
pub leaves_one_fails : (b : Build) → LeavesOne b → Meets b → ⊥
unfolding rules commanded event_reported media_reported
leaves_one_fails b (LeavesOne.every_command opcode k f) m =
    let w = changes b m opcode k in
    let a = asks opcode w.payload w.small w.lent in
    unchanged w.seen w.start (commanded m w.start a) w.apart (ap w.seen (f w.start.device w.start.handed a refl))
leaves_one_fails b (LeavesOne.every_label_set f) m =
    let new = made m one_unit in
    let a = asks 0x4103 (replicate 8 0 ++ (1 ∷ [])) refl refl in
    let left = m.labels new.device new.handed new.valid a ∙ ap (λ (n : ℕ). area_after 0x4103 a.payload n zero_area) (command_code m new a) in
    differ {x = 0} {y = 1} refl (ap (λ (bytes : List ℕ). get_or bytes 0 9) (sym (f new.device new.handed a refl) ∙ left))
leaves_one_fails b (LeavesOne.every_event_report f) m =
    let p = made m one_unit in
    unchanged waiting p (event_reported m p an_event) refl (ap waiting (f p.device p.handed an_event))
leaves_one_fails b (LeavesOne.every_media_report f) m =
    let p = made m one_unit in
    let a = damage 0 (omega arith) in
    unchanged Device.damage_total p (media_reported m p a) refl (ap Device.damage_total (f p.device p.handed a))

-- A build that changes nothing does not meet the contracts.
pub changes_nothing_fails : (b : Build) → ChangesNothing b → Meets b → ⊥
changes_nothing_fails b f = leaves_one_fails b (LeavesOne.every_media_report (λ d h a. ap state_of (f.media_report d h a)))

-- ---- one that keeps the first report
-- A build that keeps the first report, of media or of an event, and leaves list or log as it was at a later one does not meet the contracts. The witnesses:
-- damage at line 0, then at line 1; an event to log 0, then another.
pub keeps_first_fails : (b : Build) → KeepsFirst b → Meets b → ⊥
unfolding rules event_reported media_reported
keeps_first_fails b (of_media f) m =
    let p = media_reported m (made m one_unit) (damage 0 (omega arith)) in
    let a = damage 1 (omega arith) in
    let some : (state_of p.device).poison.entries ≡ [] → ⊥ = λ e. differ {x = 1} {y = 0} refl (sym (ap Device.damage_total p.view) ∙ ap (λ es. total (shapes es)) e) in
    unchanged Device.damage_total p (media_reported m p a) refl (ap damage_total (f p.device p.handed some a))
keeps_first_fails b (of_events f) m =
    let p = event_reported m (made m one_unit) an_event in
    let some : (log_at (state_of p.device).logs 0).held ≡ [] → ⊥ = λ e. differ {x = 1} {y = 0} refl (sym (ap waiting p.view) ∙ ap length e) in
    unchanged waiting p (event_reported m p an_event) refl (ap (λ (l : LogState). length l.held) (f p.device p.handed an_event some))
