-- The records of the input of each program (document 01, "Bench program"; document 10, "Records of the base" and, of W-202, W-206 and W-208, "Records that a
-- request brings"): how long each is. Assumes nothing.
use Rattle.std.specs.Prelude.{ℕ, ◌+◌, ◌≤◌, ◌≡◌, Bool, true, false, ◌&&◌, ◌||◌, cond, List, eqb, leb, length}
use Rattle.wire.specs.Wire.{field}
use Rattle.protocol.specs.declared.formats.Format.{Format}
use Rattle.protocol.specs.declared.formats.Format.TheVariants.{Bench, Probe}
use Rattle.protocol.specs.Records.{mark_of, NW, CM, EV, MD, LT, ES, DT, RQ, RP, RW, WK, AR, AB, PC}
use Rattle.protocol.specs.HostFormats.{within, opcode_of, request_head, knows, request_within, request_rest, RequestRead}

-- ---- `bench`, document 01

-- the bytes of a record's fixed part: its mark and its fields, "NW (volatile 2, persistent 2), first and once"; then "CM (time 8, opcode 2, length 2, payload)",
-- here without the payload, "EV (time 8, log 1, record 128)", "MD (time 8, address 8, lines 4, type 1)", "LT (address 8)". 0: "An unknown mark, .. a first
-- mark other than NW, a later NW .. prints BAD"
unfoldable pub bench_fixed : Bool → ℕ → ℕ
bench_fixed true m = cond (eqb m (mark_of NW)) 6 0
bench_fixed false m =
    cond (eqb m (mark_of CM)) 14
    (cond (eqb m (mark_of EV)) 139
    (cond (eqb m (mark_of MD)) 23
    (cond (eqb m (mark_of LT)) 10 0)))

-- the bytes of the whole record: a command's bytes 12 and 13 are the length of its payload. 0: "a CM length over 2,048 prints BAD"
unfoldable pub bench_size : List ℕ → ℕ
bench_size h = cond (eqb (mark_of h) (mark_of CM)) (cond (leb (field h 12 2) 2048) (length h + field h 12 2) 0) (length h)

-- ---- `probe`, document 10

-- a command's record, to the first mailbox or the second: `PC`, W-208, has its fields "as `CM`"
abbrev pub of_command : ℕ → Bool
of_command m = eqb m (mark_of CM) || eqb m (mark_of PC)

-- the bytes of a record's fixed part, by its mark: `NW` volatile 2, persistent 2; `CM` time 8, opcode 2, room 2, fill 1, length 2; `EV` time 8, log 1, length 2;
-- `MD` time 8, address 8, lines 4, type 1; `LT` address 8; `ES` and `DT` nothing; `RQ` opcode 2, room 2, fill 1; `RP` opcode 2, asked 4, length 2; `RW` opcode 2,
-- asked 4, room 2, fill 1, length 2; `WK` address 8, lines 8, room 4, fill 1; `AR` size 4; `AB` offset 2, length 2; `PC` as `CM`. 0: "An unknown mark .. prints `BAD`"
unfoldable pub probe_least : ℕ → ℕ
probe_least m =
    cond (eqb m (mark_of NW)) 6
    (cond (of_command m) 17
    (cond (eqb m (mark_of EV)) 13
    (cond (eqb m (mark_of MD)) 23
    (cond (eqb m (mark_of LT)) 10
    (cond (eqb m (mark_of ES)) 2
    (cond (eqb m (mark_of DT)) 2
    (cond (eqb m (mark_of RQ)) 7
    (cond (eqb m (mark_of RP)) 10
    (cond (eqb m (mark_of RW)) 13
    (cond (eqb m (mark_of WK)) 23
    (cond (eqb m (mark_of AR)) 6
    (cond (eqb m (mark_of AB)) 6 0))))))))))))

-- "The first record must be a make"
unfoldable pub probe_fixed : Bool → ℕ → ℕ
probe_fixed true m = cond (eqb m (mark_of NW)) (probe_least m) 0
probe_fixed false m = probe_least m

-- the bytes of a record's head, by its fixed part: `RQ` has more fields before its size is known, by its opcode. 0: "a size over its limit .. prints `BAD`", here
-- the room of `RQ`; "an opcode that the record does not know is `BAD`"
unfoldable pub probe_head : List ℕ → ℕ
probe_head h = cond (eqb (mark_of h) (mark_of RQ)) (cond (within (field h 4 2)) (request_head (opcode_of h)) 0) (length h)

-- whether the sizes in a record's head are within their limits, and its opcode known: "room, payload length and record length at most 4,096 each", of `PC` too, "reply length at
-- most 4,096", "room of `WK` at most 65,536", "sizes of `AR` at most 8,192, offset plus length of `AB` at most 8,192"
unfoldable pub probe_within : List ℕ → Bool
probe_within h =
    cond (of_command (mark_of h)) (within (field h 12 2) && within (field h 15 2))
    (cond (eqb (mark_of h) (mark_of EV)) (within (field h 11 2))
    (cond (eqb (mark_of h) (mark_of RQ)) (request_within h)
    (cond (eqb (mark_of h) (mark_of RP)) (knows (opcode_of h) && within (field h 8 2))
    (cond (eqb (mark_of h) (mark_of RW)) (knows (opcode_of h) && (within (field h 8 2) && within (field h 11 2)))
    (cond (eqb (mark_of h) (mark_of WK)) (leb (field h 18 4) 65536)
    (cond (eqb (mark_of h) (mark_of AR)) (leb (field h 2 4) 8192)
    (cond (eqb (mark_of h) (mark_of AB)) (leb (field h 2 2 + field h 4 2) 8192) true)))))))

-- the bytes after a record's head: a command's payload, an event's record, what a request's fields say, a reply
unfoldable pub probe_rest : List ℕ → ℕ
probe_rest h =
    cond (of_command (mark_of h)) (field h 15 2)
    (cond (eqb (mark_of h) (mark_of EV)) (field h 11 2)
    (cond (eqb (mark_of h) (mark_of RQ)) (request_rest h)
    (cond (eqb (mark_of h) (mark_of RP)) (field h 8 2)
    (cond (eqb (mark_of h) (mark_of RW)) (field h 11 2) 0))))

-- the bytes of the whole record. 0: "a size over its limit .. prints `BAD`"
unfoldable pub probe_size : List ℕ → ℕ
probe_size h = cond (probe_within h) (length h + probe_rest h) 0

-- ---- either

-- the bytes of a record's fixed part, by whether it is the input's first and by its mark
unfoldable pub fixed : Format → Bool → ℕ → ℕ
fixed Bench = bench_fixed
fixed Probe = probe_fixed

-- the bytes of a record's head, by its fixed part: those before the sizes in it are known. Of `bench` the fixed part itself tells the sizes
unfoldable pub head : Format → List ℕ → ℕ
head Bench = length
head Probe = probe_head

-- the bytes of the whole record, by its head
unfoldable pub size : Format → List ℕ → ℕ
size Bench = bench_size
size Probe = probe_size

-- a fixed part that was found: it holds its mark and the fields of that mark, and no more than 139 bytes
pub record FixedPart (f : Format) (h : List ℕ) : Type 0 where
  pub marked : 2 ≤ length h
  pub fields : fixed f false (mark_of h) ≤ length h
  pub most : length h ≤ 139

-- a head that was found: besides, it has as many bytes as its own first ones tell
pub record Head (f : Format) (h : List ℕ) : Type 0 where
  pub part : FixedPart f h
  pub told : head f h ≡ length h

-- a whole record of `probe` that was found: it holds its mark and the fields of that mark, with its rooms and lengths within their limits
pub record Ready (r : List ℕ) : Type 0 where
  pub marked : 2 ≤ length r
  pub fields : probe_least (mark_of r) ≤ length r
  pub command : mark_of r ≡ mark_of CM → field r 12 2 ≤ 4096
  pub request : mark_of r ≡ mark_of RQ → RequestRead r
  pub reply : mark_of r ≡ mark_of RP → length r ≤ 4106
  pub again : mark_of r ≡ mark_of RW → (field r 8 2 ≤ 4096) × (length r ≤ 4109)
  pub walk : mark_of r ≡ mark_of WK → field r 18 4 ≤ 65536
  pub area : mark_of r ≡ mark_of AR → field r 2 4 ≤ 8192
  pub pool : mark_of r ≡ mark_of PC → field r 12 2 ≤ 4096
  pub stored : mark_of r ≡ mark_of AB → field r 2 2 + field r 4 2 ≤ 8192
