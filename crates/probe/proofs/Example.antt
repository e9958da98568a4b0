-- Examples of the probe program, from the bytes of its input to the bytes of its output, by computation with the definitions that the contracts cite: a refused
-- make whose device is used on, refused calls with their whole answers, a buffer too small and one large enough, status and total, a walk, requests and replies of the
-- host library, a later make, a vector raised by a report and one by an injection, a report that raises none, labels written and read, a label area of another size that a
-- make leaves as it is, and a mark that is not there yet; and one of a Sanitize, with commands of the second mailbox. Assumes nothing.
use mathlib.Core.Path.{◌≡◌, refl}
use mathlib.Core.List.{List, [], ◌∷◌, ◌++◌}
use Prim.Native.Nat.{ℕ}
use lib.ListN.{replicate}
use Rattle.mailbox.specs.DeviceCalls.{new_device}
use Rattle.mailbox.proofs.Laws.{rules}
use Rattle.protocol.specs.Text.{numeral, columns, hex, bad_line, last_line}
use Rattle.protocol.specs.Records.{whole, tells, front_size}
use Rattle.protocol.specs.Formats.{probe_least, probe_fixed, probe_head, probe_within, probe_rest, probe_size, fixed, head, size}
use Rattle.protocol.proofs.Laws.{printed}
use Rattle.events.specs.Clear.{handles_at, clear_payload, handle_bytes}
use Rattle.host_requests.specs.Requests.{build, payload, countable}
use Rattle.host_replies.specs.Counted.{header_size, count_place, record_size, record_reserved, reserved, first_reserved, counted, verdict}
use Rattle.host_replies.specs.Replies.{read_timestamp, list_fields, read_poison_list, poison_record, write_bytes}
use Rattle.host.specs.Walk.{halves, walked, walk}
use Rattle.host.specs.Walking.{walk_on}
use Rattle.protocol.specs.HostFormats.{request_head, request_within, request_rest}
use Rattle.host_records.specs.Lines.{still, buffer_columns, buffer_line, written_line}
use Rattle.host_records.specs.HostRequests.{request_of, request_built, serve_request}
use Rattle.reply_records.specs.HostReplies.{each_of, record_columns, refusal_line, line_of, reply_line, serve_reply}
use Rattle.reply_records.specs.HostRewrites.{read_then, written_again, serve_again}
use Rattle.host_records.specs.HostWalks.{serve_walk}
use Rattle.probe.specs.PoolRecords.{serve_pool}
use Rattle.probe.specs.LabelRecords.{kept_first, serve_area, serve_bytes}
use Rattle.probe.specs.Calls.{serve_new, serve_command, serve_lent, serve_event, serve_media, serve_line, serve_status, serve_total, serve_device, serve_record, probe}

-- to unfold this is to unfold every definition of the line below
unfoldable steps : Unit {0}
unfolding printed rules numeral columns hex bad_line last_line whole tells front_size fixed head size probe_least probe_fixed probe_head probe_within probe_rest probe_size still buffer_columns buffer_line serve_new serve_command serve_lent serve_area serve_bytes serve_event serve_media serve_line serve_status serve_total serve_pool serve_request serve_walk serve_reply reply_line line_of refusal_line each_of record_columns serve_again written_again read_then read_timestamp write_bytes read_poison_list list_fields poison_record verdict counted first_reserved reserved record_reserved header_size record_size count_place serve_device serve_record request_head request_within request_rest written_line request_built request_of build payload countable handles_at clear_payload handle_bytes walk_on walk walked halves
steps = tt

-- "NW 0 0; LT at the last line of one unit, and past it; CM 0300h with a room of 0, and of 2,048 bytes of 55h; EV of one byte; MD of type 3; MD address 64, 2 lines,
-- type 1; DT; ES; WK address 0, 4 lines, with a room of 17 bytes of AAh, and of 15; RQ 0100h log 3; RQ 0301h with a room of 7; RQ 0101h log 1 and handles 1, 2;
-- RW 0300h; RP 0300h of 8 bytes, and of 7; RP 4300h with one record, and with its byte 1 set; NW 1 0; DT;
-- CM 0103h of 01 00 00 00 01; EV of 128 zero bytes to log 4; CM 4301h at address 64; the EV to log 0;
-- CM 4103h of 0A 0B at offset 4,094; AB of 4 bytes at offset 4,093; AR 4,095; CM 4102h of 2 bytes at offset 4,094; NW 1 0; the CM; AR 4,096; the CM; AB of none at 8,192; TT"
input : List ℕ
input =
    (78 ∷ 87 ∷ 0 ∷ 0 ∷ 0 ∷ 0 ∷ [])
    ++ (76 ∷ 84 ∷ 192 ∷ 255 ∷ 255 ∷ 15 ∷ 0 ∷ 0 ∷ 0 ∷ 0 ∷ [])
    ++ (76 ∷ 84 ∷ 0 ∷ 0 ∷ 0 ∷ 16 ∷ 0 ∷ 0 ∷ 0 ∷ 0 ∷ [])
    ++ (67 ∷ 77 ∷ []) ++ replicate 8 0 ++ (0 ∷ 3 ∷ 0 ∷ 0 ∷ 170 ∷ 0 ∷ 0 ∷ [])
    ++ (67 ∷ 77 ∷ []) ++ replicate 8 0 ++ (0 ∷ 3 ∷ 0 ∷ 8 ∷ 85 ∷ 0 ∷ 0 ∷ [])
    ++ (69 ∷ 86 ∷ []) ++ replicate 8 0 ++ (0 ∷ 1 ∷ 0 ∷ 7 ∷ [])
    ++ (77 ∷ 68 ∷ []) ++ replicate 8 0 ++ (64 ∷ []) ++ replicate 7 0 ++ (2 ∷ 0 ∷ 0 ∷ 0 ∷ 3 ∷ [])
    ++ (77 ∷ 68 ∷ []) ++ replicate 8 0 ++ (64 ∷ []) ++ replicate 7 0 ++ (2 ∷ 0 ∷ 0 ∷ 0 ∷ 1 ∷ [])
    ++ (68 ∷ 84 ∷ [])
    ++ (69 ∷ 83 ∷ [])
    ++ (87 ∷ 75 ∷ []) ++ replicate 8 0 ++ (4 ∷ []) ++ replicate 7 0 ++ (17 ∷ 0 ∷ 0 ∷ 0 ∷ 170 ∷ [])
    ++ (87 ∷ 75 ∷ []) ++ replicate 8 0 ++ (4 ∷ []) ++ replicate 7 0 ++ (15 ∷ 0 ∷ 0 ∷ 0 ∷ 170 ∷ [])
    ++ (82 ∷ 81 ∷ 0 ∷ 1 ∷ 4 ∷ 0 ∷ 9 ∷ 3 ∷ [])
    ++ (82 ∷ 81 ∷ 1 ∷ 3 ∷ 7 ∷ 0 ∷ 9 ∷ []) ++ replicate 8 0
    ++ (82 ∷ 81 ∷ 1 ∷ 1 ∷ 16 ∷ 0 ∷ 9 ∷ 1 ∷ 0 ∷ 2 ∷ 0 ∷ 1 ∷ 0 ∷ 2 ∷ 0 ∷ [])
    ++ (82 ∷ 87 ∷ 0 ∷ 3 ∷ 0 ∷ 0 ∷ 0 ∷ 0 ∷ 9 ∷ 0 ∷ 5 ∷ 8 ∷ 0 ∷ 1 ∷ 2 ∷ 3 ∷ 4 ∷ 5 ∷ 6 ∷ 7 ∷ 8 ∷ [])
    ++ (82 ∷ 80 ∷ 0 ∷ 3 ∷ 0 ∷ 0 ∷ 0 ∷ 0 ∷ 8 ∷ 0 ∷ 1 ∷ []) ++ replicate 7 0
    ++ (82 ∷ 80 ∷ 0 ∷ 3 ∷ 0 ∷ 0 ∷ 0 ∷ 0 ∷ 7 ∷ 0 ∷ []) ++ replicate 7 0
    ++ (82 ∷ 80 ∷ 0 ∷ 67 ∷ 0 ∷ 0 ∷ 0 ∷ 0 ∷ 48 ∷ 0 ∷ []) ++ replicate 10 0 ++ (1 ∷ []) ++ replicate 21 0 ++ (65 ∷ []) ++ replicate 7 0 ++ (2 ∷ []) ++ replicate 7 0
    ++ (82 ∷ 80 ∷ 0 ∷ 67 ∷ 0 ∷ 0 ∷ 0 ∷ 0 ∷ 48 ∷ 0 ∷ 0 ∷ 1 ∷ []) ++ replicate 8 0 ++ (1 ∷ []) ++ replicate 21 0 ++ (65 ∷ []) ++ replicate 7 0 ++ (2 ∷ []) ++ replicate 7 0
    ++ (78 ∷ 87 ∷ 1 ∷ 0 ∷ 0 ∷ 0 ∷ [])
    ++ (68 ∷ 84 ∷ [])
    ++ (67 ∷ 77 ∷ []) ++ replicate 8 0 ++ (3 ∷ 1 ∷ 0 ∷ 8 ∷ 85 ∷ 5 ∷ 0 ∷ 1 ∷ 0 ∷ 0 ∷ 0 ∷ 1 ∷ [])
    ++ (69 ∷ 86 ∷ []) ++ replicate 8 0 ++ (4 ∷ 128 ∷ 0 ∷ []) ++ replicate 128 0
    ++ (67 ∷ 77 ∷ []) ++ replicate 8 0 ++ (1 ∷ 67 ∷ 0 ∷ 8 ∷ 85 ∷ 8 ∷ 0 ∷ 64 ∷ []) ++ replicate 7 0
    ++ (69 ∷ 86 ∷ []) ++ replicate 8 0 ++ (0 ∷ 128 ∷ 0 ∷ []) ++ replicate 128 0
    ++ (67 ∷ 77 ∷ []) ++ replicate 8 0 ++ (3 ∷ 65 ∷ 0 ∷ 8 ∷ 85 ∷ 10 ∷ 0 ∷ 254 ∷ 15 ∷ 0 ∷ 0 ∷ 0 ∷ 0 ∷ 0 ∷ 0 ∷ 10 ∷ 11 ∷ [])
    ++ (65 ∷ 66 ∷ 253 ∷ 15 ∷ 4 ∷ 0 ∷ [])
    ++ (65 ∷ 82 ∷ 255 ∷ 15 ∷ 0 ∷ 0 ∷ [])
    ++ (67 ∷ 77 ∷ []) ++ replicate 8 0 ++ (2 ∷ 65 ∷ 0 ∷ 8 ∷ 85 ∷ 8 ∷ 0 ∷ 254 ∷ 15 ∷ 0 ∷ 0 ∷ 2 ∷ 0 ∷ 0 ∷ 0 ∷ [])
    ++ (78 ∷ 87 ∷ 1 ∷ 0 ∷ 0 ∷ 0 ∷ [])
    ++ (67 ∷ 77 ∷ []) ++ replicate 8 0 ++ (2 ∷ 65 ∷ 0 ∷ 8 ∷ 85 ∷ 8 ∷ 0 ∷ 254 ∷ 15 ∷ 0 ∷ 0 ∷ 2 ∷ 0 ∷ 0 ∷ 0 ∷ [])
    ++ (65 ∷ 82 ∷ 0 ∷ 16 ∷ 0 ∷ 0 ∷ [])
    ++ (67 ∷ 77 ∷ []) ++ replicate 8 0 ++ (2 ∷ 65 ∷ 0 ∷ 8 ∷ 85 ∷ 8 ∷ 0 ∷ 254 ∷ 15 ∷ 0 ∷ 0 ∷ 2 ∷ 0 ∷ 0 ∷ 0 ∷ [])
    ++ (65 ∷ 66 ∷ 0 ∷ 32 ∷ 0 ∷ 0 ∷ [])
    ++ (84 ∷ 84 ∷ [])

-- "NW 2", "LT 0 0 0", "LT 15 2 0", "CM 256 0 - 1 0", "CM 0 8 0000000000000000 1 0", "EV 22 0 0", "MD 2 0 0", "MD 0 2 0", "DT 2", "ES 0 0 5",
-- "WK 0 16 41000000000000000200000000000000 1", "WK 256 0 - 1", "RQ 0 1 03 1", "RQ 256 0 - 1", "RQ 0 10 01000200000001000200 1",
-- "RW 0 8 0102030405060708 1", "RP 0 1", "RP 22", "RP 0 0 0 1 64 1 2", "RP 2 1", "NW 0", "DT 0", "CM 0 0 - 1 0", "EV 0 1 2",
-- "CM 0 0 - 1 2", "EV 0 1 0", "CM 0 0 - 1 0", "AB 000a0b00", "AR", "CM 256 0 - 1 0", "NW 0", "CM 256 0 - 1 0", "AR", "CM 0 2 0a0b 1 0", "AB -",
-- "BAD 849"
output : List ℕ
output =
    (78 ∷ 87 ∷ 32 ∷ 50 ∷ 10 ∷ [])
    ++ (76 ∷ 84 ∷ 32 ∷ 48 ∷ 32 ∷ 48 ∷ 32 ∷ 48 ∷ 10 ∷ [])
    ++ (76 ∷ 84 ∷ 32 ∷ 49 ∷ 53 ∷ 32 ∷ 50 ∷ 32 ∷ 48 ∷ 10 ∷ [])
    ++ (67 ∷ 77 ∷ 32 ∷ 50 ∷ 53 ∷ 54 ∷ 32 ∷ 48 ∷ 32 ∷ 45 ∷ 32 ∷ 49 ∷ 32 ∷ 48 ∷ 10 ∷ [])
    ++ (67 ∷ 77 ∷ 32 ∷ 48 ∷ 32 ∷ 56 ∷ 32 ∷ 48 ∷ 48 ∷ 48 ∷ 48 ∷ 48 ∷ 48 ∷ 48 ∷ 48 ∷ 48 ∷ 48 ∷ 48 ∷ 48 ∷ 48 ∷ 48 ∷ 48 ∷ 48 ∷ 32 ∷ 49 ∷ 32 ∷ 48 ∷ 10 ∷ [])
    ++ (69 ∷ 86 ∷ 32 ∷ 50 ∷ 50 ∷ 32 ∷ 48 ∷ 32 ∷ 48 ∷ 10 ∷ [])
    ++ (77 ∷ 68 ∷ 32 ∷ 50 ∷ 32 ∷ 48 ∷ 32 ∷ 48 ∷ 10 ∷ [])
    ++ (77 ∷ 68 ∷ 32 ∷ 48 ∷ 32 ∷ 50 ∷ 32 ∷ 48 ∷ 10 ∷ [])
    ++ (68 ∷ 84 ∷ 32 ∷ 50 ∷ 10 ∷ [])
    ++ (69 ∷ 83 ∷ 32 ∷ 48 ∷ 32 ∷ 48 ∷ 32 ∷ 53 ∷ 10 ∷ [])
    ++ (87 ∷ 75 ∷ 32 ∷ 48 ∷ 32 ∷ 49 ∷ 54 ∷ 32 ∷ 52 ∷ 49 ∷ 48 ∷ 48 ∷ 48 ∷ 48 ∷ 48 ∷ 48 ∷ 48 ∷ 48 ∷ 48 ∷ 48 ∷ 48 ∷ 48 ∷ 48 ∷ 48 ∷ 48 ∷ 50 ∷ 48 ∷ 48 ∷ 48 ∷ 48 ∷ 48 ∷ 48 ∷ 48 ∷ 48 ∷ 48 ∷ 48 ∷ 48 ∷ 48 ∷ 48 ∷ 48 ∷ 32 ∷ 49 ∷ 10 ∷ [])
    ++ (87 ∷ 75 ∷ 32 ∷ 50 ∷ 53 ∷ 54 ∷ 32 ∷ 48 ∷ 32 ∷ 45 ∷ 32 ∷ 49 ∷ 10 ∷ [])
    ++ (82 ∷ 81 ∷ 32 ∷ 48 ∷ 32 ∷ 49 ∷ 32 ∷ 48 ∷ 51 ∷ 32 ∷ 49 ∷ 10 ∷ [])
    ++ (82 ∷ 81 ∷ 32 ∷ 50 ∷ 53 ∷ 54 ∷ 32 ∷ 48 ∷ 32 ∷ 45 ∷ 32 ∷ 49 ∷ 10 ∷ [])
    ++ (82 ∷ 81 ∷ 32 ∷ 48 ∷ 32 ∷ 49 ∷ 48 ∷ 32 ∷ 48 ∷ 49 ∷ 48 ∷ 48 ∷ 48 ∷ 50 ∷ 48 ∷ 48 ∷ 48 ∷ 48 ∷ 48 ∷ 48 ∷ 48 ∷ 49 ∷ 48 ∷ 48 ∷ 48 ∷ 50 ∷ 48 ∷ 48 ∷ 32 ∷ 49 ∷ 10 ∷ [])
    ++ (82 ∷ 87 ∷ 32 ∷ 48 ∷ 32 ∷ 56 ∷ 32 ∷ 48 ∷ 49 ∷ 48 ∷ 50 ∷ 48 ∷ 51 ∷ 48 ∷ 52 ∷ 48 ∷ 53 ∷ 48 ∷ 54 ∷ 48 ∷ 55 ∷ 48 ∷ 56 ∷ 32 ∷ 49 ∷ 10 ∷ [])
    ++ (82 ∷ 80 ∷ 32 ∷ 48 ∷ 32 ∷ 49 ∷ 10 ∷ [])
    ++ (82 ∷ 80 ∷ 32 ∷ 50 ∷ 50 ∷ 10 ∷ [])
    ++ (82 ∷ 80 ∷ 32 ∷ 48 ∷ 32 ∷ 48 ∷ 32 ∷ 48 ∷ 32 ∷ 49 ∷ 32 ∷ 54 ∷ 52 ∷ 32 ∷ 49 ∷ 32 ∷ 50 ∷ 10 ∷ [])
    ++ (82 ∷ 80 ∷ 32 ∷ 50 ∷ 32 ∷ 49 ∷ 10 ∷ [])
    ++ (78 ∷ 87 ∷ 32 ∷ 48 ∷ 10 ∷ [])
    ++ (68 ∷ 84 ∷ 32 ∷ 48 ∷ 10 ∷ [])
    ++ (67 ∷ 77 ∷ 32 ∷ 48 ∷ 32 ∷ 48 ∷ 32 ∷ 45 ∷ 32 ∷ 49 ∷ 32 ∷ 48 ∷ 10 ∷ [])
    ++ (69 ∷ 86 ∷ 32 ∷ 48 ∷ 32 ∷ 49 ∷ 32 ∷ 50 ∷ 10 ∷ [])
    ++ (67 ∷ 77 ∷ 32 ∷ 48 ∷ 32 ∷ 48 ∷ 32 ∷ 45 ∷ 32 ∷ 49 ∷ 32 ∷ 50 ∷ 10 ∷ [])
    ++ (69 ∷ 86 ∷ 32 ∷ 48 ∷ 32 ∷ 49 ∷ 32 ∷ 48 ∷ 10 ∷ [])
    ++ (67 ∷ 77 ∷ 32 ∷ 48 ∷ 32 ∷ 48 ∷ 32 ∷ 45 ∷ 32 ∷ 49 ∷ 32 ∷ 48 ∷ 10 ∷ [])
    ++ (65 ∷ 66 ∷ 32 ∷ 48 ∷ 48 ∷ 48 ∷ 97 ∷ 48 ∷ 98 ∷ 48 ∷ 48 ∷ 10 ∷ [])
    ++ (65 ∷ 82 ∷ 10 ∷ [])
    ++ (67 ∷ 77 ∷ 32 ∷ 50 ∷ 53 ∷ 54 ∷ 32 ∷ 48 ∷ 32 ∷ 45 ∷ 32 ∷ 49 ∷ 32 ∷ 48 ∷ 10 ∷ [])
    ++ (78 ∷ 87 ∷ 32 ∷ 48 ∷ 10 ∷ [])
    ++ (67 ∷ 77 ∷ 32 ∷ 50 ∷ 53 ∷ 54 ∷ 32 ∷ 48 ∷ 32 ∷ 45 ∷ 32 ∷ 49 ∷ 32 ∷ 48 ∷ 10 ∷ [])
    ++ (65 ∷ 82 ∷ 10 ∷ [])
    ++ (67 ∷ 77 ∷ 32 ∷ 48 ∷ 32 ∷ 50 ∷ 32 ∷ 48 ∷ 97 ∷ 48 ∷ 98 ∷ 32 ∷ 49 ∷ 32 ∷ 48 ∷ 10 ∷ [])
    ++ (65 ∷ 66 ∷ 32 ∷ 45 ∷ 10 ∷ [])
    ++ (66 ∷ 65 ∷ 68 ∷ 32 ∷ 56 ∷ 52 ∷ 57 ∷ 10 ∷ [])

-- the definitions give these lines
example : printed probe 40 (kept_first (new_device 1 0)) 0 input ≡ output
unfolding steps input output
example = refl

-- Document 02, W-207 and W-208: on one unit a Sanitize takes 4 seconds. NW 1 0; MD address 0, 1 line, type 2; EV of 128 zero bytes to log 0; CM time 1, 4400h; LT 0; ES; CM time 4,000,000,000, 4102h of 1 byte at
-- offset 0; LT 0; at time 4,000,000,001 PC 0102h, PC 4400h, PC 0102h with a room of 0; LT 0; ES; the CM at that time; LT 0; ES
sanitize_input : List ℕ
sanitize_input =
    (78 ∷ 87 ∷ 1 ∷ 0 ∷ 0 ∷ 0 ∷ [])
    ++ (77 ∷ 68 ∷ []) ++ replicate 16 0 ++ (1 ∷ 0 ∷ 0 ∷ 0 ∷ 2 ∷ [])
    ++ (69 ∷ 86 ∷ []) ++ replicate 8 0 ++ (0 ∷ 128 ∷ 0 ∷ []) ++ replicate 128 0
    ++ (67 ∷ 77 ∷ 1 ∷ 0 ∷ 0 ∷ 0 ∷ 0 ∷ 0 ∷ 0 ∷ 0 ∷ 0 ∷ 68 ∷ 0 ∷ 8 ∷ 85 ∷ 0 ∷ 0 ∷ [])
    ++ (76 ∷ 84 ∷ []) ++ replicate 8 0
    ++ (69 ∷ 83 ∷ [])
    ++ (67 ∷ 77 ∷ 0 ∷ 40 ∷ 107 ∷ 238 ∷ 0 ∷ 0 ∷ 0 ∷ 0 ∷ 2 ∷ 65 ∷ 0 ∷ 8 ∷ 85 ∷ 8 ∷ 0 ∷ 0 ∷ 0 ∷ 0 ∷ 0 ∷ 1 ∷ 0 ∷ 0 ∷ 0 ∷ [])
    ++ (76 ∷ 84 ∷ []) ++ replicate 8 0
    ++ (80 ∷ 67 ∷ 1 ∷ 40 ∷ 107 ∷ 238 ∷ 0 ∷ 0 ∷ 0 ∷ 0 ∷ 2 ∷ 1 ∷ 0 ∷ 8 ∷ 85 ∷ 0 ∷ 0 ∷ [])
    ++ (80 ∷ 67 ∷ 1 ∷ 40 ∷ 107 ∷ 238 ∷ 0 ∷ 0 ∷ 0 ∷ 0 ∷ 0 ∷ 68 ∷ 0 ∷ 8 ∷ 85 ∷ 0 ∷ 0 ∷ [])
    ++ (80 ∷ 67 ∷ 1 ∷ 40 ∷ 107 ∷ 238 ∷ 0 ∷ 0 ∷ 0 ∷ 0 ∷ 2 ∷ 1 ∷ 0 ∷ 0 ∷ 85 ∷ 0 ∷ 0 ∷ [])
    ++ (76 ∷ 84 ∷ []) ++ replicate 8 0
    ++ (69 ∷ 83 ∷ [])
    ++ (67 ∷ 77 ∷ 1 ∷ 40 ∷ 107 ∷ 238 ∷ 0 ∷ 0 ∷ 0 ∷ 0 ∷ 2 ∷ 65 ∷ 0 ∷ 8 ∷ 85 ∷ 8 ∷ 0 ∷ 0 ∷ 0 ∷ 0 ∷ 0 ∷ 1 ∷ 0 ∷ 0 ∷ 0 ∷ [])
    ++ (76 ∷ 84 ∷ []) ++ replicate 8 0
    ++ (69 ∷ 83 ∷ [])

-- "NW 0", "MD 0 1 0", "EV 0 1 0", "CM 1 0 - 1 0", "LT 0 3 0", "ES 1 1 0", "CM 7 0 - 1 0", "LT 0 3 0", "PC 0 5 0000000000 1", "PC 21 0 - 1", "PC 256 0 - 1", "LT 0 3 0", "ES 1 1 0",
-- "CM 0 1 00 1 0", "LT 0 1 2", "ES 0 0 5": started; then Disabled and 0007h while it runs; at the due time the second mailbox's commands end nothing, and the command ends it: the line test answers again, and no
-- log waits
sanitize_output : List ℕ
sanitize_output =
    (78 ∷ 87 ∷ 32 ∷ 48 ∷ 10 ∷ [])
    ++ (77 ∷ 68 ∷ 32 ∷ 48 ∷ 32 ∷ 49 ∷ 32 ∷ 48 ∷ 10 ∷ [])
    ++ (69 ∷ 86 ∷ 32 ∷ 48 ∷ 32 ∷ 49 ∷ 32 ∷ 48 ∷ 10 ∷ [])
    ++ (67 ∷ 77 ∷ 32 ∷ 49 ∷ 32 ∷ 48 ∷ 32 ∷ 45 ∷ 32 ∷ 49 ∷ 32 ∷ 48 ∷ 10 ∷ [])
    ++ (76 ∷ 84 ∷ 32 ∷ 48 ∷ 32 ∷ 51 ∷ 32 ∷ 48 ∷ 10 ∷ [])
    ++ (69 ∷ 83 ∷ 32 ∷ 49 ∷ 32 ∷ 49 ∷ 32 ∷ 48 ∷ 10 ∷ [])
    ++ (67 ∷ 77 ∷ 32 ∷ 55 ∷ 32 ∷ 48 ∷ 32 ∷ 45 ∷ 32 ∷ 49 ∷ 32 ∷ 48 ∷ 10 ∷ [])
    ++ (76 ∷ 84 ∷ 32 ∷ 48 ∷ 32 ∷ 51 ∷ 32 ∷ 48 ∷ 10 ∷ [])
    ++ (80 ∷ 67 ∷ 32 ∷ 48 ∷ 32 ∷ 53 ∷ 32 ∷ 48 ∷ 48 ∷ 48 ∷ 48 ∷ 48 ∷ 48 ∷ 48 ∷ 48 ∷ 48 ∷ 48 ∷ 32 ∷ 49 ∷ 10 ∷ [])
    ++ (80 ∷ 67 ∷ 32 ∷ 50 ∷ 49 ∷ 32 ∷ 48 ∷ 32 ∷ 45 ∷ 32 ∷ 49 ∷ 10 ∷ [])
    ++ (80 ∷ 67 ∷ 32 ∷ 50 ∷ 53 ∷ 54 ∷ 32 ∷ 48 ∷ 32 ∷ 45 ∷ 32 ∷ 49 ∷ 10 ∷ [])
    ++ (76 ∷ 84 ∷ 32 ∷ 48 ∷ 32 ∷ 51 ∷ 32 ∷ 48 ∷ 10 ∷ [])
    ++ (69 ∷ 83 ∷ 32 ∷ 49 ∷ 32 ∷ 49 ∷ 32 ∷ 48 ∷ 10 ∷ [])
    ++ (67 ∷ 77 ∷ 32 ∷ 48 ∷ 32 ∷ 49 ∷ 32 ∷ 48 ∷ 48 ∷ 32 ∷ 49 ∷ 32 ∷ 48 ∷ 10 ∷ [])
    ++ (76 ∷ 84 ∷ 32 ∷ 48 ∷ 32 ∷ 49 ∷ 32 ∷ 50 ∷ 10 ∷ [])
    ++ (69 ∷ 83 ∷ 32 ∷ 48 ∷ 32 ∷ 48 ∷ 32 ∷ 53 ∷ 10 ∷ [])

sanitize_example : printed probe 20 (kept_first (new_device 1 0)) 0 sanitize_input ≡ sanitize_output
unfolding steps sanitize_input sanitize_output
sanitize_example = refl
