-- The sizes of document 01, "Numbers", each named once. (The return numbers are `wire`'s `Returns`.) Assumes nothing.
use Rattle.std.specs.Prelude.{ℕ}

-- a line has 64 bytes; a unit of 256 MiB has 4,194,304 lines; a device has 1 to 1,023 units
abbrev pub line_bytes : ℕ
line_bytes = 64

abbrev pub unit_lines : ℕ
unit_lines = 4194304

abbrev pub most_units : ℕ
most_units = 1023

-- payload and reply: at most 2,048 bytes each
abbrev pub mailbox_size : ℕ
mailbox_size = 2048

-- event records that fit a reply, 128 bytes each after 32: (2,048 - 32) / 128
abbrev pub event_records : ℕ
event_records = 15

-- poison records that a reply carries at most
abbrev pub poison_records : ℕ
poison_records = 126
