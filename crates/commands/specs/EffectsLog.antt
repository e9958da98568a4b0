-- The Command Effects Log, Get Supported Logs and Get Log (document 01, "Logs and identity"). Assumes nothing.
use Rattle.std.specs.Prelude.{ℕ, ◌+◌, List, [], ◌∷◌, ◌++◌, leb, length}
use Rattle.wire.specs.Wire.{le, field, part, same}
use Rattle.wire.specs.Returns.{invalid_input, invalid_log, need}
use Rattle.commands.specs.Numbers.{mailbox_size}
use Rattle.settings.specs.Reply.{Reply, replied, no_reply}
use Rattle.commands.specs.declared.mailboxes.Mailbox.{Mailbox}
use Rattle.commands.specs.Commands.{Command, rows_of}

-- "The Command Effects Log has 4 bytes a command, opcode then effect, ascending"
abbrev pub effects : List Command → List ℕ
effects [] = []
effects (k ∷ ks) = le 2 k.opcode ++ le 2 k.effect ++ effects ks

-- that of the mailbox that asks (document 02, W-208: "its effects log and that log's size list those seven")
unfoldable pub effects_log : Mailbox → List ℕ
unfolding rows_of
effects_log mailbox = effects (rows_of mailbox)

-- its size: 60 bytes, and 28 of the pool manager's (`effects_sizes` computes both)
abbrev pub effects_size : Mailbox → ℕ
effects_size mailbox = length (effects_log mailbox)

-- "0da9c0b5-bf41-4b78-8f79-96b1623b3f17, bytes as printed"
unfoldable pub effects_log_id : List ℕ
effects_log_id = 0x0d ∷ 0xa9 ∷ 0xc0 ∷ 0xb5 ∷ 0xbf ∷ 0x41 ∷ 0x4b ∷ 0x78 ∷ 0x8f ∷ 0x79 ∷ 0x96 ∷ 0xb1 ∷ 0x62 ∷ 0x3b ∷ 0x3f ∷ 0x17 ∷ []

-- 0400h: "count 1 in 2 bytes, 6 zero, identifier, size in 4"
unfoldable pub get_supported_logs : Mailbox → Reply
get_supported_logs mailbox = replied (le 2 1 ++ le 6 0 ++ effects_log_id ++ le 4 (effects_size mailbox))

-- 0401h: identifier, offset 4, length 4
abbrev pub log_offset : List ℕ → ℕ
log_offset p = field p 16 4

abbrev pub log_length : List ℕ → ℕ
log_length p = field p 20 4

-- "other identifier 0017h; length over 2,048 or offset plus length over the size, 0002h; reply those bytes": of a log of any bytes
unfoldable pub part_of_log : List ℕ → List ℕ → Reply
part_of_log log p =
    need (same (part 0 16 p) effects_log_id) (no_reply invalid_log)
    (need (leb (log_length p) mailbox_size) (no_reply invalid_input)
    (need (leb (log_offset p + log_length p) (length log)) (no_reply invalid_input)
    (replied (part (log_offset p) (log_length p) log))))

abbrev pub get_log : Mailbox → List ℕ → Reply
get_log mailbox p = part_of_log (effects_log mailbox) p
