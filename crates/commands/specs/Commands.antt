-- The commands as one table (document 01, "What the device does", "Return numbers", "Logs and identity"; document 02, W-206, W-207, W-208): it gives the known opcodes, which mailbox has them, the payload
-- lengths and each mailbox's Command Effects Log. And the checks before a command's own. Assumes nothing.
use Rattle.std.specs.Prelude.{ℕ, Bool, true, false, ◌||◌, cond, List, [], ◌∷◌, leb, eqb}
use Rattle.labels.specs.Labels.{label_size}
use Rattle.wire.specs.Returns.{unsupported, unsupported_mailbox, invalid_length, small_buffer, busy, media_disabled, need, success}
use Rattle.commands.specs.Numbers.{mailbox_size}
use Rattle.commands.specs.declared.mailboxes.Mailbox.{Mailbox}
use Rattle.commands.specs.declared.mailboxes.Mailbox.TheVariants.{First, Pool}

-- a command: its opcode, its effect, the payload lengths that it takes, and whether the pool manager's mailbox has it too (the first has every command)
pub record Command : Type 0 where
  pub opcode : ℕ
  pub effect : ℕ
  pub takes : ℕ → Bool
  pub pool : Bool

abbrev pub exactly : ℕ → ℕ → Bool
exactly k n = eqb n k

-- the last column, which mailbox has the command (document 02, W-208): "It may use 0100h, 0102h, 0300h, 0400h, 0401h, 4000h and 4300h"
abbrev pub both : Bool
both = true

abbrev pub first_only : Bool
first_only = false

abbrev pub command : ℕ → ℕ → (ℕ → Bool) → Bool → Command
command opcode effect takes pool = record { opcode = opcode; effect = effect; takes = takes; pool = pool }

-- ascending by opcode, as the effects log lists them
unfoldable pub commands : List Command
commands =
    command 0x0100 0 (exactly 1) both
    ∷ command 0x0101 0x10 (leb 6) first_only
    ∷ command 0x0102 0 (exactly 0) both
    ∷ command 0x0103 2 (λ n. eqb n 4 || eqb n 5) first_only
    ∷ command 0x0300 0 (exactly 0) both
    ∷ command 0x0301 8 (exactly 8) first_only
    ∷ command 0x0400 0 (exactly 0) both
    ∷ command 0x0401 0 (exactly 24) both
    ∷ command 0x4000 0 (exactly 0) both
    ∷ command 0x4102 0 (exactly 8) first_only
    ∷ command 0x4103 6 (leb 8) first_only
    ∷ command 0x4300 0 (exactly 16) both
    ∷ command 0x4301 0 (exactly 8) first_only
    ∷ command 0x4302 0 (exactly 72) first_only
    ∷ command 0x4400 0x64 (exactly 0) first_only
    ∷ []

-- the rows of the pool manager's mailbox among some
abbrev pub pool_rows : List Command → List Command
pool_rows [] = []
pool_rows (k ∷ ks) = cond k.pool (k ∷ pool_rows ks) (pool_rows ks)

-- the rows of the mailbox that asks
unfoldable pub rows_of : Mailbox → List Command
unfolding commands
rows_of First = commands
rows_of Pool = pool_rows commands

-- whether it is the first: a command that is `first_only` is known there and nowhere else
abbrev pub is_first : Mailbox → Bool
is_first First = true
is_first Pool = false

-- whether some command has the opcode
abbrev pub known : List Command → ℕ → Bool
known [] op = false
known (k ∷ ks) op = eqb op k.opcode || known ks op

-- whether the command of the opcode takes a payload of n bytes
abbrev pub fits : List Command → ℕ → ℕ → Bool
fits [] op n = false
fits (k ∷ ks) op n = cond (eqb op k.opcode) (k.takes n) (fits ks op n)

-- "Order for a command: 0100h; payload over 2,048 bytes, 0016h; 0003h; wrong length, 0016h; then the command's own checks as listed"; "an opcode the device has and this mailbox hasn't, 0015h,
-- directly after 0003h" (document 02, W-208): the number that a mailbox gives before a command's own checks, 0 where there is none, for an opcode, a payload of n bytes and a reply buffer of `room` bytes.
-- The first mailbox has every opcode that the device has, and so gives no 0015h.
unfoldable pub checked : Mailbox → ℕ → ℕ → ℕ → ℕ
unfolding commands rows_of
checked mailbox op n room =
    need (leb mailbox_size room) small_buffer
    (need (leb n mailbox_size) invalid_length
    (need (known commands op) unsupported
    (need (known (rows_of mailbox) op) unsupported_mailbox
    (need (fits commands op n) invalid_length
    success))))

-- the same of the first mailbox, which is lent a label area, of `size` bytes: "area not 4,096 bytes, 0100h with the first check" (document 02, W-206). The number is that of the reply buffer, so that
-- which of the two is looked at first does not show
unfoldable pub admission : ℕ → ℕ → ℕ → ℕ → ℕ
admission op n size room = need (eqb size label_size) small_buffer (checked First op n room)

-- "Refusals, after the length check: Sanitize while one runs, 0006h; Inject, Clear Poison, Get LSA and Set LSA while disabled, 0007h" (document 02, W-207): the number that a command gets while
-- media is disabled, 0 where it works as ever
unfoldable pub while_disabled : ℕ → ℕ
while_disabled op =
    cond (eqb op 0x4400) busy
    (cond (eqb op 0x4301 || (eqb op 0x4302 || (eqb op 0x4102 || eqb op 0x4103))) media_disabled
    success)

-- the number that such a command gets, where media is disabled or not
abbrev pub blocked : Bool → ℕ → ℕ
blocked disabled op = cond disabled (while_disabled op) success

-- the number given before a command's own checks, 0 where there is none: the order of document 01, then media
unfoldable pub first_code : Bool → ℕ → ℕ → ℕ → ℕ → ℕ
first_code disabled op n size room = need (eqb (admission op n size room) success) (admission op n size room) (blocked disabled op)
