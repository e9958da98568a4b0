-- The return numbers (document 01, "Return numbers"), each named once for every layer, and checks in a stated order. Assumes nothing.
use Rattle.std.specs.Prelude.{ℕ, ◌≡◌, Bool, cond}

abbrev pub success : ℕ
success = 0

-- a Sanitize was started (document 02, W-207): no refusal
abbrev pub started : ℕ
started = 0x1

abbrev pub invalid_input : ℕ
invalid_input = 0x2

abbrev pub unsupported : ℕ
unsupported = 0x3

-- a Sanitize while one runs; a command that media which is disabled does not allow (document 02, W-207)
abbrev pub busy : ℕ
busy = 0x6

abbrev pub media_disabled : ℕ
media_disabled = 0x7

abbrev pub invalid_handle : ℕ
invalid_handle = 0xe

abbrev pub invalid_address : ℕ
invalid_address = 0xf

abbrev pub inject_limit : ℕ
inject_limit = 0x10

-- an opcode that the device has and the mailbox that asks has not (document 02, W-208)
abbrev pub unsupported_mailbox : ℕ
unsupported_mailbox = 0x15

abbrev pub invalid_length : ℕ
invalid_length = 0x16

abbrev pub invalid_log : ℕ
invalid_log = 0x17

-- house: reply buffer under 2,048 bytes; label area not 4,096 (document 02, W-206)
abbrev pub small_buffer : ℕ
small_buffer = 0x100

-- a refusal is a number other than 0000h and 0001h (document 02, W-207: 0001h "is no refusal")
pub record Refused (code : ℕ) : Type 0 where
  pub not_success : code ≡ success → ⊥
  pub not_started : code ≡ started → ⊥

-- a check: the refusal where the test fails, else what follows
abbrev pub need : {A : Type 0} → Bool → A → A → A
need test refusal rest = cond test rest refusal
