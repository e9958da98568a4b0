-- Why a reply with a count is refused: its number and its place (document 02, W-202: "0016h for .. a reply not as long as its count .. says; then 0002h with the place of
-- the first byte with a reserved bit set"), and what the results of readings and writings stand for. Assumes nothing.
use Rattle.std.specs.Prelude.{ℕ, Result, Ok, Err}
use Rattle.wire.specs.Returns.{success}
use Rattle.wire.specs.Refusal.{refusal_number}
use Rattle.wire.specs.declared.refusal.Refusal.{Refusal}
use Rattle.wire.specs.declared.refusal.Refusal.TheVariants as Number
use Rattle.host_replies.specs.declared.refusal.ReplyRefusal.{ReplyRefusal}
use Rattle.host_replies.specs.declared.refusal.ReplyRefusal.TheVariants.{InvalidLength, ReservedBit, SmallBuffer}

-- the refusal of document 01 that it is
abbrev pub refusal_of : ReplyRefusal → Refusal
refusal_of InvalidLength = Number.InvalidLength
refusal_of (ReservedBit place) = Number.InvalidInput
refusal_of SmallBuffer = Number.SmallBuffer

-- the return number
abbrev pub reply_code : ReplyRefusal → ℕ
reply_code r = refusal_number (refusal_of r)

-- the place, 0 where none is told
abbrev pub place_of : ReplyRefusal → ℕ
place_of InvalidLength = 0
place_of (ReservedBit place) = place
place_of SmallBuffer = 0

-- ---- what a result stands for, made of its number, its place and what it gives; a refusal gives nothing, and `none` stands there
abbrev pub placed : {A B : Type 0} → (code_place_given : ℕ → ℕ → A → B) → (none : A) → Result A ReplyRefusal → B
placed make none (Ok x) = make success 0 x
placed make none (Err r) = make (reply_code r) (place_of r) none

-- the same of a refusal that tells no place
abbrev pub numbered : {A B : Type 0} → (code_given : ℕ → A → B) → (none : A) → Result A Refusal → B
numbered make none (Ok x) = make success x
numbered make none (Err r) = make (refusal_number r) none
