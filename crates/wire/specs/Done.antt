-- What a call that writes to a lent room gives, a command of the mailbox that replies (document 01, "Return numbers") or a call of the host's library (document 02, W-202): a return
-- number and the bytes written, none where it refuses: "each leaving the caller's room unaltered". Assumes nothing.
use Rattle.std.specs.Prelude.{ℕ, ◌≡◌, List, [], length}
use Rattle.wire.specs.Returns.{success}
use Rattle.wire.specs.Wire.{splice}
use Rattle.wire.specs.declared.done.Done.{Done}

pub record Written : Type 0 where
  pub code : ℕ
  pub bytes : List ℕ

abbrev pub written : List ℕ → Written
written bytes = record { code = success; bytes = bytes }

abbrev pub refused : ℕ → Written
refused code = record { code = code; bytes = [] }

-- what such a call ensures: the number, how many bytes were written, and every byte of the room: those written stand at its front, the others stay
pub record Writes (o : Written) (r : Done) (before after : List ℕ) : Type 0 where
  pub code : r.code ≡ o.code
  pub size : r.length ≡ length o.bytes
  pub bytes : after ≡ splice 0 o.bytes before
