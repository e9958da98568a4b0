-- `reply_records::rewrites::call_again` meets its contract. Assumes nothing.
use mathlib.Core.Path.{◌≡◌, ap, ◌∙◌}
use Prim.Native.Nat.{ℕ}
use native.Mathlib.Omega.{arith}
use lib.ListN.{length, get_or}
use lib.ListN.{replicate}
use Rattle.wire.specs.Wire.{field}
use Rattle.protocol.proofs.Laws.{rest_of}
use Rattle.reply_records.proofs.ReplyLaws.{again_at}
use Rattle.reply_records.proofs.rewrites.call_again.Goals as goal

pub returns : goal.returns
returns c =
    let bytes = c.args.bytes.now in
    let filled = c.fill in
    let room : length filled.new.buffer ≡ field bytes 8 2 = omega (arith, filled.auto.buffer, c.requires.1) in
    again_at bytes c.rewrite.ensures c.get-opcode.ensures.value c.get-asked.ensures.value (rest_of 13 bytes) room (filled.ensures ∙ ap (λ (k : ℕ). replicate k (get_or bytes 10 0)) c.requires.1)
