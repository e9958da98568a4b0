-- `reply_records::replies::put_log` meets its contract. Assumes nothing.
use mathlib.Core.Path.{◌≡◌, ap, ◌∙◌}
use native.Mathlib.Omega.{arith}
use borrow.Author.Rules.{rules}
use lib.ListN.{length, take}
use lib.Seq.{take_all}
use Rattle.protocol.proofs.Laws.{puts_as, length_hex}
use Rattle.reply_records.proofs.ReadLaws.{put_log}
use Rattle.reply_records.proofs.replies.put_log.Goals as goal

pub put_bytes-to-requires : goal.put_bytes-to-requires
put_bytes-to-requires c =
    let long : length c.supported_log-told.result.identifier ≡ 16 = search rules in
    (omega (arith, long), omega (arith, c.requires))

pub put_number-requires : goal.put_number-requires
put_number-requires c =
    let told = c.supported_log-told.result in
    let put = c.put_bytes-to in
    let long : length told.identifier ≡ 16 = search rules in
    let all : take 16 told.identifier ≡ told.identifier = take_all 16 told.identifier (omega (arith, long)) in
    let wide = length_hex (take 16 told.identifier) in
    let same : length (take 16 told.identifier) ≡ 16 = ap length all ∙ long in
    omega (arith, put.ensures.end, wide, same, put.auto.out, c.requires)

pub returns : goal.returns
returns c =
    let told = c.supported_log-told in
    put_log c.args.records.now c.args.i c.put_bytes-to.ensures (puts_as c.put_number.ensures (cc)) told.ensures (search rules) c.requires
