-- `reply_records::replies::identity` meets its contract. Assumes nothing.
use mathlib.Core.Path.{refl, ◌≡◌, ap, ◌∙◌}
use mathlib.Core.List.{List, [], ◌∷◌, ◌++◌}
use Prim.Native.Nat.{ℕ, ◌+◌, ◌≤◌}
use native.Mathlib.Omega.{arith}
use borrow.Author.Rules.{rules}
use lib.ListN.{length, take}
use lib.Seq.{take_all}
use Rattle.protocol.specs.Text.{hex, columns}
use Rattle.protocol.proofs.Laws.{puts_then, puts_as, length_columns, length_hex}
use Rattle.reply_records.specs.HostReplies.{identity_numbers, identity_line}
use Rattle.reply_records.proofs.ReadLaws.{read_put, line_given}
use Rattle.host_replies.specs.Replies.{read_identity}
use Rattle.reply_records.proofs.replies.identity.Goals as goal

pub put_bytes-to-requires : goal.put_bytes-to-requires
put_bytes-to-requires c =
    let put = c.put_columns-at in
    let long : length c.in-Ok.fields.version ≡ 16 = search rules in
    (omega (arith, long), omega (arith, put.ensures.end, length_columns (0 ∷ []), put.auto.out, c.requires.0))

pub put_sizes-end-requires : goal.put_sizes-end-requires
put_sizes-end-requires c =
    let put = c.put_columns-at in
    let bytes = c.put_bytes-to in
    let version = c.in-Ok.fields.version in
    let long : length version ≡ 16 = search rules in
    let whole : take 16 version ≡ version = take_all 16 version (omega (arith, long)) in
    let all : length (take 16 version) ≡ 16 = ap length whole ∙ long in
    let wide : bytes.result + 300 ≤ length bytes.new.out = omega (arith, bytes.ensures.end, length_hex (take 16 version), all, bytes.auto.out, put.ensures.end, length_columns (0 ∷ []), put.auto.out, c.requires.0) in
    omega (arith, wide)

pub end_line-requires : goal.end_line-requires
end_line-requires c =
    let put = c.put_columns-at in
    let bytes = c.put_bytes-to in
    let version = c.in-Ok.fields.version in
    let long : length version ≡ 16 = search rules in
    let whole : take 16 version ≡ version = take_all 16 version (omega (arith, long)) in
    let all : length (take 16 version) ≡ 16 = ap length whole ∙ long in
    let wide : bytes.result + 300 ≤ length bytes.new.out = omega (arith, bytes.ensures.end, length_hex (take 16 version), all, bytes.auto.out, put.ensures.end, length_columns (0 ∷ []), put.auto.out, c.requires.0) in
    let sizes = c.put_sizes-end in
    omega (arith, wide, sizes.ensures.1, sizes.auto.out)

pub returns-in-Ok : goal.returns-in-Ok
returns-in-Ok c =
    let put = c.put_columns-at in
    let bytes = c.put_bytes-to in
    let version = c.in-Ok.fields.version in
    let long : length version ≡ 16 = search rules in
    let whole : take 16 version ≡ version = take_all 16 version (omega (arith, long)) in
    let all : length (take 16 version) ≡ 16 = ap length whole ∙ long in
    let wide : bytes.result + 300 ≤ length bytes.new.out = omega (arith, bytes.ensures.end, length_hex (take 16 version), all, bytes.auto.out, put.ensures.end, length_columns (0 ∷ []), put.auto.out, c.requires.0) in
    let sizes = c.put_sizes-end in
    let x = c.in-Ok.fields in
    let same : length bytes.new.out ≡ length put.new.out = bytes.auto.out in
    let same' : length put.new.out ≡ length c.args.out.now = put.auto.out in
    line_given (λ x. x.code) (λ _. 0) identity_line (read_identity c.args.bytes.now) c.in-Ok.ensures refl (read_put (0 ∷ []) ((32 ∷ hex version) ++ columns (identity_numbers x)) put.ensures
    (puts_then (puts_as bytes.ensures (ap (λ (l : List ℕ). 32 ∷ hex l) whole)) sizes.ensures.0 (omega (arith, length_columns (identity_numbers x), wide, same)))
    c.end_line.ensures (omega (arith, wide, sizes.ensures.1, same, same')))
