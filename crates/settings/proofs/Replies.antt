-- What a command that reads ensures of its answer (`Replied`), from what it answered: a refusal that writes nothing, or a reply written from the start of
-- the buffer; and the step by which a reply of several fields is put together. Assumes nothing.
use mathlib.Core.Path.{◌≡◌, refl, sym, ap, ◌∙◌, subst}
use mathlib.Core.List.{List, ◌++◌, append_assoc}
use Prim.Native.Nat.{ℕ, ◌+◌, ◌≤◌}
use native.Mathlib.Omega.{arith}
use native.Mathlib.Nat.{zero-add}
use lib.ListN.{length, take, drop, length-take, length-append}
use lib.Seq.{drop_at}
use Rattle.wire.specs.Wire.{splice}
use Rattle.wire.proofs.Laws.{joined}
use Rattle.wire.specs.declared.done.Done.{Done}
use Rattle.settings.specs.Reply.{Reply, replied, no_reply}
use Rattle.settings.specs.Relations.{Replied}

-- an answer to an equal reply
alike : {o o' : Reply} {r : Done} {before after : List ℕ} → o ≡ o' → Replied o' r before after → Replied o r before after
alike {o} {o'} {r} {before} {after} e a = subst (λ (x : Reply). Replied x r before after) (sym e) a

-- a refusal: length 0, and the buffer as it was
pub no_bytes : {o : Reply} {n : ℕ} {before : List ℕ} → o ≡ no_reply n → Replied o (record { code = n; length = 0 }) before before
unfolding splice
no_bytes e = alike e (record { code = refl; size = refl; bytes = refl })

-- a reply of n bytes
pub bytes_written : {o : Reply} {bs : List ℕ} {n : ℕ} {before after : List ℕ} → o ≡ replied bs → n ≡ length bs → after ≡ splice 0 bs before
    → Replied o (record { code = 0; length = n }) before after
bytes_written e s b = alike e (record { code = refl; size = s; bytes = b })

-- one field more after the fields a of a reply
pub field_more : (j : ℕ) (a b xs ys : List ℕ) → j ≡ length a → j + length b ≤ length xs → ys ≡ splice 0 a xs → splice j b ys ≡ splice 0 (a ++ b) xs
field_more j a b xs ys e h s = ap (splice j b) s ∙ joined 0 j a b xs (e ∙ sym (zero-add (length a))) h

-- the fields a of a reply written after the bytes b that follow them
pub field_before : (j : ℕ) (a b xs : List ℕ) → j ≡ length a → j + length b ≤ length xs → splice 0 a (splice j b xs) ≡ splice 0 (a ++ b) xs
unfolding splice
field_before j a b xs e h =
    let long : length (take j xs) ≡ j = simp length-take (omega arith) in
    let past : drop (0 + length a) (take j xs ++ b ++ drop (j + length b) xs) ≡ b ++ drop (j + length b) xs
    = ap (λ (i : ℕ). drop i (take j xs ++ b ++ drop (j + length b) xs)) (zero-add (length a) ∙ sym e) ∙ rw append_assoc (drop_at (take j xs) (b ++ drop (j + length b) xs) j long) in
    let ends : j + length b ≡ 0 + length (a ++ b) = simp length-append (omega arith) in
    ap (λ (l : List ℕ). a ++ l) (past ∙ ap (λ (i : ℕ). b ++ drop i xs) ends) ∙ sym (append_assoc a b (drop (0 + length (a ++ b)) xs))
