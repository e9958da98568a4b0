-- The numbers of a line test's answer (document 01, "Poison list": "Damaged 1 with the type if covered; else, with type 0, Unknown 2 if the flag is set; else Clean 0"). Assumes nothing.
use mathlib.Core.Path.{◌≡◌, refl, sym, ap, subst, ◌∙◌}
use mathlib.Core.Bool.{true, false}
use Prim.Native.Nat.{ℕ}
use borrow.Author.Tests.{ne_eqb}
use Rattle.poison.specs.declared.line_test.LineTest.{LineTest}
use Rattle.poison.specs.LineTest.{line_test as list_test}
use Rattle.mailbox.specs.LineStatus.{status_number, status_type, status_of}
use Rattle.mailbox.specs.State.{DeviceState, lines_of}
use Rattle.list_commands.specs.PoisonCommands.{line_of, line_code}
use Rattle.mailbox.specs.DeviceCalls.{line_test, LineOutcome}
use Rattle.embed.specs.Left.{LineTold}

module _ (d : DeviceState) (address : ℕ) where
  -- a refused test
  pub refused : (code : ℕ) → code ≡ line_code (lines_of d) address → (code ≡ 0 → ⊥) → LineTold (line_test d address) (record { code = code; answer = 2; kind = 0 })
  unfolding line_test
  refused code e f =
      subst (λ (x : LineOutcome). LineTold x (record { code = code; answer = 2; kind = 0 })) (sym (simp (sym e, ne_eqb _ _ f))) (record { code = refl; answer = refl; kind = refl })

  -- media is disabled (document 02, W-207)
  pub disabled : (code : ℕ) → code ≡ line_code (lines_of d) address → code ≡ 0 → d.media.disabled ≡ true → LineTold (line_test d address) (record { code = code; answer = 3; kind = 0 })
  unfolding line_test
  disabled code e z off =
      subst (λ (x : LineOutcome). LineTold x (record { code = code; answer = 3; kind = 0 })) (sym (simp (sym e ∙ z, off))) (record { code = z; answer = refl; kind = refl })

  -- the list's answer, by its case
  pub told : (code : ℕ) → code ≡ line_code (lines_of d) address → code ≡ 0 → d.media.disabled ≡ false → (a t : LineTest) → a ≡ list_test d.poison (line_of address) → a ≡ t
      → LineTold (line_test d address) (record { code = code; answer = status_number (status_of t); kind = status_type (status_of t) })
  unfolding line_test
  told code e z on a t is case =
      subst (λ (x : LineOutcome). LineTold x (record { code = code; answer = status_number (status_of t); kind = status_type (status_of t) })) (sym (simp (sym e ∙ z, on)))
      (record { code = z; answer = ap (λ (x : LineTest). status_number (status_of x)) (sym case ∙ is); kind = ap (λ (x : LineTest). status_type (status_of x)) (sym case ∙ is) })
