-- The rows of the table of commands: what holds of the opcode of each row holds of every opcode that the rows know; what both mailboxes have (document 02, W-208) the device has, media disabled allows it, and the
-- checks before a command's own are the same in both. Assumes nothing.
use mathlib.Core.Path.{◌≡◌, refl, sym, subst}
use mathlib.Core.Bool.{Bool, true, false, ◌||◌, false≢true}
use mathlib.Core.List.{List, [], ◌∷◌}
use Prim.Native.Nat.{ℕ}
use lib.Dec.{eqb}
use borrow.Author.Tests.{eqb-true}
use Rattle.commands.specs.declared.mailboxes.Mailbox.TheVariants.{First, Pool}
use Rattle.commands.specs.Commands.{Command, commands, rows_of, known, checked, while_disabled}

-- what holds of the opcode of each of some rows
abbrev pub Each : (ℕ → Type 0) → List Command → Type 0
Each P [] = Unit {0}
Each P (k ∷ ks) = P k.opcode × Each P ks

pub known_one : (P : ℕ → Type 0) (ks : List Command) → Each P ks → (op : ℕ) → known ks op ≡ true → P op
known_one P [] h op e = absurd (false≢true e)
known_one P (k ∷ ks) h op e = go (eqb op k.opcode) refl (known_one P ks h.1 op) e
  where
    go : (t : Bool) → eqb op k.opcode ≡ t → (known ks op ≡ true → P op) → (t || known ks op) ≡ true → P op
    go true q later e = subst P (sym (eqb-true op k.opcode q)) h.0
    go false q later e = later e

module _ (op : ℕ) (has : known (rows_of Pool) op ≡ true) where
  -- what the pool manager's mailbox has, the device has
  pub pool_known : known commands op ≡ true
  unfolding commands rows_of
  pool_known = known_one (λ (o : ℕ). known commands o ≡ true) (rows_of Pool) (refl, (refl, (refl, (refl, (refl, (refl, (refl, tt))))))) op has

  -- media disabled allows it
  pub pool_allowed : while_disabled op ≡ 0
  unfolding commands rows_of while_disabled
  pool_allowed = known_one (λ (o : ℕ). while_disabled o ≡ 0) (rows_of Pool) (refl, (refl, (refl, (refl, (refl, (refl, (refl, tt))))))) op has

  -- and the checks before its own are those of the first mailbox
  pub pool_checked : (n room : ℕ) → checked Pool op n room ≡ checked First op n room
  unfolding checked commands rows_of
  pool_checked n room = rw (has, pool_known)
