-- What the poison commands that see the list alone ensure at a device (`Answered`), from what they ensure of the list. Assumes nothing.
use mathlib.Core.Path.{◌≡◌, ap, ◌∙◌, subst}
use mathlib.Core.List.{List}
use Prim.Native.Nat.{ℕ, ◌+◌, ◌*◌}
use Rattle.poison.specs.State.{ValidList, state_of}
use Rattle.poison.specs.declared.list.PoisonList.{PoisonList}
use Rattle.wire.specs.declared.done.Done.{Done}
use Rattle.mailbox.specs.declared.device.Device.{Device}
use Rattle.std.specs.Prelude.{None}
use Rattle.commands.specs.Numbers.{unit_lines}
use Rattle.mailbox.specs.State as D
use Rattle.mailbox.specs.State.{ValidDevice}
use Rattle.mailbox.specs.Outcome.{reads}
use Rattle.mailbox.specs.Mailbox.{changes_list}
use Rattle.list_commands.specs.PoisonCommands.{ListChange, get_poison_list}
use Rattle.settings.specs.Relations.{Replied}
use Rattle.list_commands.specs.Relations.{ListDone}
use Rattle.mailbox.specs.Relations.{Answered}
use Rattle.mailbox.proofs.Answers.{read_answer, change_answer, same_list, valid_device}

module _ (d : Device) (lines : ℕ) (v : ValidDevice d) (e : lines ≡ unit_lines * (d.volatile + d.persistent)) where
  pub list_read : (p : List ℕ) {r : Done} {before after : List ℕ} → Replied (get_poison_list lines (state_of d.poison) p) r before after
      → Answered (reads (D.state_of d) (get_poison_list (D.lines_of (D.state_of d)) (state_of d.poison) p)) d (record { code = r.code; length = r.length; vector = None; device = d }) before after
  list_read p {r} {before} {after} a =
      let b : Replied (get_poison_list (D.lines_of (D.state_of d)) (state_of d.poison) p) r before after
      = subst (λ (n : ℕ). Replied (get_poison_list n (state_of d.poison) p) r before after) e a in
      read_answer v b.code b.size b.bytes

  pub list_change : {o o' : ListChange} {code : ℕ} {r : PoisonList} {before : List ℕ} → o ≡ o' → ListDone o lines d.poison code r
      → Answered (changes_list (D.state_of d) o') d
      (record {
        code = code;
        length = 0;
        vector = None;
        device = record { volatile = d.volatile; persistent = d.persistent; clock = d.clock; policy = d.policy; logs = d.logs; poison = r; media = d.media };
      })
      before before
  list_change {o} {o'} {code} {r} s a =
      change_answer (valid_device d _ _ _ _ v v.logs (subst (λ (n : ℕ). ValidList n r) e a.valid))
      (a.code ∙ ap (λ (x : ListChange). x.code) s)
      (ap (D.with_poison (D.state_of d)) (a.list ∙ ap (λ (x : ListChange). x.list) s))
      (λ f. same_list d (a.refused f))
