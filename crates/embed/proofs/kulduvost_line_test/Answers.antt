-- `kulduvost_line_test` meets its contract: the checks of the address, then the numbers of each case of the list's answer (LineLaws). Assumes nothing.
use mathlib.Core.Path.{sym, ◌∙◌}
use native.Mathlib.Omega.{arith}
use borrow.Author.Rules.{rules}
use Rattle.poison.specs.declared.line_test.LineTest.TheVariants.{Clean, Damaged, Unknown}
use Rattle.mailbox.specs.State.{state_of}
use Rattle.mailbox.proofs.Laws.{line_inside}
use Rattle.embed.proofs.LineLaws.{refused, disabled, told}
use Rattle.embed.proofs.Parts.{test_asks}
use Rattle.embed.proofs.kulduvost_line_test.Goals as goal

pub returns-then-code-ne-SUCCESS : goal.returns-then-code-ne-SUCCESS
returns-then-code-ne-SUCCESS c =
    refused (state_of c.args.device.now) _ _ c.check_address-code.ensures c.if-code-ne-SUCCESS.true

pub returns-then-device : goal.returns-then-device
returns-then-device c =
    disabled (state_of c.args.device.now) _ _ c.check_address-code.ensures (omega arith) c.if-device.true

pub overflow_cast-address : goal.overflow_cast-address
overflow_cast-address c =
    let h = line_inside _ _ (sym c.check_address-code.ensures ∙ (omega arith)) in
    let k = c.requires.few_units in
    record { fits = omega (arith, h, k) }

pub test-requires : goal.test-requires
test-requires c =
    test_asks c.args.device.now c.requires

pub returns-in-Clean : goal.returns-in-Clean
returns-in-Clean c =
    told (state_of c.args.device.now) _ _ c.check_address-code.ensures (omega arith) c.if-device.false _ Clean c.test.ensures (search rules)

pub returns-in-Damaged : goal.returns-in-Damaged
returns-in-Damaged c =
    told (state_of c.args.device.now) _ _ c.check_address-code.ensures (omega arith) c.if-device.false _ (Damaged _) c.test.ensures (search rules)

pub returns-in-Unknown : goal.returns-in-Unknown
returns-in-Unknown c =
    told (state_of c.args.device.now) _ _ c.check_address-code.ensures (omega arith) c.if-device.false _ Unknown c.test.ensures (search rules)
