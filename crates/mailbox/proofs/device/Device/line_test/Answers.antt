-- `mailbox::device::Device::line_test` meets its contract. Assumes nothing.
use mathlib.Core.Path.{◌≡◌, refl, sym, ◌∙◌}
use mathlib.Core.Bool.{false}
use native.Mathlib.Omega.{arith}
use Rattle.poison.proofs.Laws.{valid_shapes}
use Rattle.mailbox.specs.State.{state_of, lines_of}
use Rattle.list_commands.specs.PoisonCommands.{line_code}
use Rattle.list_commands.proofs.Laws.{line_inside}
use Rattle.list_commands.proofs.Laws.{device_lines, device_any}
use Rattle.mailbox.proofs.DeviceAnswers.{line_refused, line_disabled, line_tested}
use Rattle.mailbox.proofs.device.Device.line_test.Goals as goal

pub check_address-code-requires : goal.check_address-code-requires
check_address-code-requires c =
    c.requires.few_units

pub returns-then-code-ne-SUCCESS : goal.returns-then-code-ne-SUCCESS
returns-then-code-ne-SUCCESS c =
    line_refused c.args.self _ _ c.check_address-code.ensures c.if-code-ne-SUCCESS.true

pub returns-then-self : goal.returns-then-self
returns-then-self c =
    let zero : line_code (lines_of (state_of c.args.self)) c.args.address ≡ 0 = sym c.check_address-code.ensures ∙ c.if-code-ne-SUCCESS.false in
    line_disabled c.args.self _ zero c.if-self.true

pub overflow_cast-address : goal.overflow_cast-address
overflow_cast-address c =
    let zero : line_code (lines_of (state_of c.args.self)) c.args.address ≡ 0 = sym c.check_address-code.ensures ∙ c.if-code-ne-SUCCESS.false in
    let h = line_inside _ _ zero in
    let k = device_lines c.requires.few_units refl in
    record { fits = omega (arith, h, k) }

pub test-answer-requires : goal.test-answer-requires
test-answer-requires c =
    valid_shapes (device_any c.requires.few_units refl c.requires.poison)

pub returns : goal.returns
returns c =
    let zero : line_code (lines_of (state_of c.args.self)) c.args.address ≡ 0 = sym c.check_address-code.ensures ∙ c.if-code-ne-SUCCESS.false in
    let on : c.args.self.media.disabled ≡ false = c.if-self.false in
    line_tested c.args.self _ zero _ on c.test-answer.ensures c.from.ensures
