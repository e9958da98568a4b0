-- `mailbox::device::Device::answer` meets its contract: the command over the part that it sees. Assumes nothing.
use mathlib.Core.Path.{◌≡◌, refl, sym, ◌∙◌}
use borrow.Author.Rules.{rules}
use lib.ListN.{length}
use Rattle.settings.proofs.Laws.{numbered_none}
use Rattle.mailbox.proofs.AreaAnswers.{leaves_area}
use Rattle.mailbox.proofs.PartAnswers.{command_vector, list_parts_answered, inject_parts_answered, log_parts_answered, settings_parts_answered}
use Rattle.mailbox.proofs.device.Device.answer.Goals as goal

pub settings_command-requires : goal.settings_command-requires
settings_command-requires c =
    let v = c.requires in
    let rest = leaves_area c.args.opcode c.args.payload.now c.args.area.now c.of_area.ensures c.if-of_area.false in
    (v.some_unit, v.few_units, rest.undecided, sym c.of_list.ensures ∙ c.if-of_list.false, sym c.of_injection.ensures ∙ c.if-of_injection.false, sym c.of_log.ensures ∙ c.if-of_log.false)

pub returns-then-of_area : goal.returns-then-of_area
returns-then-of_area c =
    (command_vector (sym numbered_none) (c.area_command-done.ensures.answered c.args.self.now c.args.time c.requires refl), c.area_command-done.ensures.area)

pub returns-then-of_list : goal.returns-then-of_list
returns-then-of_list c =
    let rest = leaves_area c.args.opcode c.args.payload.now c.args.area.now c.of_area.ensures c.if-of_area.false in
    (command_vector (sym numbered_none) (list_parts_answered _ c.requires _ rest.sized c.list_command.ensures), rest.kept _)

pub returns-then-of_injection : goal.returns-then-of_injection
returns-then-of_injection c =
    let five : length c.args.self.now.logs ≡ 5 = search rules in
    let rest = leaves_area c.args.opcode c.args.payload.now c.args.area.now c.of_area.ensures c.if-of_area.false in
    let answered = inject_parts_answered _ c.requires _ _ rest.sized five (sym c.of_injection.ensures ∙ c.if-of_injection.true) c.inject_command-told.ensures in
    (answered, rest.kept _)

pub returns-then-of_log : goal.returns-then-of_log
returns-then-of_log c =
    let five : length c.args.self.now.logs ≡ 5 = search rules in
    let rest = leaves_area c.args.opcode c.args.payload.now c.args.area.now c.of_area.ensures c.if-of_area.false in
    (command_vector (sym numbered_none) (log_parts_answered _ c.requires five _ _ rest.sized _ c.log_named-k.ensures.0 c.log_command.ensures), rest.kept _)

pub returns-else-of_log : goal.returns-else-of_log
returns-else-of_log c =
    let rest = leaves_area c.args.opcode c.args.payload.now c.args.area.now c.of_area.ensures c.if-of_area.false in
    (command_vector (sym numbered_none) (settings_parts_answered _ c.requires _ rest.sized c.settings_command.ensures), rest.kept _)
