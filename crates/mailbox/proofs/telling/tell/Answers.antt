-- `mailbox::telling::tell` meets its contract. Assumes nothing.
use Rattle.std.proofs.lemmas.Bool.Decides.{nat_tests}
use mathlib.Core.Path.{refl}
use Prim.Native.Nat.{◌≤◌}
use native.Mathlib.Omega.{arith}
use borrow.Author.Tests.{eqb-true}
use lib.ListN.{length}
use Rattle.commands.specs.Numbers.{mailbox_size}
use Rattle.commands.specs.Commands.{commands}
use Rattle.commands.proofs.Laws.{checked_fits_room, checked_takes, room_for}
use Rattle.settings.proofs.Laws.{no_bytes}
use Rattle.mailbox.specs.Telling.{telling}
use Rattle.mailbox.proofs.PartAnswers.{told}
use Rattle.mailbox.proofs.telling.tell.Goals as goal

pub get-requires : goal.get-requires
get-requires c =
    let room : mailbox_size ≤ length c.args.reply.now = checked_fits_room _ _ _ _ c.requires.0 in
    room_for (omega arith) room

pub get_timestamp-requires : goal.get_timestamp-requires
get_timestamp-requires c =
    let room : mailbox_size ≤ length c.args.reply.now = checked_fits_room _ _ _ _ c.requires.0 in
    room_for (omega arith) room

pub get_supported_logs-requires : goal.get_supported_logs-requires
get_supported_logs-requires c =
    let room : mailbox_size ≤ length c.args.reply.now = checked_fits_room _ _ _ _ c.requires.0 in
    room_for (omega arith) room

pub get_log-requires : goal.get_log-requires
unfolding commands
get_log-requires c =
    let room : mailbox_size ≤ length c.args.reply.now = checked_fits_room _ _ _ _ c.requires.0 in
    (room, eqb-true _ 24 (checked_takes _ _ _ _ c.requires.0 0x0401 c.in-1025.is))

pub identify-requires : goal.identify-requires
identify-requires c =
    let room : mailbox_size ≤ length c.args.reply.now = checked_fits_room _ _ _ _ c.requires.0 in
    room_for (omega arith) room

pub returns-in-258 : goal.returns-in-258
unfolding telling
returns-in-258 c =
    told 0x0102 c.in-258.is (λ ls l m. refl) c.get.ensures

pub returns-in-768 : goal.returns-in-768
unfolding telling
returns-in-768 c =
    told 0x0300 c.in-768.is (λ ls l m. refl) c.get_timestamp.ensures

pub returns-in-1024 : goal.returns-in-1024
unfolding telling
returns-in-1024 c =
    told 0x0400 c.in-1024.is (λ ls l m. refl) c.get_supported_logs.ensures

pub returns-in-1025 : goal.returns-in-1025
unfolding telling
returns-in-1025 c =
    told 0x0401 c.in-1025.is (λ ls l m. refl) c.get_log.ensures

pub returns-in-16384 : goal.returns-in-16384
unfolding telling
returns-in-16384 c =
    told 0x4000 c.in-16384.is (λ ls l m. refl) c.identify.ensures

pub returns-in_default : goal.returns-in_default
unfolding telling
returns-in_default c =
    told _ refl
    (λ ls l m.
    let few = c.requires.1 in
    let many = c.requires.2 in
    grind (arith, nat_tests))
    (no_bytes refl)
