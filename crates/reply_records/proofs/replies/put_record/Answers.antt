-- `reply_records::replies::put_record` meets its contract. Assumes nothing.
use mathlib.Core.Path.{◌≡◌, ap}
use native.Mathlib.Omega.{arith}
use Rattle.host_replies.specs.declared.counted.Kind.TheVariants.{EventRecords, SupportedLogs, PoisonList}
use Rattle.reply_records.specs.HostReplies.{record_room}
use Rattle.reply_records.proofs.ReadLaws.{by_kind}
use Rattle.reply_records.proofs.replies.put_record.Goals as goal

pub put_event-requires : goal.put_event-requires
unfolding record_room
put_event-requires c =
    let room : record_room c.args.kind ≡ 257 = ap record_room c.in-EventRecords.is in
    omega (arith, room, c.requires)

pub put_log-requires : goal.put_log-requires
unfolding record_room
put_log-requires c =
    let room : record_room c.args.kind ≡ 54 = ap record_room c.in-SupportedLogs.is in
    omega (arith, room, c.requires)

pub put_poison-requires : goal.put_poison-requires
unfolding record_room
put_poison-requires c =
    let room : record_room c.args.kind ≡ 63 = ap record_room c.in-PoisonList.is in
    omega (arith, room, c.requires)

pub returns-in-EventRecords : goal.returns-in-EventRecords
unfolding record_room
returns-in-EventRecords c =
    by_kind EventRecords c.args.records.now c.args.i c.in-EventRecords.is c.put_event.ensures

pub returns-in-SupportedLogs : goal.returns-in-SupportedLogs
unfolding record_room
returns-in-SupportedLogs c =
    by_kind SupportedLogs c.args.records.now c.args.i c.in-SupportedLogs.is c.put_log.ensures

pub returns-in-PoisonList : goal.returns-in-PoisonList
unfolding record_room
returns-in-PoisonList c =
    by_kind PoisonList c.args.records.now c.args.i c.in-PoisonList.is c.put_poison.ensures
