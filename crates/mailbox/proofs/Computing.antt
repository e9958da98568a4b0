-- One name for the definitions of document 01's rules: where a proof says `unfolding rules`, calls on a device that is written out compute to their answers. It
-- states nothing. Assumes nothing.
use Rattle.wire.specs.Wire.{le, number, part, field, splice, same}
use Rattle.poison.specs.Runs.{in_run, uncovered, keeps}
use Rattle.poison.specs.Report.{with_drop, report_entries, reportable, lines_stored, lines_dropped}
use Rattle.poison.specs.Range.{kept, sharing, record_bytes, records_bytes}
use Rattle.events.specs.Log.{handle_of, bit}
use Rattle.events.specs.Report as Event
use Rattle.events.specs.Clear as Clear
use Rattle.events.specs.Get as Get
use Rattle.events.specs.Drain as Drain
use Rattle.events.specs.Status as Status
use Rattle.labels.specs.Labels.{get_labels, set_code, set_labels}
use Rattle.commands.specs.Commands.{commands, rows_of, checked, admission, while_disabled, first_code}
use Rattle.settings.specs.Clock.{device_time, get_timestamp, set_timestamp}
use Rattle.settings.specs.Media.{rows, duration, sanitize, due}
use Rattle.settings.specs.Policy.{setting, get_policy, known_modes, set_policy, set_interrupt_policy}
use Rattle.commands.specs.EffectsLog.{effects_log, effects_log_id, get_supported_logs, part_of_log}
use Rattle.commands.specs.Identity.{version, limits, identify}
use Rattle.mailbox.specs.EventCommands.{get_event_records, clear_event_records}
use Rattle.list_commands.specs.PoisonCommands.{line_code, range_code, inject_poison, inject_adds, injection_record, clear_poison, list_flags, list_header, list_reply, get_poison_list}
use Rattle.mailbox.specs.Telling.{telling}
use Rattle.mailbox.specs.Pool.{pool_answer}
use Rattle.mailbox.specs.Mailbox.{run_command, inject, answer, area_after}
use Rattle.settings.specs.Vector as Vector
use Rattle.mailbox.specs.DeviceCalls as Device

-- to unfold this is to unfold every definition of the line below
unfoldable pub rules : Unit {0}
unfolding answer pool_answer area_after run_command telling rows duration sanitize due while_disabled first_code get_labels set_code set_labels commands rows_of checked admission le number part field splice same in_run uncovered keeps with_drop report_entries reportable lines_stored lines_dropped kept sharing record_bytes records_bytes handle_of bit Event.event_report Event.report_code Event.has_room Event.from_empty Event.stamped Event.handle_after Event.reported Clear.clear_event_records Clear.clear_code Clear.mismatch Clear.clear_log_code Clear.without Clear.clear_size Clear.clear_log Clear.handles_at Clear.handle_bytes Clear.clear_payload Clear.all_flag Clear.other_flags Clear.reserved_zero Get.get_code Get.more Get.flags Get.joined Get.replied Get.header Get.reply_bytes Get.get_event_records Drain.more_bit Drain.record_count Drain.record_handles Drain.handles_read Drain.clear_read Status.status_bits Status.waiting Status.highest_from device_time get_timestamp set_timestamp setting get_policy known_modes set_policy set_interrupt_policy effects_log effects_log_id get_supported_logs part_of_log version limits identify get_event_records clear_event_records line_code range_code inject_poison inject_adds injection_record inject clear_poison list_flags list_header list_reply get_poison_list Vector.vector_number Vector.numbered Vector.vector_of Vector.enabled Vector.raised Device.make Device.event_answer Device.media_answer Device.media_code Device.line_test
rules = tt
