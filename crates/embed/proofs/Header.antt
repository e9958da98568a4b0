-- The layout of what crosses the boundary, as the machine of the logic has it: a C header says the same numbers. Assumes nothing.
use mathlib.Core.Path.{◌≡◌, refl}
use mathlib.Core.Option.{some}
use mir.Syntax.{ty_int, ty_bool, ty_array, w8, w16, w32, w64}
use prog.Memory.{size, align, field_of}
use Rattle.poison.proofs.list.PoisonList.TheLaws as PoisonList
use Rattle.events.proofs.log.Record.TheLaws as Record
use Rattle.events.proofs.log.Log.TheLaws as Log
use Rattle.events.proofs.status.Status.TheLaws as Status
use Rattle.settings.proofs.clock.Clock.TheLaws as Clock
use Rattle.settings.proofs.media.MediaState.TheLaws as MediaState
use Rattle.mailbox.proofs.device.Device.TheLaws as Device
use Rattle.embed.specs.Left.{device_size}
use Rattle.embed.proofs.Done.TheLaws as Done
use Rattle.embed.proofs.PoolDone.TheLaws as PoolDone
use Rattle.embed.proofs.Event.TheLaws as Event
use Rattle.embed.proofs.Media.TheLaws as Media
use Rattle.embed.proofs.Line.TheLaws as Line

-- ---- the device
pub device_size_is : size Device.mir ≡ device_size
device_size_is = refl

pub device_align : align Device.mir ≡ 8
device_align = refl

pub device_volatile_at : field_of Device.mir 0 ≡ some (ty_int w16, 0)
device_volatile_at = refl

pub device_persistent_at : field_of Device.mir 1 ≡ some (ty_int w16, 2)
device_persistent_at = refl

pub device_clock_at : field_of Device.mir 2 ≡ some (Clock.mir, 8)
device_clock_at = refl

pub device_policy_at : field_of Device.mir 3 ≡ some (ty_array (ty_int w8) 5, 32)
device_policy_at = refl

pub device_logs_at : field_of Device.mir 4 ≡ some (ty_array Log.mir 5, 40)
device_logs_at = refl

pub device_poison_at : field_of Device.mir 5 ≡ some (PoisonList.mir, 5320)
device_poison_at = refl

pub device_media_at : field_of Device.mir 6 ≡ some (MediaState.mir, 7648)
device_media_at = refl

-- ---- its parts
pub clock_size : size Clock.mir ≡ 24
clock_size = refl

pub clock_align : align Clock.mir ≡ 8
clock_align = refl

pub clock_set_at : field_of Clock.mir 0 ≡ some (ty_bool, 0)
clock_set_at = refl

pub clock_value_at : field_of Clock.mir 1 ≡ some (ty_int w64, 8)
clock_value_at = refl

pub clock_since_at : field_of Clock.mir 2 ≡ some (ty_int w64, 16)
clock_since_at = refl

pub media_state_size : size MediaState.mir ≡ 24
media_state_size = refl

pub media_state_align : align MediaState.mir ≡ 8
media_state_align = refl

pub media_state_disabled_at : field_of MediaState.mir 0 ≡ some (ty_bool, 0)
media_state_disabled_at = refl

pub media_state_since_at : field_of MediaState.mir 1 ≡ some (ty_int w64, 8)
media_state_since_at = refl

pub media_state_lasts_at : field_of MediaState.mir 2 ≡ some (ty_int w64, 16)
media_state_lasts_at = refl

pub log_size : size Log.mir ≡ 1056
log_size = refl

pub log_align : align Log.mir ≡ 8
log_align = refl

pub log_records_at : field_of Log.mir 0 ≡ some (ty_array Record.mir 8, 0)
log_records_at = refl

pub log_count_at : field_of Log.mir 1 ≡ some (ty_int w64, 1024)
log_count_at = refl

pub log_next_at : field_of Log.mir 2 ≡ some (ty_int w16, 1032)
log_next_at = refl

pub log_overflow_count_at : field_of Log.mir 3 ≡ some (ty_int w16, 1034)
log_overflow_count_at = refl

pub log_first_overflow_at : field_of Log.mir 4 ≡ some (ty_int w64, 1040)
log_first_overflow_at = refl

pub log_last_overflow_at : field_of Log.mir 5 ≡ some (ty_int w64, 1048)
log_last_overflow_at = refl

pub record_size : size Record.mir ≡ 128
record_size = refl

pub record_align : align Record.mir ≡ 1
record_align = refl

pub record_bytes_at : field_of Record.mir 0 ≡ some (ty_array (ty_int w8) 128, 0)
record_bytes_at = refl

pub list_size : size PoisonList.mir ≡ 2328
list_size = refl

pub list_align : align PoisonList.mir ≡ 8
list_align = refl

pub list_starts_at : field_of PoisonList.mir 0 ≡ some (ty_array (ty_int w32) 256, 0)
list_starts_at = refl

pub list_lengths_at : field_of PoisonList.mir 1 ≡ some (ty_array (ty_int w32) 256, 1024)
list_lengths_at = refl

pub list_kinds_at : field_of PoisonList.mir 2 ≡ some (ty_array (ty_int w8) 256, 2048)
list_kinds_at = refl

pub list_count_at : field_of PoisonList.mir 3 ≡ some (ty_int w64, 2304)
list_count_at = refl

pub list_overflow_at : field_of PoisonList.mir 4 ≡ some (ty_bool, 2312)
list_overflow_at = refl

pub list_overflow_time_at : field_of PoisonList.mir 5 ≡ some (ty_int w64, 2320)
list_overflow_time_at = refl

-- ---- the answers
pub done_size : size Done.mir ≡ 16
done_size = refl

pub done_align : align Done.mir ≡ 8
done_align = refl

pub done_code_at : field_of Done.mir 0 ≡ some (ty_int w16, 0)
done_code_at = refl

pub done_vector_at : field_of Done.mir 1 ≡ some (ty_int w8, 2)
done_vector_at = refl

pub done_length_at : field_of Done.mir 2 ≡ some (ty_int w64, 8)
done_length_at = refl

pub pool_done_size : size PoolDone.mir ≡ 16
pool_done_size = refl

pub pool_done_align : align PoolDone.mir ≡ 8
pool_done_align = refl

pub pool_done_code_at : field_of PoolDone.mir 0 ≡ some (ty_int w16, 0)
pool_done_code_at = refl

pub pool_done_length_at : field_of PoolDone.mir 1 ≡ some (ty_int w64, 8)
pool_done_length_at = refl

pub event_size : size Event.mir ≡ 4
event_size = refl

pub event_align : align Event.mir ≡ 2
event_align = refl

pub event_code_at : field_of Event.mir 0 ≡ some (ty_int w16, 0)
event_code_at = refl

pub event_stored_at : field_of Event.mir 1 ≡ some (ty_bool, 2)
event_stored_at = refl

pub event_vector_at : field_of Event.mir 2 ≡ some (ty_int w8, 3)
event_vector_at = refl

pub media_size : size Media.mir ≡ 12
media_size = refl

pub media_align : align Media.mir ≡ 4
media_align = refl

pub media_code_at : field_of Media.mir 0 ≡ some (ty_int w16, 0)
media_code_at = refl

pub media_stored_at : field_of Media.mir 1 ≡ some (ty_int w32, 4)
media_stored_at = refl

pub media_dropped_at : field_of Media.mir 2 ≡ some (ty_int w32, 8)
media_dropped_at = refl

pub line_size : size Line.mir ≡ 4
line_size = refl

pub line_align : align Line.mir ≡ 2
line_align = refl

pub line_code_at : field_of Line.mir 0 ≡ some (ty_int w16, 0)
line_code_at = refl

pub line_answer_at : field_of Line.mir 1 ≡ some (ty_int w8, 2)
line_answer_at = refl

pub line_kind_at : field_of Line.mir 2 ≡ some (ty_int w8, 3)
line_kind_at = refl

pub status_size : size Status.mir ≡ 12
status_size = refl

pub status_align : align Status.mir ≡ 4
status_align = refl

pub status_bits_at : field_of Status.mir 0 ≡ some (ty_int w32, 0)
status_bits_at = refl

pub status_waiting_at : field_of Status.mir 1 ≡ some (ty_int w32, 4)
status_waiting_at = refl

pub status_highest_at : field_of Status.mir 2 ≡ some (ty_int w32, 8)
status_highest_at = refl
