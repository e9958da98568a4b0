-- The laws of the device, each with its sentence in words; their statements and proofs are in other files, and are passed on from here. This is the one file
-- of proofs/ that a crate above may cite (`tests/layers`): these laws, the definitions of specs/ and the functions' contracts are the layer's stated behaviour.
-- The other files of proofs/ may change at any time. Assumes nothing.

-- Demand 1 of the definitions (a refusal is a number other than 0000h and 0001h): a refused command has an empty reply and leaves the state that the end of a due Sanitize leaves (`ended`); a refused event
-- report is not stored, a refused media report stores and drops 0 lines, and both leave that state; a refused line test answers Unknown with type 0; a refused make is 0002h beside the new device of one volatile unit.
pub use Rattle.mailbox.proofs.Demand1.{refusal, event_refusal, media_refusal, line_refusal, make_refusal}
-- Demand 1 of the code: a refused command has length 0, leaves the device that the end of a due Sanitize leaves, the very same value where none is due (`Ends`), and alters no byte of the reply buffer; the
-- device-side calls likewise.
-- A number equal to a refused one is refused.
pub use Rattle.mailbox.proofs.Demand1.{refused_too}
pub use Rattle.mailbox.proofs.Demand1.{refusal_unaltered, event_unaltered, media_unaltered, line_unknown, make_one_unit}
-- W-207, the end of a Sanitize: where nothing is due the device is as it was; where it is, five logs are emptied, each by itself, and media is enabled; so of a device of the code. The answer on the device that a call
-- finds is the call's.
pub use Rattle.mailbox.proofs.Endings.{ended_none, ended_due, end_empties, ends_none, ends_due, after_command, after_event, after_media}
-- A command that is answered 0000h, or that the checks before its own let through, is the command of its opcode; Clear Event Records with a payload of 6 to 2,048
-- bytes and room for every reply is let through.
pub use Rattle.mailbox.proofs.Accepted.{admitted_runs, allowed_runs, accepted_runs, clear_events_admitted}
-- What a command moves of a device (`Moved`): nothing, or the part of the one command that moves it, by its definition; of a command past the checks before its own, and of any. A law on what commands leave goes by
-- these cases.
pub use Rattle.mailbox.proofs.Moving.{Moved, nothing, one_log, settings, the_clock, list_and_log, the_list, the_media, run_moves, answer_moves}
-- An address that the checks of a line do not refuse is that of a line of the device; a range that they do not refuse ends on the device.
pub use Rattle.list_commands.proofs.Laws.{line_inside, range_ends}
-- A media report that its checks do not refuse is of a type of three bits and of lines of the device.
pub use Rattle.mailbox.proofs.DeviceAnswers.{media_zero}
-- The answer of a function over parts, at the parts of a valid device, is that device's answer, with the part that follows in its place. For the two of one log: where the log was taken
-- from, and is put back to, the place that the payload, or the log's number, names; for Inject Poison, log 0.
pub use Rattle.mailbox.proofs.PartAnswers.{list_parts_answered, inject_parts_answered, log_parts_answered, settings_parts_answered, event_parts_done, media_parts_done}
-- Where the label area decides nothing about a command, it has 4,096 bytes and the opcode is neither Get LSA nor Set LSA (also of an area of just that size); a command other than Set LSA leaves the
-- area, and so does a refusal.
pub use Rattle.mailbox.proofs.AreaAnswers.{not_area, not_area_sized, other_leaves, refusal_leaves}
-- An answer with an equal vector. None is the case of number 0; the case of a number has that number, and is none where the number is 0.
pub use Rattle.mailbox.proofs.PartAnswers.{command_vector}
pub use Rattle.settings.proofs.Laws.{numbered_none, carries_numbered}
-- W-204, of the list: an Inject Poison answers the number and leaves the list that it would without its event report; of the rest of the device only the logs move,
-- where it adds an entry, by a report of its record to log 0 (`Injected`). One that adds an entry is answered Success, and the entry is there, whatever the logs hold (`Stands`).
pub use Rattle.mailbox.proofs.Raising.{Injected, logs_told, injection_list, Stands, injection_stands}
-- W-204, who carries a vector: an event report only where its record was stored by an enabled log that went from empty to one record (`Raises`); a command only where it
-- is an Inject Poison that adds an entry, and log 0 so took its record (`CommandRaises`), so that every other command carries none; an Inject Poison that is answered
-- Success and adds no entry carries none and leaves the device's state as it was.
pub use Rattle.mailbox.proofs.Raising.{Raises, report_raises, CommandRaises, command_raises, only_inject_raises, covered_raises_none}
-- W-204, when it is carried: an event of 128 bytes to an enabled log that holds no record carries the log's vector, and an Inject Poison that adds an entry carries 2 where log 0
-- is such a log; so after a Clear that empties the log the next record carries the vector again.
pub use Rattle.mailbox.proofs.Raising.{still_empty, empty_raises, injection_raises, emptied_raises, emptied_injection_raises}
-- W-204, the settings: of logs 0 to 3 the setting that Set Event Interrupt Policy makes has the vector that is raised; a log is enabled after it exactly where the low two
-- bits of its byte are 1, log 4 where the payload has its byte.
pub use Rattle.mailbox.proofs.Raising.{settings_vector, enabled_set, enabled_last}
-- W-205, Clear Event Records: one not as long as its count says is 0016h; one that is, with a flag bit 1 to 7 set or a reserved byte not zero, is 0002h and leaves the device, whatever the device
-- holds; one that is answered 0000h has neither.
pub use Rattle.mailbox.proofs.Reserved.{length_clear_refused, reserved_clear_refused, flag_refused, byte_refused, accepted_clear_reserved}
-- W-205, Set Event Interrupt Policy: one with a mode of 2 or 3 in any byte given is 0002h and leaves the device, and one with modes 0 and 1 alone makes the settings.
pub use Rattle.mailbox.proofs.Reserved.{mode_refused, modes_accepted}
-- The modes of all bytes are known exactly where that of each is. After a Set Event Interrupt Policy, refused or not, five settings are five.
pub use Rattle.settings.proofs.Laws.{mode_known, modes_known, five_settings}
-- W-206, the area: a command that is lent one that has not 4,096 bytes is 0100h and leaves the device, whatever the command, the payload and the reply buffer; so one that is answered Success was
-- lent one that has.
pub use Rattle.mailbox.proofs.Labels.{wrong_area_refused, accepted_area}
-- W-206, the numbers, past the checks before a command's own: a Set LSA that ends past the area, or with a reserved byte that is not zero, is 0002h, and every other Success, also with no data; a Get LSA
-- of over 2,048 bytes, or that ends past the area, is 0002h, and every other replies the bytes of its range.
pub use Rattle.mailbox.proofs.Labels.{past_set_refused, reserved_set_refused, inside_set_accepted, outside_get_refused, inside_got}
-- W-206, two commands on any devices at any times: after a Set LSA that is answered Success, where nobody writes the area between, a Get LSA of the same range that is answered Success gives the data
-- back, and one of a range apart from it gives what it gave before the Set.
pub use Rattle.mailbox.proofs.Labels.{set_then_get, set_then_apart}
-- W-207, in words: a Sanitize past the length check is 0001h and disables media where none runs, and 0006h while one does, and one that is answered 0001h did so; while media is disabled Inject Poison, Clear Poison, Get LSA and Set LSA past theirs are
-- 0007h, and no line is answered Clean.
pub use Rattle.mailbox.proofs.Sanitizing.{sanitize_starts, sanitize_started, sanitize_busy, disabled_refused, disabled_not_clean}
-- W-207, media: a command leaves it as it was, or is answered 0001h and found it enabled.
pub use Rattle.mailbox.proofs.Sanitizing.{media_after}
-- W-207, when: a Sanitize is due from the beginning plus the duration on and not before; its end comes once, after which nothing is due at any time, and nothing is due at the time of a call on the device that it
-- finds.
pub use Rattle.mailbox.proofs.Sanitizing.{due_from, not_due_before, ended_once, found_not_due}
-- W-208, the second mailbox: the answer of the function over parts, at the parts of a valid device, is that device's. An opcode that the device has not is 0003h, one that the device has and this mailbox has not 0015h; a
-- number other than 0000h comes with no reply, and no byte of the buffer is altered; one that is answered 0000h passed the checks before its own and is the command of its opcode.
pub use Rattle.mailbox.proofs.PoolAnswers.{pool_parts_answered}
pub use Rattle.mailbox.proofs.SecondMailbox.{pool_unknown, pool_has_not, pool_refusal, pool_unaltered, pool_passes, pool_replies}
-- W-208: the five of its commands that do not tell of the effects log are answered with the number and the reply of the first mailbox on the same device, where that is lent an area of 4,096 bytes, accepted or refused; so where it
-- accepts; so of the whole call where no Sanitize is due.
pub use Rattle.mailbox.proofs.SecondMailbox.{pool_same, pool_same_accepted, pool_same_outcome}
-- To unfold `rules` is to unfold every definition of a call: on a device that is written out it then computes.
unfoldable pub use Rattle.mailbox.proofs.Computing.{rules}
