-- Which answer a call on a device where it lies stands for: what the call answers, and the device that it leaves. Assumes nothing.
use Rattle.settings.specs.Vector.{numbered}
use Rattle.mailbox.specs.declared.device.Device.{Device}
use Rattle.mailbox.specs.declared.device.Answer.{Answer}
use Rattle.mailbox.specs.declared.device.CommandTold.{CommandTold}
use Rattle.mailbox.specs.declared.by_parts.EventTold.{EventTold}
use Rattle.mailbox.specs.declared.by_parts.MediaTold.{MediaTold}
use Rattle.mailbox.specs.declared.device_calls.EventAnswer.{EventAnswer}
use Rattle.mailbox.specs.declared.device_calls.MediaAnswer.{MediaAnswer}

-- the number of a vector stands for its case
abbrev pub answered : CommandTold → Device → Answer
answered r d = record { code = r.code; length = r.length; vector = numbered r.vector; device = d }

abbrev pub event_told : EventTold → Device → EventAnswer
event_told r d = record { code = r.code; stored = r.stored; vector = numbered r.vector; device = d }

abbrev pub media_told : MediaTold → Device → MediaAnswer
media_told r d = record { code = r.code; stored = r.stored; dropped = r.dropped; device = d }
