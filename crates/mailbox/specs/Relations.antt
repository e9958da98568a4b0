-- What the functions of this crate ensure: records of equations between their answers and the definitions, one field for each part of an answer.
-- Assumes nothing.
use Rattle.std.specs.Prelude.{ℕ, ◌≡◌, List, length}
use Rattle.wire.specs.Returns.{Refused}
use Rattle.wire.specs.Wire.{splice}
use Rattle.events.specs.declared.status.Status.{Status}
use Rattle.events.specs.Status.{StatusOutcome}
use Rattle.mailbox.specs.declared.device.Device.{Device}
use Rattle.mailbox.specs.declared.device.Made.{Made}
use Rattle.mailbox.specs.declared.device.Answer.{Answer}
use Rattle.mailbox.specs.declared.device_calls.EventAnswer.{EventAnswer}
use Rattle.mailbox.specs.declared.device_calls.MediaAnswer.{MediaAnswer}
use Rattle.mailbox.specs.declared.device_calls.LineAnswer.{LineAnswer}
use Rattle.mailbox.specs.State.{ValidDevice, state_of}
use Rattle.settings.specs.Vector.{Carries}
use Rattle.mailbox.specs.LineStatus.{status_number, status_type}
use Rattle.mailbox.specs.Outcome.{Outcome}
use Rattle.mailbox.specs.DeviceCalls.{MakeOutcome, EventOutcome, MediaOutcome, LineOutcome}

-- a command, on the device that it finds (`AfterEnding` says which that is): number, length, vector, next device, every byte of the buffer; the premise given back; a refusal hands back the very same device
pub record Answered (o : Outcome) (d : Device) (r : Answer) (before after : List ℕ) : Type 0 where
  pub code : r.code ≡ o.code
  pub size : r.length ≡ length o.reply
  pub vector : Carries o.vector r.vector
  pub next : state_of r.device ≡ o.next
  pub bytes : after ≡ splice 0 o.reply before
  pub refused : Refused r.code → r.device ≡ d
  pub valid : ValidDevice r.device

-- `make`
pub record Makes (o : MakeOutcome) (r : Made) : Type 0 where
  pub code : r.code ≡ o.code
  pub next : state_of r.device ≡ o.next
  pub valid : ValidDevice r.device

-- `event_report`
pub record EventDone (o : EventOutcome) (d : Device) (r : EventAnswer) : Type 0 where
  pub code : r.code ≡ o.code
  pub stored : r.stored ≡ o.stored
  pub vector : Carries o.vector r.vector
  pub next : state_of r.device ≡ o.next
  pub refused : Refused r.code → r.device ≡ d
  pub valid : ValidDevice r.device

-- `media_report`
pub record MediaDone (o : MediaOutcome) (d : Device) (r : MediaAnswer) : Type 0 where
  pub code : r.code ≡ o.code
  pub stored : r.stored ≡ o.stored
  pub dropped : r.dropped ≡ o.dropped
  pub next : state_of r.device ≡ o.next
  pub refused : Refused r.code → r.device ≡ d
  pub valid : ValidDevice r.device

-- `line_test`: the enum by the definitions that give document 01's number and type for each case, which together tell the case
pub record LineDone (o : LineOutcome) (r : LineAnswer) : Type 0 where
  pub code : r.code ≡ o.code
  pub number : status_number r.answer ≡ o.number
  pub kind : status_type r.answer ≡ o.kind

-- `event_status`
pub record StatusGiven (o : StatusOutcome) (r : Status) : Type 0 where
  pub bits : r.bits ≡ o.bits
  pub waiting : r.waiting ≡ o.waiting
  pub highest : r.highest ≡ o.highest
