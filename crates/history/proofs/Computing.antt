-- One name for the definitions that make a call on a device that is written out compute to its answer: the device's rules and `step`. It states nothing.
-- Assumes nothing.
use Rattle.mailbox.proofs.Laws as Device
use Rattle.history.specs.Calls.{step}

-- to unfold this is to unfold every definition of the line below
unfoldable pub rules : Unit {0}
unfolding step Device.rules
rules = tt
