-- `mailbox::device::Device::make` meets its contract. Assumes nothing.
use borrow.Author.Rules.{rules}
use Rattle.mailbox.proofs.DeviceAnswers.{make_refused, make_taken}
use Rattle.mailbox.proofs.device.Device.make.Goals as goal

pub returns-then-contains : goal.returns-then-contains
returns-then-contains c =
    make_taken _ _ (search rules) c.new-then-contains.ensures.0 c.new-then-contains.ensures.1

pub returns-else-contains : goal.returns-else-contains
returns-else-contains c =
    make_refused _ _ (search rules) c.new-else-contains.ensures.0 c.new-else-contains.ensures.1
