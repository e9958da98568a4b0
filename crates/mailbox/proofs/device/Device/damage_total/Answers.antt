-- `mailbox::device::Device::damage_total` meets its contract. Assumes nothing.
use Rattle.mailbox.proofs.device.Device.damage_total.Goals as goal

pub total-requires : goal.total-requires
total-requires c =
    c.requires.poison.few
