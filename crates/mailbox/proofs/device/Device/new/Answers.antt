-- `mailbox::device::Device::new` meets its contract. Assumes nothing.
use lib.ListN.{replicate}
use Rattle.mailbox.proofs.device.Device.new.Goals as goal

pub returns : goal.returns
returns c =
    let clock = c.unset-clock.ensures in
    let media = c.enabled-media.ensures in
    let logs = c.new_logs-logs.ensures in
    let list = c.new-poison.ensures in (
      (λ i. record { volatile = c.args.volatile; persistent = c.args.persistent; clock = clock i; policy = replicate 5 0; logs = logs.states i; poison = list.state i; media = media i }),
      record { some_unit = c.requires.0; few_units = c.requires.1; logs = logs.valid; poison = list.valid _ },
    )
