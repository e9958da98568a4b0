-- `mailbox::device::Device::pool_command` meets its contract: the command over its parts. Assumes nothing.
use native.Mathlib.Omega.{arith}
use Rattle.mailbox.proofs.PoolAnswers.{pool_parts_answered}
use Rattle.mailbox.proofs.device.Device.pool_command.Goals as goal

pub offset_bounds-self-k : goal.offset_bounds-self-k
offset_bounds-self-k c =
    let h = c.log_named-k.ensures.1 in record { fits = omega (arith, h) }

pub bounds-self-k : goal.bounds-self-k
bounds-self-k c =
    c.log_named-k.ensures.1

pub pool_command_in-requires : goal.pool_command_in-requires
pool_command_in-requires c =
    (c.requires.few_units, c.requires.poison, c.requires.logs.each _ c.log_named-k.ensures.1)

pub returns : goal.returns
returns c =
    pool_parts_answered c.args.self c.log_named-k.ensures.0 c.pool_command_in.ensures
