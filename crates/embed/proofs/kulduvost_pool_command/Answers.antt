-- `kulduvost_pool_command` meets its contract, by what the functions that it calls ensure (`Parts`). Assumes nothing.
use Rattle.embed.proofs.Parts.{pool_command_in_asks, pool_command_in_gives}
use Rattle.embed.proofs.kulduvost_pool_command.Goals as goal

pub pool_command_in-done-requires : goal.pool_command_in-done-requires
pool_command_in-done-requires c =
    pool_command_in_asks c.args.device.now c.args.opcode c.args.payload.now c.args.time c.args.reply.now c.requires c.log_named-k.result c.log_named-k.ensures

pub returns : goal.returns
returns c =
    let done = c.pool_command_in-done in
    pool_command_in_gives c.args.device.now c.args.opcode c.args.payload.now c.args.time c.args.reply.now c.requires c.log_named-k.result c.log_named-k.ensures done.result done.new.reply done.ensures
