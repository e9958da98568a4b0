-- `bench::lines::put_command` meets its contract: each piece follows the one before it, and there is room for all. Assumes nothing.
use native.Mathlib.Omega.{arith}
use Rattle.bench.proofs.LineLaws.{columns_end, bytes_end, command_empty, command_told}
use Rattle.bench.proofs.lines.put_command.Goals as goal

pub end_line-requires : goal.end_line-requires
end_line-requires c =
    let put = c.put_columns-at in
    omega (arith, columns_end c.args.code c.args.reply.now put.ensures c.requires.1 c.requires.0, put.auto.out)

pub returns-then-n-eq0 : goal.returns-then-n-eq0
returns-then-n-eq0 c =
    command_empty c.args.code c.args.reply.now c.put_columns-at.ensures c.requires.1 c.requires.0 c.end_line.ensures c.if-n-eq0.true

pub put_bytes-end-requires : goal.put_bytes-end-requires
put_bytes-end-requires c =
    let put = c.put_columns-at in
    (omega arith, omega (arith, columns_end c.args.code c.args.reply.now put.ensures c.requires.1 c.requires.0, put.auto.out))

pub end_line-requires-2 : goal.end_line-requires-2
end_line-requires-2 c =
    let put = c.put_columns-at in
    let bytes = c.put_bytes-end in
    omega (arith, bytes_end c.args.code c.args.reply.now put.ensures c.requires.1 c.requires.0 bytes.ensures, bytes.auto.out, put.auto.out)

pub returns : goal.returns
returns c =
    command_told c.args.code c.args.reply.now c.put_columns-at.ensures c.requires.1 c.requires.0 c.put_bytes-end.ensures c.end_line-2.ensures c.if-n-eq0.false
