use Rattle.std.proofs.Common.{◌+◌, arith}
use Rattle.busy_period.proofs.Instances.{inverse-le}
use Rattle.busy_period.proofs.quick.quick_instances.Goals as goal

pub returns-clause-fewer : goal.returns-clause-fewer
returns-clause-fewer c =
    inverse-le c.from.result c.from-2.result (c.args.time + c.args.frame.jitter) c.args.inverse
    c.args.frame.period 18446744073709551616
    c.from.ensures c.from-2.ensures (omega arith) c.requires.range.some_period c.requires.inverse
