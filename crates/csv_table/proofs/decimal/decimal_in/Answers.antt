use Rattle.std.proofs.Common.{ap, ◌∙◌, arith}
use Rattle.csv_table.specs.Decimal.{decimal_of}
use Rattle.csv_table.proofs.Decimals.{decimal_of-decimal, decimal_of-spelled}
use Rattle.csv_table.proofs.decimal.decimal_in.Goals as goal

pub returns-clause-spelled : goal.returns-clause-spelled
returns-clause-spelled c =
    rw c.read_decimal.ensures (decimal_of-spelled c.args.low c.args.high c.args.bytes.now (omega arith))

pub returns-clause-each : goal.returns-clause-each
returns-clause-each c = λ n low high e.
    c.read_decimal.ensures ∙ ap (decimal_of c.args.low c.args.high) e
    ∙ decimal_of-decimal c.args.low c.args.high n (omega arith) low high
