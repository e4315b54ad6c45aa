use Rattle.csv_table.proofs.Records.{rows_few}
use Rattle.csv_table.proofs.rows.Rows.of_text.Goals as goal

pub returns-clause-few : goal.returns-clause-few
returns-clause-few c =
    rw (c.from_reader.ensures.state, c.from_reader.ensures.source) (rows_few c.args.text.now)
