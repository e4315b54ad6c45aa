use Rattle.matrix_rows.proofs.TextLaws.{read_in_range}
use Rattle.matrix_rows.proofs.text.read_rows_in_range.Goals as goal

pub returns-clause-in_range : goal.returns-clause-in_range
returns-clause-in_range c = read_in_range c.args.text.now c.read_all_rows.result c.read_all_rows.ensures
