use Rattle.std.proofs.Common.{subst}
use Rattle.pack_model.specs.Name.{IsName}
use Rattle.csv_table.proofs.Ranges.{anyway, below_32_bits}
use Rattle.matrix_rows.proofs.TextLaws.{row_back}
use Rattle.matrix_rows.proofs.text.write_row.Goals as goal

pub returns-clause-reads_back : goal.returns-clause-reads_back
returns-clause-reads_back c =
    let row = c.args.row.now in
    anyway c.end.result (row_back row c.requires.in_range
    (subst IsName c.bytes.ensures.bytes c.bytes.ensures.name)
    (subst IsName c.bytes-2.ensures.bytes c.bytes-2.ensures.name)
    (below_32_bits row.pdu c.optional.ensures.fits))
