use Rattle.std.proofs.Common.{◌≡◌, map, take}
use Rattle.csv_table.proofs.writing.RowsWriter.row.Given as goal

-- the fields so far are those of the record at hand
abbrev pub invariant-loop-field : goal.invariant-loop-field
invariant-loop-field l =
    (l.self.text ≡ l.initial.self.text) × (l.self.row ≡ map (λ f. f.now) (take l.field-index l.fields))
