use Rattle.std.proofs.Common.{◌≡◌, drop, map}
use Rattle.csv.specs.Records.{fields_of}
use Rattle.csv_table.specs.Columns.{is_row}
use Rattle.csv_table.proofs.columns.has_fields.Given as goal

-- the fields that are left decide
abbrev pub invariant-loop-place : goal.invariant-loop-place
invariant-loop-place l =
    is_row (drop l.place (fields_of l.row)) (map (λ s. s.now) (drop l.place l.names))
    ≡ is_row (fields_of l.row) (map (λ s. s.now) l.names)
