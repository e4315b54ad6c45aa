-- What a reader of columns returned, beside what the definitions say.
use Rattle.std.specs.Prelude.{ℕ, Option, Some, None}
use Rattle.csv_table.specs.declared.columns.ColumnFault.{ColumnFault}
use Rattle.csv_table.specs.declared.columns.ColumnFault.TheVariants as fault
pub use Rattle.pack_model.specs.Gives.{Explains, Gives}

-- the column that broke its rule
abbrev pub column_of : ColumnFault → Option ℕ
column_of fault.Memory = None
column_of (fault.Column k) = Some k
