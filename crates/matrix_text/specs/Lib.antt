pub use Rattle.matrix_layout.specs.LaidOut
pub use Rattle.matrix_rows.specs.MatrixText
pub use Rattle.matrix_rows.specs.Row
pub use Rattle.placed_matrix.specs.Frames
pub use Rattle.placed_matrix.specs.Items
pub use Rattle.placed_matrix.specs.OnePlace
pub use Rattle.placed_matrix.specs.Placed
