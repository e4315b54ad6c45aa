pub mod MatrixText
pub mod Row
