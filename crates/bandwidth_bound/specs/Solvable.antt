-- Groupings that can meet all deadlines.
use Rattle.std.specs.Prelude.{ℕ, List}
use Rattle.pack_model.specs.Problem.{Parts}
use Rattle.class_frame.specs.Classes.{frames_of_classes}
use Rattle.class_frame.specs.Legal.{IsLegal}
use Rattle.response_test.specs.Order.{OrderPasses}

-- a legal grouping of all items with an order of its frames in which each passes the written test
pub record Solvable (problem : Parts) (labels : List ℕ) : Type 0 where
  pub legal : IsLegal problem.items labels
  pub order : List ℕ
  pub passes : OrderPasses (frames_of_classes problem problem.items labels) problem.network.nominal_ticks
      order
