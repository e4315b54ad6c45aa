-- What the frame lines of a certificate show of a matrix: that each frame passes the response-time test of
-- Davis, Burns, Bril and Lukkien (2007), with priorities in the order of ascending identifiers.
use Rattle.std.specs.Prelude.{◌≡◌, ◌<◌, ℕ, List, length, slice_index_or}
use Rattle.pack_model.specs.Problem.{Parts}
use Rattle.class_frame.specs.Classes.{frames_of_classes}
use Rattle.response_test.specs.Frame.{FramePasses, IsShown}
use Rattle.matrix_rows.specs.declared.matrix.MatrixRow.{MatrixRow}
use Rattle.matrix_text.specs.Frames.{grouping_of, order_of}
use Rattle.cert_text.specs.declared.parts.FrameLine.{FrameLine}

-- a frame line shows that the frame at a place of the order of ascending identifiers passes
abbrev pub ShowsFrame : Parts → List MatrixRow → ℕ → FrameLine → Type 0
ShowsFrame problem rows place line =
    IsShown (frames_of_classes problem problem.items (grouping_of problem rows)) (order_of problem rows) place
    problem.network.nominal_ticks line.busy line.queue

-- there is one line for each frame, by ascending identifier, and each shows that its frame passes
pub record TimingStands (problem : Parts) (rows : List MatrixRow) (lines : List FrameLine) : Type 0 where
  pub count : length lines ≡ length (order_of problem rows)
  pub each : (place : ℕ) (d : FrameLine) → place < length lines
      → ShowsFrame problem rows place (slice_index_or lines place d)

-- each frame passes the written test in the order of ascending identifiers
abbrev pub AllPass : Parts → List MatrixRow → Type 0
AllPass problem rows = (place : ℕ) → place < length (order_of problem rows)
    → FramePasses (frames_of_classes problem problem.items (grouping_of problem rows)) (order_of problem rows)
    place problem.network.nominal_ticks
