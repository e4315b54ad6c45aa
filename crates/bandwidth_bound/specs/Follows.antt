-- What follows from a verdict.
use Rattle.std.specs.Prelude.{◌≡◌, ◌≤◌, ◌*◌, ⊤, ℕ, List, [], ◌∷◌}
use Rattle.pack_model.specs.Problem.{Parts}
use Rattle.class_frame.specs.Classes.{load_of}
use Rattle.matrix_rows.specs.declared.matrix.MatrixRow.{MatrixRow}
use Rattle.matrix_text.specs.Frames.{grouping_of}
use Rattle.matrix_text.specs.OnePlace.{OnePlace}
use Rattle.cert_text.specs.declared.parts.Kind.{Kind}
use Rattle.cert_text.specs.declared.parts.Kind.TheVariants.{KindPlaced, KindTimed, KindBetween, KindBest, KindNoSolution}
use Rattle.bandwidth_bound.specs.Bus.{NeverLate}
use Rattle.bandwidth_bound.specs.Rule.{Judged, load_in, lower_in}
use Rattle.bandwidth_bound.specs.Solvable.{Solvable}
use Rattle.bandwidth_bound.specs.Timing.{AllPass}

-- the kind speaks of a matrix: `none` doesn't, nor does `open` without rows
abbrev pub HasMatrix : Kind → List MatrixRow → Type 0
HasMatrix KindPlaced rows = ⊤
HasMatrix KindTimed rows = ⊤
HasMatrix KindBetween [] = ⊥
HasMatrix KindBetween (row ∷ rows) = ⊤
HasMatrix KindBest rows = ⊤
HasMatrix KindNoSolution rows = ⊥

-- the kind speaks of the times of a matrix's frames
abbrev pub HasTiming : Kind → List MatrixRow → Type 0
HasTiming KindPlaced rows = ⊥
HasTiming KindTimed rows = ⊤
HasTiming KindBetween [] = ⊥
HasTiming KindBetween (row ∷ rows) = ⊤
HasTiming KindBest rows = ⊤
HasTiming KindNoSolution rows = ⊥

-- no grouping that can meet all deadlines has a smaller load
abbrev pub NoneIsBetter : Parts → ℕ → Type 0
NoneIsBetter problem load =
    (labels : List ℕ) → Solvable problem labels → load ≤ load_of problem problem.items labels

-- no grouping can meet all deadlines
abbrev pub NoneIsSolvable : Parts → Type 0
NoneIsSolvable problem = (labels : List ℕ) → ¬ Solvable problem labels

-- each grouping that can meet all deadlines has at least this load, in eighths
abbrev pub EachReaches : Parts → ℕ → Type 0
EachReaches problem lower =
    (labels : List ℕ) → Solvable problem labels → lower ≤ 8 * load_of problem problem.items labels

-- each signal has one place of its own; each frame passes the written test, and no release is late in any run
-- of the bus that stands; of the kind `best` no grouping that can meet all deadlines has a smaller load, of
-- `none` there is no such grouping, and of `open` each has at least the bound
pub record Holds (judged : Judged) : Type 0 where
  pub one_place : HasMatrix judged.cert.kind judged.matrix → OnePlace judged.problem judged.matrix
  pub passes : HasTiming judged.cert.kind judged.matrix → AllPass judged.problem judged.matrix
  pub never_late : HasTiming judged.cert.kind judged.matrix → NeverLate judged.problem judged.matrix
  pub solvable : HasTiming judged.cert.kind judged.matrix
      → Solvable judged.problem (grouping_of judged.problem judged.matrix)
  pub best : judged.cert.kind ≡ KindBest → NoneIsBetter judged.problem (load_in judged)
  pub no_solution : judged.cert.kind ≡ KindNoSolution → NoneIsSolvable judged.problem
  pub between : judged.cert.kind ≡ KindBetween → EachReaches judged.problem (lower_in judged)
