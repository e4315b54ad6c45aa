-- What is planned where each item has a frame of its own.
use Rattle.std.specs.Prelude.{◌≡◌, ℕ, List, [], length, None}
use Rattle.std.specs.List.{range_with_len}
use Rattle.pack_model.specs.Problem.{Parts}
use Rattle.busy_period.specs.declared.timed.Timed.{Timed}
use Rattle.priority_assign.specs.Lowest.{IsLowestFirst}
use Rattle.class_frame.specs.Classes.{frames_of_classes, load_of}
use Rattle.matrix_rows.specs.declared.matrix.MatrixRow.{MatrixRow}
use Rattle.matrix_text.specs.LaidOut.{rows_of, rows_one_each}
use Rattle.cert_text.specs.declared.parts.FrameLine.{FrameLine}
use Rattle.cert_text.specs.declared.parts.Kind.TheVariants.{KindTimed}
use Rattle.cert_text.specs.Parts.{CertParts, placed_parts}
use Rattle.bandwidth_bound.specs.declared.verdict.Verdict.{Verdict}
use Rattle.bandwidth_bound.specs.declared.verdict.Verdict.TheVariants as verdict
use Rattle.bandwidth_bound.specs.Rule.{Judged}
use Rattle.bandwidth_bound.specs.Solvable.{Solvable}
use Rattle.plan_search.specs.declared.alone.Alone.{Alone}
use Rattle.plan_search.specs.declared.alone.Alone.TheVariants as alone
use Rattle.plan_search.specs.Lines.{AreLeastLines}

-- the grouping in which each item has a class of its own, by item
abbrev pub labels_alone : Parts → List ℕ
labels_alone problem = range_with_len 0 (length problem.items)

-- the frames of one item each, by item
abbrev pub frames_alone : Parts → List Timed
frames_alone problem = frames_of_classes problem problem.items (labels_alone problem)

-- the load of the frames of one item each, in ticks a common period
abbrev pub load_alone : Parts → ℕ
load_alone problem = load_of problem problem.items (labels_alone problem)

-- the certificate of the kind `timed` with these lines
abbrev pub timed_parts : List FrameLine → CertParts
timed_parts lines = record { kind = KindTimed; frames = lines; lemmas = []; main_tree = None }

-- the frames of one item each are in time in the order of lowest-priority-first assignment: the matrix is
-- that of this order, and the certificate has the least numbers that show it
pub record IsInTime (problem : Parts) (rows : List MatrixRow) (cert : CertParts) : Type 0 where
  pub order : List ℕ
  pub lowest_first : IsLowestFirst (frames_alone problem) problem.network.nominal_ticks 0 order
  pub matrix : rows ≡ rows_of problem (labels_alone problem) order
  pub lines : AreLeastLines (frames_alone problem) order problem.network.nominal_ticks cert.frames
  pub certificate : cert ≡ timed_parts cert.frames

-- this is planned: the frames of one item each in time, exactly where some order of them passes, and else in
-- item order
abbrev pub IsPlanAlone : Parts → Alone → Type 0
IsPlanAlone problem (alone.InTime rows cert) = Solvable problem (labels_alone problem)
    × IsInTime problem rows cert
IsPlanAlone problem (alone.Untimed rows) = (¬ Solvable problem (labels_alone problem))
    × (rows ≡ rows_one_each problem)

-- the matrix that is planned
abbrev pub matrix_alone : Alone → List MatrixRow
matrix_alone (alone.InTime rows cert) = rows
matrix_alone (alone.Untimed rows) = rows

-- the certificate that is planned: that of a placed matrix, where the frames are not in time
abbrev pub cert_alone : Alone → CertParts
cert_alone (alone.InTime rows cert) = cert
cert_alone (alone.Untimed rows) = placed_parts

-- what they show
abbrev pub verdict_alone : Parts → Alone → Verdict
verdict_alone problem (alone.InTime rows cert) = verdict.Timed (load_alone problem)
verdict_alone problem (alone.Untimed rows) = verdict.Placed

-- what is planned, to be judged
abbrev pub judged_alone : Parts → Alone → Judged
judged_alone problem plan = record { problem = problem; matrix = matrix_alone plan; cert = cert_alone plan }
