-- A grouping that was found, in its order: its frames, its matrix, and the lines that show that each frame
-- passes.
use Rattle.std.proofs.Common.{◌≡◌, ℕ, ◌<◌, ◌≤◌, List, [], ◌∷◌, length, get_or, All, Some, refl, sym, ap, ◌∙◌, subst, arith}
use Rattle.std.specs.List.{range_with_len}
use Rattle.pack_model.specs.Problem.{Parts, IsProblem, IsSorted}
use Rattle.pack_model.proofs.Laws.{tests}
use Rattle.busy_period.specs.declared.timed.Timed.{Timed}
use Rattle.busy_period.specs.Stage.{IsStage}
use Rattle.response_test.specs.Frame.{IsShown}
use Rattle.response_test.specs.Order.{OrderPasses}
use Rattle.priority_assign.specs.Lowest.{IsLowestFirst}
use Rattle.class_frame.specs.Classes.{frames_of_classes, load_of}
use Rattle.class_frame.specs.Grouping.{classes_of, IsOrder}
use Rattle.class_frame.specs.Legal.{IsLegal}
use Rattle.class_frame.proofs.ClassFrames.{count_frames, stage}
use Rattle.class_frame.proofs.GroupingLaws.{classes_of-le-length, front_of, length-order}
use Rattle.grouping_tree.specs.Partial.{IsPartial}
use Rattle.grouping_tree.proofs.Fronts.{legal-partial}
use Rattle.grouping_tree.proofs.Steps.{element}
use Rattle.matrix_rows.specs.declared.matrix.MatrixRow.{MatrixRow}
use Rattle.matrix_text.specs.Frames.{grouping_of, order_of}
use Rattle.matrix_text.specs.LaidOut.{rows_of}
use Rattle.matrix_text.specs.Placed.{Placed}
use Rattle.matrix_layout.proofs.LaidGrouping.{laid_grouping, laid_order}
use Rattle.matrix_layout.proofs.LaidPlaced.{placed_laid}
use Rattle.cert_text.specs.declared.parts.FrameLine.{FrameLine}
use Rattle.cert_text.specs.Written.{HasRoom}
use Rattle.bandwidth_bound.specs.Rule.{best_of}
use Rattle.bandwidth_bound.specs.Timing.{TimingStands}
use Rattle.bandwidth_bound.proofs.Final.{all_items, frames_in_range}
use Rattle.search_judge.specs.Findings.{frames_at}
use Rattle.search_judge.proofs.Shows.{lowest_passes}
use Rattle.plan_search.specs.Lines.{AreLeastLines}
use Rattle.plan_search.proofs.LeastLines.{least_has_room, least_shows}
use Rattle.plan_search.proofs.Orders.{classes_of-range, order_of_frames}

-- each of the lines shows its frame
abbrev ShowEach : ℕ → List FrameLine → List Timed → List ℕ → Type 0
ShowEach bit lines frames order = (place : ℕ) (d : FrameLine) → place < length lines
    → IsShown frames order place bit (get_or lines place d).busy (get_or lines place d).queue

-- least lines do where each frame passes
show_each : (bit : ℕ) (lines : List FrameLine) (frames : List Timed) (order : List ℕ)
    → AreLeastLines frames order bit lines → OrderPasses frames bit order → ShowEach bit lines frames order
show_each bit lines frames order least passes place d inside =
    least_shows frames order bit place (get_or lines place d) (least.each place d inside)
    (passes.passes place (omega (arith, inside, least.count)))

-- least lines show the timing of a matrix of this grouping in this order
pub timing_stands : (problem : Parts) (rows : List MatrixRow) (labels order : List ℕ) (lines : List FrameLine)
    → grouping_of problem rows ≡ labels → order_of problem rows ≡ order
    → AreLeastLines (frames_at problem labels) order problem.network.nominal_ticks lines
    → OrderPasses (frames_at problem labels) problem.network.nominal_ticks order
    → TimingStands problem rows lines
timing_stands problem rows labels order lines grouping named least passes =
    let bit : ℕ = problem.network.nominal_ticks in
    record {
      count = least.count ∙ sym (ap length named);
      each =
          subst (λ ls. ShowEach bit lines (frames_of_classes problem problem.items ls)
          (order_of problem rows))
          (sym grouping)
          (subst (ShowEach bit lines (frames_at problem labels)) (sym named)
          (show_each bit lines (frames_at problem labels) order least passes));
    }

-- a placed matrix has rows
no_rows : (problem : Parts) → IsProblem problem → Placed problem [] → ⊥
no_rows problem stands placed =
    let (signal, at) = element problem.signals 0 (tests problem stands).some in
    absurd (omega (arith, placed.one_row.each 0 signal (tests problem stands).some))

-- so it has a load
pub best_is : (problem : Parts) (rows : List MatrixRow) → IsProblem problem → Placed problem rows
    → best_of problem rows ≡ Some (load_of problem problem.items (grouping_of problem rows))
best_is problem [] stands placed = absurd (no_rows problem stands placed)
best_is problem (row ∷ rows) stands placed = refl

module _ (problem : Parts) (labels order : List ℕ)
    (lowest : IsLowestFirst (frames_at problem labels) problem.network.nominal_ticks 0 order) where
  -- the order of lowest-priority-first assignment is one of the classes
  pub is_order : IsOrder labels order
  is_order =
      let n : ℕ = classes_of labels in
      let it : IsOrder (range_with_len 0 n) order = order_of_frames n (frames_at problem labels) order
      (count_frames problem labels (frames_at problem labels) refl) lowest.fills.names_each_once in
      record {
        once = λ label low. it.once label (omega (arith, low, classes_of-range n));
        only = λ k d lt. omega (arith, it.only k d lt, classes_of-range n);
      }

  -- it names as many as there are classes
  pub order_count : length order ≡ classes_of labels
  order_count = length-order labels order is_order

  -- at most 128
  pub order_few : IsProblem problem → IsLegal problem.items labels → length order ≤ 128
  order_few stands legal = omega (
    arith,
    order_count,
    classes_of-le-length problem.items labels legal.grouping,
    (tests problem stands).few_items,
  )

module _ (problem : Parts) (stands : IsProblem problem) (sorted : IsSorted problem.signals problem.items)
    (labels : List ℕ) (legal : IsLegal problem.items labels) where
  -- a legal grouping is a partial one
  partial : IsPartial problem.items labels
  partial = legal-partial problem.items labels legal

  module _ (order : List ℕ)
      (lowest : IsLowestFirst (frames_at problem labels) problem.network.nominal_ticks 0 order) where
    -- the order of lowest-priority-first assignment passes
    order_passes : OrderPasses (frames_at problem labels) problem.network.nominal_ticks order
    order_passes = lowest_passes problem stands labels order partial lowest

    -- there is a stage at each place
    pub stage_at : (place : ℕ) → place < length order → IsStage (frames_at problem labels) order place
    stage_at place inside =
        stage problem labels order (frames_at problem labels) stands
        (front_of problem.items labels legal.grouping)
        (is_order problem labels order lowest) refl
        (frames_in_range problem stands problem.items (all_items problem) labels partial) place inside

    module _ (rows : List MatrixRow) (is : rows ≡ rows_of problem labels order) where
      -- the matrix is placed, with this grouping and this order
      pub placed : Placed problem rows
      placed = subst (Placed problem) (sym is) (placed_laid problem labels order stands sorted legal
          (is_order problem labels order lowest))

      pub grouping : grouping_of problem rows ≡ labels
      grouping = ap (grouping_of problem) is ∙ laid_grouping problem labels order stands sorted legal
          (is_order problem labels order lowest)

      pub named : order_of problem rows ≡ order
      named = ap (order_of problem) is ∙ laid_order problem labels order stands sorted legal
          (is_order problem labels order lowest)

      -- its load is that of the grouping
      pub best : best_of problem rows ≡ Some (load_of problem problem.items labels)
      best = best_is problem rows stands placed
          ∙ ap (λ ls. Some (load_of problem problem.items ls)) grouping

      module _ (lines : List FrameLine)
          (least : AreLeastLines (frames_at problem labels) order problem.network.nominal_ticks lines) where
        -- least lines show its timing
        pub timing : TimingStands problem rows lines
        timing = timing_stands problem rows labels order lines grouping named least order_passes

    -- least lines have a text
    pub lines_have_room : (lines : List FrameLine)
        → AreLeastLines (frames_at problem labels) order problem.network.nominal_ticks lines
        → All HasRoom lines
    lines_have_room lines least = λ place d inside.
        least_has_room (frames_at problem labels) order problem.network.nominal_ticks place
        (get_or lines place d)
        (least.each place d inside) (stage_at place (omega (arith, inside, least.count)))
