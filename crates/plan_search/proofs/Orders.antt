-- An order that names each frame of one item once is one of the classes of one item each.
use Rattle.std.proofs.Common.{◌≡◌, ℕ, ◌<◌, ◌≤◌, List, length, cond, nat_eq, ap, sym, ◌∙◌, subst, arith}
use Rattle.std.specs.List.{range_with_len}
use Rattle.std.proofs.lemmas.List.FromFn.{get_or-range_with_len, length-range_with_len}
use Rattle.std.proofs.lemmas.List.Elements.{All-contains}
use Rattle.pack_model.specs.Problem.{Parts, IsProblem}
use Rattle.pack_model.proofs.Laws.{tests}
use Rattle.busy_period.specs.declared.timed.Timed.{Timed}
use Rattle.busy_period.specs.Stage.{IsSameSet}
use Rattle.busy_period.proofs.Sums.{sum_by-same_set}
use Rattle.response_test.specs.Order.{NamesEachOnce, OrderPasses}
use Rattle.class_frame.specs.Grouping.{classes_of, AreFirstLabels, IsOrder}
use Rattle.class_frame.proofs.GroupingLaws.{distinct-order, front_of, length-order}
use Rattle.class_frame.proofs.ClassFrames.{count_frames}
use Rattle.matrix_layout.proofs.OneEach.{one_each_legal, one_each_order}
use Rattle.plan_search.specs.Alone.{frames_alone, labels_alone}

module _ (n : ℕ) where
  -- there are as many classes of one item each as items
  pub classes_of-range : classes_of (range_with_len 0 n) ≡ n
  classes_of-range = sym (length-order (range_with_len 0 n) (range_with_len 0 n) (one_each_order n))
      ∙ length-range_with_len 0 n

  -- an order that names each frame once names the numbers below their count
  same_numbers : (frames : List Timed) (order : List ℕ) → length frames ≡ n → NamesEachOnce frames order
      → IsSameSet order (range_with_len 0 n)
  same_numbers frames order count names = record {
    there = λ number among.
        let inside : number < n = omega (
          arith,
          count,
          All-contains
              (λ k. k < length frames) order number names.named among,
        ) in (
          number,
          omega (arith, inside, length-range_with_len 0 n),
          omega
              (arith, get_or-range_with_len 0 n number number inside),
        );
    back = λ number (k, inside, is).
        let within : k < n = omega (arith, inside, length-range_with_len 0 n) in
        names.each number (omega (arith, is, within, count, get_or-range_with_len 0 n k number within));
  }

  pub order_of_frames : (frames : List Timed) (order : List ℕ) → length frames ≡ n
      → NamesEachOnce frames order → IsOrder (range_with_len 0 n) order
  order_of_frames frames order count names = record {
    once = λ label low.
        sum_by-same_set (λ x. cond (nat_eq x label) 1 0) order (range_with_len 0 n) names.distinct
        (distinct-order (range_with_len 0 n) (range_with_len 0 n) (one_each_order n))
        (same_numbers frames order count names)
        ∙ (one_each_order n).once label low;
    only = λ k d lt. omega (arith, names.named k d lt, count, classes_of-range);
  }

-- the labels of one item each are those of the first items
pub is_front : (problem : Parts) (labels : List ℕ) → IsProblem problem → labels ≡ labels_alone problem
    → AreFirstLabels problem.items labels
is_front problem labels stands same =
    subst (AreFirstLabels problem.items) (sym same) (front_of problem.items (labels_alone problem)
    (one_each_legal problem stands).grouping)

-- and there are as many as classes
pub as_many : (problem : Parts) (labels : List ℕ) → labels ≡ labels_alone problem
    → length labels ≡ classes_of labels
as_many problem labels same =
    ap length same ∙ length-range_with_len 0 (length problem.items) ∙ sym
    (ap classes_of same ∙ classes_of-range (length problem.items))

-- at most 128
pub few_labels : (problem : Parts) (labels : List ℕ) → IsProblem problem → labels ≡ labels_alone problem
    → length labels ≤ 128
few_labels problem labels stands same =
    omega (
      arith,
      ap length same,
      length-range_with_len 0 (length problem.items),
      (tests problem stands).few_items,
    )

-- an order that passes names each of the classes once
pub order_that_passes : (problem : Parts) (labels order : List ℕ) (frames : List Timed) (bit : ℕ)
    → labels ≡ labels_alone problem → frames ≡ frames_alone problem → OrderPasses frames bit order
    → IsOrder labels order
order_that_passes problem labels order frames bit same are passes =
    subst (λ l. IsOrder l order) (sym same)
    (order_of_frames (length problem.items) frames order
    (count_frames problem (labels_alone problem) frames are ∙ classes_of-range
    (length problem.items)) passes.names_each_once)
