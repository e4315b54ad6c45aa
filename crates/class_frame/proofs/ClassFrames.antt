-- The classes of labels of the first items as frames: each order of the classes makes a stage at each place.
use Rattle.std.proofs.Common.{◌≡◌, ℕ, ◌<◌, ◌≤◌, ◌%◌, List, length, map, take, get_or, All, ap, sym, ◌∙◌, subst, arith}
use Rattle.std.specs.List.{range_with_len}
use Rattle.std.proofs.lemmas.List.Elements.{All-map}
use Rattle.std.proofs.lemmas.List.FromFn.{get_or-range_with_len, length-map-range_with_len, length-range_with_len}
use Rattle.pack_model.specs.Problem.{Parts, IsProblem}
use Rattle.pack_model.specs.declared.item.Item.{Item}
use Rattle.pack_model.proofs.Laws.{tests}
use Rattle.pack_model.proofs.ItemFacts.{IsItemOf}
use Rattle.pack_model.proofs.Periods.{problem_period}
use Rattle.busy_period.specs.declared.timed.Timed.{Timed}
use Rattle.busy_period.specs.Timed.{IsInRange}
use Rattle.busy_period.specs.Stage.{IsStage}
use Rattle.response_test.specs.Queueing.{IsBit}
use Rattle.response_test.specs.Refuted.{IsCommon}
use Rattle.class_frame.specs.Grouping.{classes_of, class_of, AreFirstLabels, IsOrder}
use Rattle.class_frame.specs.Classes.{frames_of_classes}
use Rattle.class_frame.specs.Frame.{timed_of_items}
use Rattle.class_frame.specs.Sums.{AreSums, sums_of}
use Rattle.class_frame.specs.declared.sums.Sums.{Sums}
use Rattle.class_frame.proofs.GroupingLaws.{class_of-take, distinct-order, front-le-length}
use Rattle.class_frame.proofs.Harder.{period_divides}
use Rattle.class_frame.proofs.Ranges.{bit_within}
use Rattle.class_frame.proofs.Used.{front_has_signal}

module _ (problem : Parts) (labels : List ℕ) where
  -- the frame of a label
  abbrev frame_of : ℕ → Timed
  frame_of label = timed_of_items problem (class_of label labels problem.items)

  -- the sums of a class of as many items as there are labels are those of the class
  pub sums_are : (items : List Item) (label : ℕ) (sums : Sums) → items ≡ problem.items → AreSums problem
      (class_of label labels (take (length labels) items)) sums → AreSums problem
      (class_of label labels problem.items) sums
  sums_are items label sums same are =
      are ∙ ap (sums_of problem) (class_of-take label labels items ∙ ap (class_of label labels) same)

  -- the frames of as many labels as there are classes are those of all classes
  pub all_of : (frames : List Timed) (label classes : ℕ) → frames ≡ map frame_of (range_with_len 0 label)
      → label ≡ classes → classes ≡ classes_of labels
      → frames ≡ frames_of_classes problem problem.items labels
  all_of frames label classes is last count = is ∙ ap (λ n. map frame_of (range_with_len 0 n)) (last ∙ count)

  -- there are as many frames as classes
  pub count_frames : (frames : List Timed) → frames ≡ frames_of_classes problem problem.items labels
      → length frames ≡ classes_of labels
  count_frames frames is = ap length is ∙ length-map-range_with_len frame_of 0 (classes_of labels)

  -- at most 128
  pub few_classes : IsProblem problem → AreFirstLabels problem.items labels → classes_of labels ≤ 128
  few_classes stands front = omega (
    arith,
    front-le-length problem.items labels front,
    (tests problem stands).few_items,
  )

  -- what holds of the frame of each label holds of all frames
  all_frames : (P : Timed → Type 0) (frames : List Timed)
      → frames ≡ frames_of_classes problem problem.items labels
      → ((label : ℕ) → label < classes_of labels → P (frame_of label)) → All P frames
  all_frames P frames is each =
      subst (All P) (sym is) (All-map P frame_of (range_with_len 0 (classes_of labels))
      (λ k d lt. each (get_or (range_with_len 0 (classes_of labels)) k d) (low k d lt)))
    where
      low : (k d : ℕ) → k < length (range_with_len 0 (classes_of labels)) → get_or
          (range_with_len 0 (classes_of labels)) k d < classes_of labels
      low k d lt =
          let within : k < classes_of labels = omega (
            arith,
            lt,
            length-range_with_len 0
                (classes_of labels),
          ) in
          omega (arith, get_or-range_with_len 0 (classes_of labels) k d within, within)

  -- an order of the classes is a stage at each place
  pub stage : (order : List ℕ) (frames : List Timed) → IsProblem problem
      → AreFirstLabels problem.items labels → IsOrder labels order
      → frames ≡ frames_of_classes problem problem.items labels → All IsInRange frames → (place : ℕ)
      → place < length order → IsStage frames order place
  stage order frames stands front named is in_range place inside = record {
    few = omega (arith, count_frames frames is, few_classes stands front);
    in_range = in_range;
    named = λ k d lt. omega (arith, named.only k d lt, count_frames frames is);
    distinct = distinct-order labels order named;
    inside = inside;
  }

  -- a nominal bit is one of a bit of the frames
  pub nominal_bit : (frames : List Timed) → IsProblem problem
      → frames ≡ frames_of_classes problem problem.items labels → IsBit frames problem.network.nominal_ticks
  nominal_bit frames stands is = record {
    some = omega (arith, stands.network.nominal_low, stands.network.data_low, stands.network.data_high);
    within = all_frames (λ (frame : Timed). problem.network.nominal_ticks ≤ frame.ticks) frames is
        (λ label low. bit_within problem (class_of label labels problem.items));
  }

  -- the problem's common period is one of the frames
  pub common_period : (frames : List Timed) → IsProblem problem → All
      (IsItemOf problem.signals) problem.items → AreFirstLabels problem.items labels
      → frames ≡ frames_of_classes problem problem.items labels → IsCommon frames problem.hyper
  common_period frames stands items front is = record {
    some = (problem_period problem stands).some;
    within = (tests problem stands).hyper_high;
    multiple = all_frames (λ (frame : Timed). problem.hyper % frame.period ≡ 0) frames is
        (λ label low. period_divides problem (class_of label labels problem.items)
        (problem_period problem stands)
        (front_has_signal problem problem.items labels label items front low));
  }
