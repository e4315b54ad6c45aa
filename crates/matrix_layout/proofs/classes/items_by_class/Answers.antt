use Rattle.std.proofs.Common.{◌≡◌, ◌<◌, [], length, map, ap, sym, ◌∙◌, arith, take, get_or}
use Rattle.std.specs.List.{range_with_len}
use Rattle.std.proofs.lemmas.List.{take_all}
use Rattle.std.proofs.lemmas.List.FromFn.{get_or-range_with_len, length-range_with_len}
use Rattle.std.proofs.lemmas.Simd.{splat_is_map}
use Rattle.class_frame.specs.Grouping.{class_of}
use Rattle.matrix_layout.proofs.LaidSteps.{lists_more, length_of_classes}
use Rattle.matrix_layout.proofs.classes.items_by_class.Goals as goal

pub loop-number-init : goal.loop-number-init
loop-number-init c = c.in_ok-numbers.ensures
    ∙ splat_is_map (range_with_len 0 c.args.classes) c.args.classes []
    (length-range_with_len 0 c.args.classes)

pub index_mut-class-requires : goal.index_mut-class-requires
index_mut-class-requires c =
    omega (
      arith,
      length_of_classes c.loop-number.numbers.items (λ class. class.items)
          (λ label. class_of label (take c.loop-number.number c.args.labels.now)
          (take c.loop-number.number (range_with_len 0 (length c.args.labels.now)))) c.args.classes
          c.loop-number.invariant,
      c.requires.below c.loop-number.number 0 (omega arith),
    )

pub loop-number-preserved : goal.loop-number-preserved
loop-number-preserved c =
    let lt : c.loop-number.number < length c.args.labels.now = omega arith in
    let many : length c.args.labels.now ≡ length (range_with_len 0 (length c.args.labels.now)) =
    sym (length-range_with_len 0 (length c.args.labels.now)) in
    let within : c.loop-number.number < length (range_with_len 0 (length c.args.labels.now)) = omega arith in
    let here : c.loop-number.number
    ≡ get_or (range_with_len 0 (length c.args.labels.now)) c.loop-number.number c.loop-number.number =
    omega (
      arith,
      get_or-range_with_len 0 (length c.args.labels.now) c.loop-number.number c.loop-number.number lt,
    ) in
    lists_more c.args.labels.now
    (range_with_len 0 (length c.args.labels.now)) c.args.classes c.loop-number.number c.loop-number.number
    many within here (c.requires.below c.loop-number.number 0 lt)
    c.loop-number.numbers.items
    (λ class. class.items) c.index_mut-class.result.now c.push.new.self c.loop-number.invariant
    c.index_mut-class.ensures.value c.in_ok-push.ensures.items

-- the loop went over all labels
pub returns : goal.returns
returns c =
    let many = length-range_with_len 0 (length c.args.labels.now) in
    c.loop-number.invariant
    ∙ ap (λ labels. map (λ label. class_of label labels
    (take c.loop-number.number (range_with_len 0 (length c.args.labels.now))))
    (range_with_len 0 c.args.classes)) (take_all c.loop-number.number c.args.labels.now (omega arith))
    ∙ ap (λ numbers. map (λ label. class_of label c.args.labels.now numbers)
    (range_with_len 0 c.args.classes))
    (take_all c.loop-number.number (range_with_len 0 (length c.args.labels.now)) (omega arith))
