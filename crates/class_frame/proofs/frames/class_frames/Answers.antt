use Rattle.std.proofs.Common.{◌++◌, ◌∷◌, [], ◌<◌, ◌≤◌, length, map, All, subst, ap, sym, ◌∙◌, arith, zero-add, slice_index_or, length-take-le}
use Rattle.std.specs.List.{range_with_len}
use Rattle.std.proofs.lemmas.List.{get_or_default}
use Rattle.std.proofs.lemmas.List.FromFn.{map-range_with_len_more}
use Rattle.std.proofs.lemmas.List.Elements.{All-nil, All-cons, All-append, All-take}
use Rattle.pack_model.specs.declared.item.Item.{Item}
use Rattle.pack_model.proofs.Laws.{tests}
use Rattle.pack_model.proofs.ItemFacts.{items_of_signals, members_within, small_items}
use Rattle.busy_period.specs.Timed.{IsInRange}
use Rattle.class_frame.specs.Frame.{timed_of_items}
use Rattle.class_frame.specs.Grouping.{class_of}
use Rattle.class_frame.specs.Laws.{HasSignal}
use Rattle.class_frame.specs.Sums.{AreSums, IsOn, IsSmall}
use Rattle.class_frame.proofs.ClassFrames.{all_of, common_period, count_frames, few_classes, nominal_bit, stage, sums_are}
use Rattle.class_frame.proofs.GroupingLaws.{label-lt-classes_of}
use Rattle.class_frame.proofs.Used.{front_has_signal, class_is_small}
use Rattle.class_frame.proofs.frames.class_frames.Goals as goal

pub class_sums-sums-requires-clause-few : goal.class_sums-sums-requires-clause-few
class_sums-sums-requires-clause-few c =
    omega (
      arith,
      length-take-le (length c.args.labels.now) c.items.result.now
          (omega (arith, c.requires.labels.within, ap length c.items.ensures.items)),
      ap length c.items.ensures.items,
      c.requires.labels.within,
      (tests c.args.problem.now c.items.ensures.problem).few_items,
    )

pub class_sums-sums-requires-clause-small : goal.class_sums-sums-requires-clause-small
class_sums-sums-requires-clause-small c =
    All-take (λ (item : Item). item.bits ≤ 512) (length c.args.labels.now) c.items.result.now
    (subst (All (λ (item : Item). item.bits ≤ 512)) (sym c.items.ensures.items)
    (small_items c.args.problem.now c.items.ensures.problem))

pub class_sums-sums-requires-clause-members : goal.class_sums-sums-requires-clause-members
class_sums-sums-requires-clause-members c =
    All-take (λ (item : Item). All (λ place. place < length c.args.problem.now.signals) item.members)
    (length c.args.labels.now) c.items.result.now
    (subst (All (λ (item : Item). All (λ place. place < length c.args.problem.now.signals) item.members))
    (sym c.items.ensures.items)
    (members_within c.args.problem.now.signals c.args.problem.now.items c.items.ensures.sorted))

pub class_sums-sums-requires-clause-low : goal.class_sums-sums-requires-clause-low
class_sums-sums-requires-clause-low c = λ k d lt.
    omega (
      arith,
      get_or_default c.args.labels.now k d 0 lt,
      label-lt-classes_of c.args.labels.now k lt,
      few_classes c.args.problem.now c.args.labels.now c.items.ensures.problem c.requires.labels,
    )

pub bounds-sums-label : goal.bounds-sums-label
bounds-sums-label c = omega (
  arith,
  c.requires.classes,
  few_classes c.args.problem.now c.args.labels.now c.items.ensures.problem c.requires.labels,
)

pub timed-requires-clause-small : goal.timed-requires-clause-small
timed-requires-clause-small c =
    let low : c.loop-label.label < 128 = omega (
      arith,
      c.requires.classes,
      few_classes c.args.problem.now c.args.labels.now c.items.ensures.problem c.requires.labels,
    ) in
    subst IsSmall (sym (sums_are c.args.problem.now c.args.labels.now c.items.result.now c.loop-label.label _
    c.items.ensures.items (c.class_sums-sums.ensures c.loop-label.label _ low)))
    (class_is_small c.args.problem.now c.args.problem.now.items c.args.labels.now c.loop-label.label
    (tests c.args.problem.now c.items.ensures.problem).few_items
    (small_items c.args.problem.now c.items.ensures.problem))

pub loop-label-preserved : goal.loop-label-preserved
loop-label-preserved c =
    let low : c.loop-label.label < 128 = omega (
      arith,
      c.requires.classes,
      few_classes c.args.problem.now c.args.labels.now c.items.ensures.problem c.requires.labels,
    ) in
    let on : IsOn c.args.problem.now c.network-network.result.now =
    record { stands = c.items.ensures.problem; same = sym c.network-network.ensures.network } in
    let has : HasSignal c.args.problem.now
    (class_of c.loop-label.label c.args.labels.now c.args.problem.now.items) =
    front_has_signal c.args.problem.now c.args.problem.now.items c.args.labels.now c.loop-label.label
    (items_of_signals c.args.problem.now.signals c.args.problem.now.items c.items.ensures.sorted)
    c.requires.labels (omega (arith, c.requires.classes)) in
    let are : AreSums c.args.problem.now
    (class_of c.loop-label.label c.args.labels.now c.args.problem.now.items)
    (slice_index_or c.class_sums-sums.result c.loop-label.label _) =
    sums_are c.args.problem.now c.args.labels.now c.items.result.now c.loop-label.label _
    c.items.ensures.items (c.class_sums-sums.ensures c.loop-label.label _ low) in
    record {
      value =
          c.in_ok-push.ensures.items
          ∙ ap (λ l. l ++ c.timed.result ∷ []) c.loop-label.invariant.value
          ∙ ap (λ frame. map (λ label. timed_of_items c.args.problem.now
          (class_of label c.args.labels.now c.args.problem.now.items))
          (range_with_len 0 c.loop-label.label) ++ frame ∷ [])
          (c.timed.ensures.value c.args.problem.now _ on are has)
          ∙ sym (map-range_with_len_more (λ label. timed_of_items c.args.problem.now
          (class_of label c.args.labels.now c.args.problem.now.items)) 0 c.loop-label.label
          c.loop-label.label (zero-add c.loop-label.label));
      in_range = subst (All IsInRange) (sym c.in_ok-push.ensures.items)
          (All-append IsInRange c.loop-label.frames.items
          (c.timed.result ∷ []) c.loop-label.invariant.in_range
          (All-cons IsInRange c.timed.result [] (c.timed.ensures.in_range c.args.problem.now _ on are has)
          (All-nil IsInRange)));
    }

-- the frames of all classes
pub returns-clause-count : goal.returns-clause-count
returns-clause-count c = count_frames c.args.problem.now c.args.labels.now c.loop-label.frames.items
    (all_of c.args.problem.now c.args.labels.now _ c.loop-label.label c.args.classes
    c.loop-label.invariant.value (omega arith) c.requires.classes)

pub returns-clause-few : goal.returns-clause-few
returns-clause-few c =
    omega (
      arith,
      count_frames c.args.problem.now c.args.labels.now c.loop-label.frames.items
          (all_of c.args.problem.now c.args.labels.now _ c.loop-label.label c.args.classes
          c.loop-label.invariant.value (omega arith) c.requires.classes),
      few_classes c.args.problem.now c.args.labels.now c.items.ensures.problem c.requires.labels,
    )

pub returns-clause-stages : goal.returns-clause-stages
returns-clause-stages c = λ order place named inside.
    stage c.args.problem.now c.args.labels.now order c.loop-label.frames.items c.items.ensures.problem
    c.requires.labels named
    (all_of c.args.problem.now c.args.labels.now _ c.loop-label.label c.args.classes
    c.loop-label.invariant.value
    (omega arith) c.requires.classes) c.loop-label.invariant.in_range place inside

pub returns-clause-bit : goal.returns-clause-bit
returns-clause-bit c =
    nominal_bit c.args.problem.now c.args.labels.now c.loop-label.frames.items c.items.ensures.problem
    (all_of c.args.problem.now c.args.labels.now _ c.loop-label.label c.args.classes
    c.loop-label.invariant.value (omega arith) c.requires.classes)

pub returns-clause-common : goal.returns-clause-common
returns-clause-common c =
    common_period c.args.problem.now c.args.labels.now c.loop-label.frames.items c.items.ensures.problem
    (items_of_signals c.args.problem.now.signals c.args.problem.now.items c.items.ensures.sorted)
    c.requires.labels
    (all_of c.args.problem.now c.args.labels.now _ c.loop-label.label c.args.classes
    c.loop-label.invariant.value (omega arith) c.requires.classes)
