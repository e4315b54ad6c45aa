use Rattle.std.proofs.Common.{◌≡◌, ℕ, get_or, ◌<◌, ◌≤◌, ◌+◌, ◌++◌, List, All, length, sym, ap, subst, ◌∙◌, arith, take}
use Rattle.std.specs.List.{flat_map, enumerate_from}
use Rattle.std.proofs.lemmas.List.{get_or_default, take_all}
use Rattle.std.proofs.lemmas.List.FromFn.{length-enumerate_from}
use Rattle.pack_model.specs.declared.item.Item.{Item}
use Rattle.pack_model.specs.declared.network.Network.{Network}
use Rattle.class_frame.proofs.GroupingLaws.{label-lt-classes_of, length-order}
use Rattle.pack_model.proofs.ItemFacts.{members_within, small_items}
use Rattle.pack_model.proofs.Laws.{tests}
use Rattle.pack_model.specs.Problem.{Parts, IsProblem, IsSorted}
use Rattle.class_frame.specs.Grouping.{class_of, IsOrder}
use Rattle.class_frame.specs.Legal.{IsLegal}
use Rattle.class_frame.specs.declared.sums.Sums.{Sums}
use Rattle.matrix_layout.specs.declared.frame.Frame.{Frame}
use Rattle.class_frame.specs.Sums.{AreSums, IsSmall, sums_of}
use Rattle.class_frame.proofs.Used.{class_is_small}
use Rattle.matrix_layout.specs.ClassItems.{figures, items_at, numbers_of_class}
use Rattle.matrix_layout.specs.LaidOut.{FrameFigures, figures_of, rows_of_class, rows_of_items}
use Rattle.matrix_layout.proofs.ClassSteps.{class_numbers, rows_more}
use Rattle.matrix_layout.proofs.LaidRange.{few_frames}
use Rattle.matrix_layout.proofs.LaidSteps.{length_of_classes}
use Rattle.matrix_layout.proofs.layout.laid_rows.Goals as goal

pub items_by_class-requires-clause-few : goal.items_by_class-requires-clause-few
items_by_class-requires-clause-few c =
    omega (
      arith,
      c.requires.legal.grouping.each,
      (tests c.args.problem.now c.items-items.ensures.problem).few_items,
    )

pub items_by_class-requires-clause-below : goal.items_by_class-requires-clause-below
items_by_class-requires-clause-below c =
    λ k d lt. omega (
      arith,
      length-order c.args.labels.now c.args.order.now c.requires.order,
      label-lt-classes_of c.args.labels.now k lt,
      get_or_default c.args.labels.now k d 0 lt,
    )

pub overflow_cast-id : goal.overflow_cast-id
overflow_cast-id c =
    omega (
      arith,
      few_frames c.args.problem.now c.args.labels.now c.args.order.now
          c.items-items.ensures.problem c.items-items.ensures.sorted c.requires.legal c.requires.order,
    )

pub overflow_add-id : goal.overflow_add-id
overflow_add-id c =
    omega (
      arith,
      few_frames c.args.problem.now c.args.labels.now c.args.order.now c.items-items.ensures.problem
          c.items-items.ensures.sorted c.requires.legal c.requires.order,
      c.items-items.ensures.problem.network.first_id_high,
      ap (λ (n : Network). n.first_id) c.network-network.ensures.network,
    )

pub index-requires : goal.index-requires
index-requires c =
    omega (
      arith,
      length-order c.args.labels.now c.args.order.now c.requires.order,
      c.requires.order.only c.loop-number.number 0 (omega arith),
      length_of_classes c.in_ok-classes.classes.items (λ class. class.items)
          (numbers_of_class c.args.labels.now) (length c.args.order.now) c.in_ok-classes.ensures,
    )

pub class_sums-sums-requires-clause-each : goal.class_sums-sums-requires-clause-each
class_sums-sums-requires-clause-each c = c.requires.legal.grouping.each
    ∙ sym (ap length c.items-items.ensures.items)

pub class_sums-sums-requires-clause-few : goal.class_sums-sums-requires-clause-few
class_sums-sums-requires-clause-few c =
    omega (
      arith,
      ap length c.items-items.ensures.items,
      (tests c.args.problem.now c.items-items.ensures.problem).few_items,
    )

pub class_sums-sums-requires-clause-small : goal.class_sums-sums-requires-clause-small
class_sums-sums-requires-clause-small c =
    subst (All (λ (item : Item). item.bits ≤ 512)) (sym c.items-items.ensures.items)
    (small_items c.args.problem.now c.items-items.ensures.problem)

pub class_sums-sums-requires-clause-members : goal.class_sums-sums-requires-clause-members
class_sums-sums-requires-clause-members c =
    subst (All (λ (item : Item). All (λ place. place < length c.args.problem.now.signals) item.members))
    (sym c.items-items.ensures.items)
    (members_within c.args.problem.now.signals c.args.problem.now.items c.items-items.ensures.sorted)

pub class_sums-sums-requires-clause-low : goal.class_sums-sums-requires-clause-low
class_sums-sums-requires-clause-low c = λ k d lt.
    omega (
      arith,
      get_or_default c.args.labels.now k d 0 lt,
      label-lt-classes_of c.args.labels.now k lt,
      length-order c.args.labels.now c.args.order.now c.requires.order,
      few_frames c.args.problem.now c.args.labels.now c.args.order.now c.items-items.ensures.problem
          c.items-items.ensures.sorted c.requires.legal c.requires.order,
    )

module _ (problem : Parts) (labels order : List ℕ) (stands : IsProblem problem)
    (sorted : IsSorted problem.signals problem.items) (legal : IsLegal problem.items labels)
    (named : IsOrder labels order) (number : ℕ) (lt : number < length order) where
  -- the label at a place of the order
  abbrev label : ℕ
  label = get_or order number 0

  -- which is below 128
  low : get_or order number 0 < 128
  low =
      omega (
        arith,
        length-order labels order named,
        named.only number 0 lt,
        few_frames problem labels order stands sorted legal named,
      )

  -- the sums of a class are those of its items
  sums_are : (items : List Item) → items ≡ problem.items → (sums : List Sums)
      → ((k : ℕ) (d : Sums) → k < 128 → AreSums problem (class_of k labels items) (get_or sums k d))
      → (d : Sums) → AreSums problem (class_of label labels problem.items) (get_or sums label d)
  sums_are items same sums all d = all label d low
      ∙ ap (λ xs. sums_of problem (class_of label labels xs)) same

  -- and the frame of the sums is that of its items
  frame_is : (items : List Item) → items ≡ problem.items → (sums : List Sums)
      → ((k : ℕ) (d : Sums) → k < 128 → AreSums problem (class_of k labels items) (get_or sums k d))
      → (network : Network) → network ≡ problem.network → (frame : Frame) (d : Sums)
      → ((other : Parts) (own : List Item) → AreSums other own (get_or sums label d)
      → figures frame ≡ figures_of network (network.first_id + number) own)
      → figures frame ≡ figures_of problem.network (problem.network.first_id + number)
      (class_of label labels problem.items)
  frame_is items same sums all network is frame d of =
      of problem (class_of label labels problem.items) (sums_are items same sums all d)
      ∙ ap (λ (n : Network). figures_of n (n.first_id + number) (class_of label labels problem.items)) is

pub bounds-sums-label : goal.bounds-sums-label
bounds-sums-label c =
    low c.args.problem.now c.args.labels.now c.args.order.now c.items-items.ensures.problem
    c.items-items.ensures.sorted c.requires.legal c.requires.order c.loop-number.number (omega arith)

pub frame_of-frame-requires-clause-small : goal.frame_of-frame-requires-clause-small
frame_of-frame-requires-clause-small c =
    subst IsSmall
    (sym (sums_are c.args.problem.now c.args.labels.now c.args.order.now c.items-items.ensures.problem
    c.items-items.ensures.sorted c.requires.legal c.requires.order c.loop-number.number
    (omega arith) c.items-items.result.now c.items-items.ensures.items c.class_sums-sums.result
    c.class_sums-sums.ensures _))
    (class_is_small c.args.problem.now c.args.problem.now.items c.args.labels.now
    (get_or c.args.order.now c.loop-number.number 0)
    (tests c.args.problem.now c.items-items.ensures.problem).few_items
    (small_items c.args.problem.now c.items-items.ensures.problem))

pub add_frame-requires-clause-inside : goal.add_frame-requires-clause-inside
add_frame-requires-clause-inside c =
    (class_numbers c.args.problem.now c.args.labels.now c.args.order.now c.in_ok-classes.classes.items
    (λ class. class.items) c.loop-number.number c.index.result.now c.as_slice-class.result.now
    c.requires.legal c.requires.order c.in_ok-classes.ensures
    (omega arith) c.index.ensures c.as_slice-class.ensures.value).inside

pub add_frame-requires-clause-class : goal.add_frame-requires-clause-class
add_frame-requires-clause-class c =
    (class_numbers c.args.problem.now c.args.labels.now c.args.order.now c.in_ok-classes.classes.items
    (λ class. class.items) c.loop-number.number c.index.result.now c.as_slice-class.result.now
    c.requires.legal c.requires.order c.in_ok-classes.ensures
    (omega arith) c.index.ensures c.as_slice-class.ensures.value).stands

pub add_frame-requires-clause-frame : goal.add_frame-requires-clause-frame
add_frame-requires-clause-frame c =
    let class =
    class_numbers c.args.problem.now c.args.labels.now c.args.order.now c.in_ok-classes.classes.items
    (λ class. class.items) c.loop-number.number c.index.result.now c.as_slice-class.result.now
    c.requires.legal c.requires.order c.in_ok-classes.ensures
    (omega arith) c.index.ensures c.as_slice-class.ensures.value in
    let is : figures c.frame_of-frame.result
    ≡ figures_of c.args.problem.now.network (c.args.problem.now.network.first_id + c.loop-number.number)
    (class_of (get_or c.args.order.now c.loop-number.number 0) c.args.labels.now
    c.args.problem.now.items) =
    frame_is c.args.problem.now c.args.labels.now c.args.order.now c.items-items.ensures.problem
    c.items-items.ensures.sorted c.requires.legal c.requires.order c.loop-number.number
    (omega arith) c.items-items.result.now c.items-items.ensures.items c.class_sums-sums.result
    c.class_sums-sums.ensures c.network-network.result.now c.network-network.ensures.network
    c.frame_of-frame.result _ c.frame_of-frame.ensures in
    is ∙ ap (λ id. figures_of c.args.problem.now.network id
    (class_of (get_or c.args.order.now c.loop-number.number 0) c.args.labels.now
    c.args.problem.now.items)) (sym (ap (λ (f : FrameFigures). f.id) is))
    ∙ ap (figures_of c.args.problem.now.network c.frame_of-frame.result.id) (sym class.is)

pub loop-number-preserved : goal.loop-number-preserved
loop-number-preserved c =
    let class =
    class_numbers c.args.problem.now c.args.labels.now c.args.order.now c.in_ok-classes.classes.items
    (λ class. class.items) c.loop-number.number c.index.result.now c.as_slice-class.result.now
    c.requires.legal c.requires.order c.in_ok-classes.ensures
    (omega arith) c.index.ensures c.as_slice-class.ensures.value in
    let is : figures c.frame_of-frame.result
    ≡ figures_of c.args.problem.now.network (c.args.problem.now.network.first_id + c.loop-number.number)
    (class_of (get_or c.args.order.now c.loop-number.number 0) c.args.labels.now
    c.args.problem.now.items) =
    frame_is c.args.problem.now c.args.labels.now c.args.order.now c.items-items.ensures.problem
    c.items-items.ensures.sorted c.requires.legal c.requires.order c.loop-number.number
    (omega arith) c.items-items.result.now c.items-items.ensures.items c.class_sums-sums.result
    c.class_sums-sums.ensures c.network-network.result.now c.network-network.ensures.network
    c.frame_of-frame.result _ c.frame_of-frame.ensures in
    c.in_ok-add_frame.ensures
    ∙ ap (λ rows. rows ++ rows_of_items c.args.problem.now.network c.frame_of-frame.result.id
    c.args.problem.now.signals (items_at c.args.problem.now.items c.as_slice-class.result.now))
    c.loop-number.invariant
    ∙ ap (λ rows. flat_map (rows_of_class c.args.problem.now c.args.labels.now)
    (take c.loop-number.number (enumerate_from 0 c.args.order.now)) ++ rows)
    (ap (λ n. rows_of_items c.args.problem.now.network n c.args.problem.now.signals
    (items_at c.args.problem.now.items c.as_slice-class.result.now)) (ap (λ (f : FrameFigures). f.id) is)
    ∙ ap (rows_of_items c.args.problem.now.network
    (c.args.problem.now.network.first_id + c.loop-number.number) c.args.problem.now.signals) class.is)
    ∙ sym (rows_more c.args.problem.now c.args.labels.now c.args.order.now c.loop-number.number (omega arith))

-- the loop went over the whole order
pub returns-clause-rows : goal.returns-clause-rows
returns-clause-rows c = c.loop-number.invariant
    ∙ ap (flat_map (rows_of_class c.args.problem.now c.args.labels.now))
    (take_all c.loop-number.number (enumerate_from 0 c.args.order.now)
    (simp length-enumerate_from (omega arith)))
