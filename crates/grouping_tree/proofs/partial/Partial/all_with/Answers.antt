use Rattle.std.proofs.Common.{◌++◌, ◌∷◌, [], arith}
use Rattle.class_frame.specs.Grouping.{class_of}
use Rattle.grouping_tree.specs.Grouped.{items_with, labels_of, range_of}
use Rattle.grouping_tree.proofs.Used.{load_put, low_room, put_room, slack_put}
use Rattle.grouping_tree.proofs.partial.Partial.all_with.Goals as goal

pub kept_of-before-requires : goal.kept_of-before-requires
kept_of-before-requires c =
    let (problem, b, next, legal, own) = c.requires in
    let (some, low) = put_room problem c.args.self.now c.args.label b legal in
    record { belongs = (problem, b); low = low_room problem c.args.self.now c.args.label b some low }

pub overflow_sub-other_loads : goal.overflow_sub-other_loads
overflow_sub-other_loads c =
    let (problem, b, next, legal, own) = c.requires in
    let p = c.args.self.now in
    let loads = load_put problem p c.args.label c.args.next.now b next (put_room problem p c.args.label b legal).1 in
    omega (arith, loads.0, b.load, c.load.ensures problem (items_with problem p c.args.label) (c.kept_of-before.ensures problem b))

pub slacks_beside-requires : goal.slacks_beside-requires
slacks_beside-requires c =
    let (problem, b, next, legal, own) = c.requires in
    (problem, b, next)

pub overflow_sub-other_slacks : goal.overflow_sub-other_slacks
overflow_sub-other_slacks c =
    let (problem, b, next, legal, own) = c.requires in
    let p = c.args.self.now in
    let slacks =
    slack_put problem p c.args.label c.args.next.now b next (put_room problem p c.args.label b legal).1
    (legal.classes c.args.label) in
    omega (
      arith,
      slacks.0,
      c.slacks_beside.ensures problem b next,
      c.slack.ensures problem (items_with problem p c.args.label) (c.kept_of-before.ensures problem b),
    )

pub overflow_add-result : goal.overflow_add-result
overflow_add-result c =
    let (problem, b, next, legal, own) = c.requires in
    let p = c.args.self.now in
    let loads = load_put problem p c.args.label c.args.next.now b next (put_room problem p c.args.label b legal).1 in
    omega (
      arith,
      loads.1,
      loads.2,
      b.load,
      c.load-2.ensures problem
          (class_of c.args.label (labels_of p ++ c.args.label ∷ []) (range_of problem p)) own,
    )

pub overflow_add-result-2 : goal.overflow_add-result-2
overflow_add-result-2 c =
    let (problem, b, next, legal, own) = c.requires in
    let p = c.args.self.now in
    let slacks =
    slack_put problem p c.args.label c.args.next.now b next (put_room problem p c.args.label b legal).1
    (legal.classes c.args.label) in
    omega (
      arith,
      slacks.1,
      slacks.2,
      c.slacks_beside.ensures problem b next,
      c.slack-2.ensures problem
          (class_of c.args.label (labels_of p ++ c.args.label ∷ []) (range_of problem p)) own,
    )

pub returns-clause-load : goal.returns-clause-load
returns-clause-load c = λ problem b next legal own.
    let p = c.args.self.now in
    let loads = load_put problem p c.args.label c.args.next.now b next (put_room problem p c.args.label b legal).1 in
    let old = c.load.ensures problem (items_with problem p c.args.label) (c.kept_of-before.ensures problem b) in
    let new = c.load-2.ensures problem (class_of c.args.label (labels_of p ++ c.args.label ∷ []) (range_of problem p)) own in
    omega (arith, loads.0, loads.3, b.load, old, new)

pub returns-clause-slack : goal.returns-clause-slack
returns-clause-slack c = λ problem b next legal own.
    let p = c.args.self.now in
    let slacks =
    slack_put problem p c.args.label c.args.next.now b next (put_room problem p c.args.label b legal).1
    (legal.classes c.args.label) in
    let old = c.slack.ensures problem (items_with problem p c.args.label) (c.kept_of-before.ensures problem b) in
    let new = c.slack-2.ensures problem (class_of c.args.label (labels_of p ++ c.args.label ∷ []) (range_of problem p)) own in
    omega (arith, slacks.0, slacks.3, c.slacks_beside.ensures problem b next, old, new)
