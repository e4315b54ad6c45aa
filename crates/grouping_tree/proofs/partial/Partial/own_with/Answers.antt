use Rattle.std.proofs.Common.{◌++◌, ◌∷◌, [], ap, ◌∙◌, arith}
use Rattle.class_frame.specs.Frame.{bytes_of_items}
use Rattle.class_frame.specs.Grouping.{class_of}
use Rattle.grouping_tree.specs.Grouped.{IsUsed, labels_of, range_of}
use Rattle.grouping_tree.specs.declared.class.Fill.{Fill}
use Rattle.grouping_tree.proofs.After.{bytes_low, long_is, long_low, put_new, put_used}
use Rattle.grouping_tree.proofs.Used.{low_room, next_fill, next_small, put_room}
use Rattle.grouping_tree.proofs.partial.Partial.own_with.Goals as goal

pub returns-then-label-self : goal.returns-then-label-self
returns-then-label-self c = λ problem b is legal.
    put_new problem c.args.self.now c.args.label c.args.next.now b is c.if-label-self.true

pub kept_of-before-requires-clause-low : goal.kept_of-before-requires-clause-low
kept_of-before-requires-clause-low c =
    let (problem, b, is, legal) = c.requires in
    let (some, low) = put_room problem c.args.self.now c.args.label b legal in
    low_room problem c.args.self.now c.args.label b some low

pub join-fill-requires-clause-pdus : goal.join-fill-requires-clause-pdus
join-fill-requires-clause-pdus c =
    let (problem, b, is, legal) = c.requires in
    (next_small problem c.args.self.now c.args.label c.args.next.now c.kept_of-before.result.now.fill b is (c.kept_of-before.ensures problem b).fill).0

pub join-fill-requires-clause-weight : goal.join-fill-requires-clause-weight
join-fill-requires-clause-weight c =
    let (problem, b, is, legal) = c.requires in
    (next_small problem c.args.self.now c.args.label c.args.next.now c.kept_of-before.result.now.fill b is (c.kept_of-before.ensures problem b).fill).1

pub frame_bytes-requires : goal.frame_bytes-requires
frame_bytes-requires c =
    let (problem, b, is, legal) = c.requires in
    let small = next_small problem c.args.self.now c.args.label c.args.next.now c.kept_of-before.result.now.fill b is (c.kept_of-before.ensures problem b).fill in
    omega (arith, small.0, ap (λ (f : Fill). f.pdus) c.join-fill.ensures)

pub index-long-requires : goal.index-long-requires
index-long-requires c =
    let (problem, b, is, legal) = c.requires in
    let p = c.args.self.now in
    let label = c.args.label in
    let bytes =
    c.frame_bytes.ensures problem (class_of label (labels_of p ++ label ∷ []) (range_of problem p))
    (c.join-fill.ensures
    ∙ next_fill problem p label c.args.next.now c.kept_of-before.result.now.fill b is (c.kept_of-before.ensures problem b).fill)
    (legal.classes label).one_kind in
    omega (arith, b.sizes_room, bytes_low problem p label c.frame_bytes.result legal bytes)

pub join-requires-clause-size : goal.join-requires-clause-size
join-requires-clause-size c =
    let (problem, b, is, legal) = c.requires in
    let p = c.args.self.now in
    let label = c.args.label in
    let items = class_of label (labels_of p ++ label ∷ []) (range_of problem p) in
    let bytes =
    c.frame_bytes.ensures problem items
    (c.join-fill.ensures
    ∙ next_fill problem p label c.args.next.now c.kept_of-before.result.now.fill b is (c.kept_of-before.ensures problem b).fill)
    (legal.classes label).one_kind in
    long_low problem.network (bytes_of_items items) c.index-long.result.now
    (long_is problem p label c.frame_bytes.result c.index-long.result.now b legal bytes c.index-long.ensures)

pub returns : goal.returns
returns c = λ problem b is legal.
    let p = c.args.self.now in
    let label = c.args.label in
    let next = c.args.next.now in
    let before = c.kept_of-before.ensures problem b in
    let items = class_of label (labels_of p ++ label ∷ []) (range_of problem p) in
    let bytes =
    c.frame_bytes.ensures problem items
    (c.join-fill.ensures ∙ next_fill problem p label next c.kept_of-before.result.now.fill b is before.fill)
    (legal.classes label).one_kind in
    let long =
    long_is problem p label c.frame_bytes.result c.index-long.result.now b legal bytes c.index-long.ensures in
    let used : IsUsed p label =
    omega (arith, (put_room problem p label b legal).1, b.classes, c.if-label-self.false) in
    put_used problem p label next c.kept_of-before.result.now c.join.result c.join-fill.result c.index-long.result.now
    b is used legal before c.join-fill.ensures long
    (λ others item some one both first second same sized.
    c.join.ensures problem others item b.stands b.network some one both first second same sized)
