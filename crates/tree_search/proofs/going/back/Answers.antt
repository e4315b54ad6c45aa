use Rattle.std.proofs.Common.{◌≤◌, ◌-◌, [], ◌∷◌, length, get_or, ap, ◌∙◌, arith, length-append}
use Rattle.grouping_tree.specs.Grouped.{labels_of, range_of}
use Rattle.grouping_tree.proofs.Used.{last_low}
use Rattle.grouping_tree.proofs.Walks.{last-is}
use Rattle.tree_search.proofs.Goings.{back-places}
use Rattle.tree_search.proofs.going.back.Goals as goal

pub overflow_add-result : goal.overflow_add-result
overflow_add-result c =
    let (l, is) = c.take_back.ensures.labels in
    let p = c.args.partial.now in
    let q = labels_of c.take_back.new.self in
    let last = ap (λ xs. get_or xs (length xs - 1) 0) c.labels-labels.ensures ∙ last-is (labels_of p) q l is in
    omega (arith, last, last_low c.args.problem.now p q l c.requires.belongs is)

pub returns-clause-places : goal.returns-clause-places
returns-clause-places c =
    let (l, is) = c.take_back.ensures.labels in
    let p = c.args.partial.now in
    let q = labels_of c.take_back.new.self in
    let before = c.labels-labels.result.now in
    let last = ap (λ xs. get_or xs (length xs - 1) 0) c.labels-labels.ensures ∙ last-is (labels_of p) q l is in
    let le : c.args.base ≤ length q =
    omega (
      arith,
      c.if-labels-base.false,
      c.requires.below,
      ap length c.labels-labels.ensures,
      ap length is,
      length-append q (l ∷ []),
    ) in
    back-places (range_of c.args.problem.now p) c.args.base (labels_of p) q l (get_or before (length before - 1) 0)
    is last le
