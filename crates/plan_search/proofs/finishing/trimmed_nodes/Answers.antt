use Rattle.std.proofs.Common.{◌≡◌, List, [], None, sym, ap, ◌∙◌, subst}
use Rattle.pack_model.specs.declared.item.Item.{Item}
use Rattle.grouping_tree.specs.Grouped.{labels_of, range_of}
use Rattle.tree_search.specs.Flat.{flat}
use Rattle.tree_search.specs.Open.{HasOptions}
use Rattle.search_judge.proofs.Places.{judges_over}
use Rattle.plan_search.proofs.SearchEnds.{trims_same}
use Rattle.plan_search.proofs.finishing.trimmed_nodes.Goals as goal

pub trim-requires-clause-suits : goal.trim-requires-clause-suits
trim-requires-clause-suits c =
    judges_over c.args.problem.now None c.args.values.now (range_of c.args.problem.now c.in_ok-partial.partial)
    c.in_ok-judge.judge c.in_ok-judge.ensures.is c.in_ok-partial.ensures.range

pub returns : goal.returns
returns c = λ t is options.
    let items : range_of c.args.problem.now c.in_ok-partial.partial ≡ c.args.problem.now.items =
    c.in_ok-partial.ensures.range in
    let empty : labels_of c.in_ok-partial.partial ≡ [] = c.in_ok-partial.ensures.none in
    ap flat (sym (trims_same c.args.problem.now c.args.values.now c.in_ok-judge.judge.values.items
    (range_of c.args.problem.now c.in_ok-partial.partial)
    (labels_of c.in_ok-partial.partial) c.args.load t items empty
    c.in_ok-judge.ensures.is.values_are))
    ∙ c.in_ok-kept.ensures.trimmed t is
    (subst (λ (xs : List Item). HasOptions xs (labels_of c.in_ok-partial.partial) t) (sym items)
    (subst (λ p. HasOptions c.args.problem.now.items p t) (sym empty) options))
