use Rattle.std.proofs.Common.{◌≡◌, length, sym, ap, subst, ◌∙◌, arith}
use Rattle.grouping_tree.specs.Grouped.{labels_of, range_of}
use Rattle.bandwidth_bound.specs.Floors.{IsRest}
use Rattle.bandwidth_bound.proofs.Loads.{kept_fits}
use Rattle.bandwidth_bound.proofs.bounds.lower8.Goals as goal

pub loop-place-init : goal.loop-place-init
loop-place-init c =
    let problem = c.args.problem.now in
    record {
      least =
          omega (
            arith,
            ap length c.labels-placed.ensures,
            ap length (c.items_of-items.ensures.items ∙ sym (c.range.ensures.items problem c.requires)),
            c.requires.legal.within,
          );
      rest = c.none-rest.ensures problem c.args.lemmas.now c.items_of-items.result.now c.requires.stands
          (c.range.result, c.items_of-items.ensures.items);
    }

pub loop-place-preserved : goal.loop-place-preserved
loop-place-preserved c = record { least = omega (arith, c.loop-place-test.true); rest = c.with_item-rest.ensures }

pub kept_load-requires : goal.kept_load-requires
kept_load-requires c = (c.args.problem.now, c.requires)

pub kept_slack-requires : goal.kept_slack-requires
kept_slack-requires c = (c.args.problem.now, c.requires)

pub lower8-requires : goal.lower8-requires
lower8-requires c =
    omega (
      arith,
      c.kept_load.ensures c.args.problem.now c.requires,
      kept_fits c.args.problem.now c.args.partial.now c.requires,
    )

pub returns : goal.returns
returns c =
    let problem = c.args.problem.now in
    let partial = c.args.partial.now in
    let same : c.items_of-items.result.now ≡ range_of problem partial =
    c.items_of-items.ensures.items ∙ sym (c.range.ensures.items problem c.requires) in
    let all : c.loop-place.place ≡ length (labels_of partial) =
    omega (arith, c.loop-place-test.false, c.loop-place.invariant.least, ap length c.labels-placed.ensures) in
    c.lower8.ensures problem c.args.lemmas.now (range_of problem partial) (labels_of partial)
    (c.kept_load.ensures problem c.requires) (c.kept_slack.ensures problem c.requires)
    (subst (λ n. IsRest problem c.args.lemmas.now (range_of problem partial) n c.loop-place.rest) all
    (subst (λ zs. IsRest problem c.args.lemmas.now zs c.loop-place.place c.loop-place.rest) same
    c.loop-place.invariant.rest))
