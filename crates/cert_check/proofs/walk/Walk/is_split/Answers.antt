use Rattle.std.proofs.Common.{◌≡◌, length, ap, sym, ◌∙◌, arith, eqb-true, true≢false}
use Rattle.std.proofs.lemmas.Bool.{eq-eqb}
use Rattle.grouping_tree.specs.Grouped.{range_of}
use Rattle.grouping_tree.specs.Partial.{options_of}
use Rattle.cert_check.specs.Places.{labels_at}
use Rattle.cert_check.specs.Walk.{items_of}
use Rattle.cert_check.proofs.Nexts.{is_left, range_is, some_options}
use Rattle.cert_check.proofs.PlaceSteps.{all_put}
use Rattle.cert_check.proofs.walk.Walk.is_split.Goals as goal

pub returns-then-subtrees-eq0 : goal.returns-then-subtrees-eq0
returns-then-subtrees-eq0 c = (
  λ e. absurd (true≢false (sym e)),
  λ split.
      let some = some_options c.args.problem.now c.args.self.now c.requires.walks split.0 in
      absurd (omega (arith, some, split.1, c.if-subtrees-eq0.true)),
)

pub returns : goal.returns
returns c =
    let problem = c.args.problem.now in
    let walk = c.args.self.now in
    let place = labels_at walk.place in
    let options : c.options.result ≡ length (options_of (items_of problem walk) place) =
    c.options.ensures
    ∙ ap (λ p. length (options_of (range_of problem walk.place.partial) p)) (sym (all_put walk.place c.requires.put))
    ∙ ap (λ items. length (options_of items place)) (range_is problem walk c.requires.walks) in (
      λ e.
          let same : c.args.subtrees ≡ c.options.result = eqb-true c.args.subtrees c.options.result e in (
            is_left (items_of problem walk) place (omega (arith, same, options, c.if-subtrees-eq0.false)),
            same ∙ options,
          ),
      λ split. eq-eqb c.args.subtrees c.options.result (split.1 ∙ sym options),
    )
