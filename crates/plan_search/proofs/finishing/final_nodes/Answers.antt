use Rattle.std.proofs.Common.{◌≡◌, ◌*◌, List, ℕ, Some, None, map, false, sym, ap, ◌∙◌}
use Rattle.cert_text.specs.PlainTree.{plain_lemma}
use Rattle.bandwidth_bound.specs.Lemmas.{values_of}
use Rattle.tree_search.specs.Flat.{flat}
use Rattle.plan_search.specs.Ending.{final_tree}
use Rattle.plan_search.specs.Searches.{trimmed}
use Rattle.plan_search.proofs.finishing.final_nodes.Goals as goal

pub returns-in_ok-kept-in-Some : goal.returns-in_ok-kept-in-Some
returns-in_ok-kept-in-Some c = λ t is options.
    let values : List ℕ = values_of c.args.problem.now (map plain_lemma c.args.lemmas.now) in
    let same : c.as_slice.result.now ≡ values = c.as_slice.ensures ∙ c.in_ok-values-in-Some.ensures in
    let closed : c.args.is_open ≡ false = c.if-not-is_open.true in
    ap (λ best. flat (final_tree c.args.problem.now values best c.args.is_open t)) c.in-Some.is
    ∙ ap (λ o. flat (final_tree c.args.problem.now values (Some c.in-Some.load) o t)) closed
    ∙ ap (λ vs. flat (trimmed c.args.problem.now None vs (8 * c.in-Some.load) t)) (sym same)
    ∙ c.in_ok-kept-in-Some.ensures t is options
