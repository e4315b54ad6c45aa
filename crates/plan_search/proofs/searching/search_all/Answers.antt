use Rattle.std.proofs.Common.{◌≡◌, ℕ, ◌*◌, ◌<◌, ◌^◌, List, [], map, None, IfSome, refl, sym, ap, ◌∙◌, subst, arith}
use Rattle.pack_model.specs.declared.item.Item.{Item}
use Rattle.pack_model.specs.Problem.{Parts}
use Rattle.cert_text.specs.Trees.{left}
use Rattle.bandwidth_bound.specs.Prices.{lower8_of}
use Rattle.bandwidth_bound.specs.Trees.{open_places}
use Rattle.search_judge.specs.Findings.{Finds}
use Rattle.search_judge.proofs.Places.{judges_over, taken_at}
use Rattle.tree_search.specs.declared.search.Search.{Search}
use Rattle.tree_search.specs.Open.{least_of}
use Rattle.tree_search.specs.Shown.{items_of, start_of}
use Rattle.tree_search.specs.Step.{Steps}
use Rattle.plan_search.specs.Ending.{final_tree}
use Rattle.plan_search.specs.Plan.{last_found, load_found}
use Rattle.plan_search.specs.Searches.{begun_with}
use Rattle.plan_search.proofs.SearchEnds.{final_same, found_fits, last_best, last_stands, nodes_at, search_ends, steps_from}
use Rattle.plan_search.proofs.searching.search_all.Goals as goal

pub advance-requires-clause-suits : goal.advance-requires-clause-suits
advance-requires-clause-suits c =
    judges_over c.args.problem.now None c.args.values.now (items_of c.args.problem.now c.new-search.result)
    c.in_ok-judge.judge c.in_ok-judge.ensures.is (c.new-search.ensures.items ∙ c.in_ok-partial.ensures.range)

pub final_tree-requires-clause-suits : goal.final_tree-requires-clause-suits
final_tree-requires-clause-suits c =
    c.in_ok-advance.ensures.suits c.args.problem.now c.args.problem.now.items
    (judges_over c.args.problem.now None c.args.values.now c.args.problem.now.items c.in_ok-judge.judge
    c.in_ok-judge.ensures.is refl)

pub final_tree-requires-clause-tree : goal.final_tree-requires-clause-tree
final_tree-requires-clause-tree c =
    let step = c.in_ok-advance.ensures.gives (record {
      tree = left;
      best = c.load_found.result;
      found =
          None;
    })
    c.new-search.ensures.at in (
      record step.0 { found = None },
      taken_at c.args.problem.now c.advance.new.self c.take_found.new.self step.0 c.take_found.ensures.rest
          step.2,
    )

pub final_tree-requires-clause-low : goal.final_tree-requires-clause-low
final_tree-requires-clause-low c =
    let step = c.in_ok-advance.ensures.gives (record {
      tree = left;
      best = c.load_found.result;
      found =
          None;
    })
    c.new-search.ensures.at in
    let steps : Steps (Finds c.args.problem.now None c.args.values.now) c.args.problem.now.items []
    c.in_ok-advance.field-0
    (begun_with (load_found c.args.first)) step.0 =
    steps_from c.args.problem.now c.args.values.now (items_of c.args.problem.now c.new-search.result)
    (start_of c.new-search.result) c.in_ok-judge.judge
    (load_found c.args.first) c.load_found.result c.in_ok-advance.field-0 step.0
    c.in_ok-judge.ensures.is (c.new-search.ensures.items ∙ c.in_ok-partial.ensures.range)
    (c.new-search.ensures.start ∙ c.in_ok-partial.ensures.none) c.load_found.ensures step.1 in
    let best : load_found (last_found c.advance.new.self.found c.args.first) ≡ c.take_found.new.self.best =
    last_best c.args.problem.now c.problem_stands.ensures.problem
    c.args.values.now c.args.first c.requires c.args.left c.in_ok-advance.field-0 c.advance.new.self step.0
    steps step.2
    ∙ ap (λ (s : Search). s.best) (sym c.take_found.ensures.rest) in
    subst (λ b. IfSome b (λ load. 8 * load < 2 ^ 128)) best
    (found_fits c.args.problem.now c.problem_stands.ensures.problem
    (last_found c.advance.new.self.found c.args.first)
    (last_stands c.args.problem.now c.problem_stands.ensures.problem
    c.args.values.now c.args.first c.requires c.args.left c.in_ok-advance.field-0 c.advance.new.self step.0
    steps step.2))

pub returns : goal.returns
returns c =
    let step = c.in_ok-advance.ensures.gives (record {
      tree = left;
      best = c.load_found.result;
      found =
          None;
    })
    c.new-search.ensures.at in
    let steps : Steps (Finds c.args.problem.now None c.args.values.now) c.args.problem.now.items []
    c.in_ok-advance.field-0
    (begun_with (load_found c.args.first)) step.0 =
    steps_from c.args.problem.now c.args.values.now (items_of c.args.problem.now c.new-search.result)
    (start_of c.new-search.result) c.in_ok-judge.judge
    (load_found c.args.first) c.load_found.result c.in_ok-advance.field-0 step.0
    c.in_ok-judge.ensures.is (c.new-search.ensures.items ∙ c.in_ok-partial.ensures.range)
    (c.new-search.ensures.start ∙ c.in_ok-partial.ensures.none) c.load_found.ensures step.1 in
    let rest : c.take_found.new.self ≡ record c.advance.new.self { found = None } =
    c.take_found.ensures.rest in
    let bounds : lower8_of c.args.problem.now c.advance.new.judge.values.items c.args.problem.now.items
    ≡ lower8_of c.args.problem.now c.args.values.now c.args.problem.now.items =
    ap (λ (f : Parts → List Item → List ℕ → ℕ). f c.args.problem.now c.args.problem.now.items)
    c.in_ok-advance.ensures.bounds
    ∙ ap (λ vs. lower8_of c.args.problem.now vs c.args.problem.now.items) c.in_ok-judge.ensures.is.values_are
    in
    search_ends c.args.problem.now c.problem_stands.ensures.problem
    c.args.values.now c.args.first c.requires c.args.left c.in_ok-advance.field-0 c.advance.new.self step.0
    steps step.2
    (record {
      best = c.last_found-best.result;
      is_open = c.pending-is_open.result;
      tree =
          c.in_ok-tree.field-0.tree;
      least = c.in_ok-tree.field-0.least;
    })
    c.in_ok-advance.ensures.within c.in_ok-advance.ensures.fewer
    (omega (
      arith,
      c.in_ok-advance.ensures.count,
      nodes_at c.args.problem.now c.new-search.result
          (record { tree = left; best = c.load_found.result; found = None }) c.new-search.ensures.at,
    ))
    (c.last_found-best.ensures ∙ ap (λ found. last_found found c.args.first) c.take_found.ensures.found)
    (c.pending-is_open.ensures ∙ ap (λ (s : Search). s.open) rest)
    (c.in_ok-tree.ensures.tree (record step.0 { found = None })
    (taken_at c.args.problem.now c.advance.new.self c.take_found.new.self step.0 rest step.2)
    ∙ ap (λ (s : Search). final_tree c.args.problem.now c.advance.new.judge.values.items s.best s.open
    step.0.tree) rest
    ∙ final_same c.args.problem.now c.advance.new.judge.values.items c.args.values.now c.advance.new.self.best
    c.advance.new.self.open step.0.tree
    bounds)
    (c.in_ok-tree.ensures.least (record step.0 { found = None })
    (taken_at c.args.problem.now c.advance.new.self c.take_found.new.self step.0 rest step.2)
    ∙ ap (λ (lower8 : List ℕ → ℕ). least_of (map lower8
    (open_places c.args.problem.now.items [] step.0.tree)))
    bounds)
