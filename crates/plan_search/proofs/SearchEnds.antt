-- What a search over all items ends with, from what the search holds.
use Rattle.std.proofs.Common.{◌≡◌, ℕ, ◌*◌, ◌<◌, ◌≤◌, ◌^◌, List, [], length, map, Bool, true, false, Option, None, Some, IfSome, refl, sym, ap, ◌∙◌, subst, arith}
use Rattle.std.proofs.lemmas.List.Elements.{All-contains_itself}
use Rattle.pack_model.specs.declared.item.Item.{Item}
use Rattle.pack_model.specs.Problem.{Parts, IsProblem}
use Rattle.pack_model.proofs.Laws.{tests}
use Rattle.cert_text.specs.PlainTree.{plain_of}
use Rattle.cert_text.specs.Trees.{Plain}
use Rattle.grouping_tree.specs.Grouped.{items_in, labels_of}
use Rattle.grouping_tree.proofs.Fronts.{legal-partial}
use Rattle.bandwidth_bound.specs.Goals.{main_goal}
use Rattle.bandwidth_bound.proofs.Loads.{loads_fit}
use Rattle.bandwidth_bound.specs.Prices.{lower8_of}
use Rattle.bandwidth_bound.specs.Trees.{TreeStands, open_places}
use Rattle.search_judge.specs.Findings.{Finds, FoundStands}
use Rattle.search_judge.specs.declared.judge.SearchJudge.{SearchJudge}
use Rattle.search_judge.specs.Judges.{IsJudge, JudgesOver}
use Rattle.search_judge.proofs.Places.{open_at, steps_over}
use Rattle.tree_search.specs.declared.finding.Found.{Found}
use Rattle.tree_search.specs.declared.search.Search.{Search}
use Rattle.tree_search.specs.Open.{least_of, nodes_of}
use Rattle.tree_search.specs.Shown.{IsAt, agenda, items_of, start_of}
use Rattle.tree_search.specs.Step.{Searched, Steps}
use Rattle.tree_search.specs.Trim.{reaches, trim}
use Rattle.tree_search.proofs.Counts.{nodes_of-shown}
use Rattle.plan_search.specs.declared.searching.Ended.{Ended}
use Rattle.plan_search.specs.Ending.{IsEnded, final_tree}
use Rattle.plan_search.specs.Plan.{last_found, load_found}
use Rattle.plan_search.specs.Searches.{begun_with, trimmed}
use Rattle.plan_search.proofs.SearchLaws.{IsAlong, begins_along, steps_along}

-- the load of what was found fits in eighths
pub found_fits : (problem : Parts) → IsProblem problem → (found : Option Found)
    → IfSome found (FoundStands problem) → IfSome (load_found found) (λ load. 8 * load < 2 ^ 128)
found_fits problem stands None is = tt
found_fits problem stands (Some found) is =
    let low = loads_fit problem stands problem.items (All-contains_itself problem.items) found.labels
    (legal-partial problem.items found.labels is.legal)
    (omega (arith, is.legal.grouping.each, (tests problem stands).few_items)) in
    rw is.load_is low

module _ (problem : Parts) (stands : IsProblem problem) (values : List ℕ) (first : Option Found)
    (is : IfSome first (FoundStands problem)) (left made : ℕ) (search : Search) (y : Searched)
    (steps : Steps (Finds problem None values) problem.items [] made (begun_with (load_found first)) y)
    (at : IsAt problem search y) where
  along : IsAlong problem stands values first y
  along =
      steps_along problem stands values first made (begun_with (load_found first)) y steps
      (begins_along problem stands values first is)

  -- what was found last stands, and is the best
  last_is : last_found search.found first ≡ last_found y.found first
  last_is = ap (λ found. last_found found first) (sym at.found)

  pub last_stands : IfSome (last_found search.found first) (FoundStands problem)
  last_stands = subst (λ b. IfSome b (FoundStands problem)) (sym last_is) along.found

  pub last_best : load_found (last_found search.found first) ≡ search.best
  last_best = ap load_found last_is ∙ along.best ∙ at.best

  -- what the search ends with
  pub search_ends : (ended : Ended) → made ≤ left → (made < left → search.open ≡ false)
      → length search.nodes.items ≡ made
      → ended.best ≡ last_found search.found first → ended.is_open ≡ search.open
      → plain_of ended.tree ≡ final_tree problem values search.best search.open y.tree
      → ended.least ≡ least_of (map (lower8_of problem values problem.items)
      (open_places problem.items [] y.tree))
      → IsEnded problem values first left ended
  search_ends ended within fewer nodes best opened tree lowest = record {
    end = y;
    search = record {
      made = made;
      steps = steps;
      within = within;
      fewer = λ less. open_at problem search y at ∙ fewer less;
    };
    best_is = best ∙ last_is;
    found = subst (λ b. IfSome b (FoundStands problem)) (sym best) last_stands;
    stands = subst (λ b. TreeStands (main_goal problem values b true) [] y.tree)
        (sym (ap load_found (best ∙ last_is) ∙ along.best)) along.tree;
    is_open = open_at problem search y at ∙ sym opened;
    tree = tree ∙ ap (λ b. final_tree problem values b search.open y.tree)
        (sym (ap load_found best ∙ last_best)) ∙ ap (λ o. final_tree problem values
        (load_found ended.best) o y.tree)
        (sym opened);
    nodes = nodes_of-shown (items_of problem search) (start_of search) search.nodes.items
        (agenda (items_of problem search) search.base (labels_of search.partial) search.open) y.tree at.shows
        ∙ nodes;
    least = lowest;
  }

-- the final tree is one where the bound is
pub final_same : (problem : Parts) (values others : List ℕ) (best : Option ℕ) (is_open : Bool) (t : Plain)
    → lower8_of problem values problem.items ≡ lower8_of problem others problem.items
    → final_tree problem values best is_open t ≡ final_tree problem others best is_open t
final_same problem values others None is_open t same = refl
final_same problem values others (Some load) true t same = refl
final_same problem values others (Some load) false t same =
    ap (λ (lower8 : List ℕ → ℕ). trim problem.items (reaches lower8 (8 * load)) [] t) same

-- a tree is trimmed over the items of the problem, at the empty grouping, with the values of lemmas
pub trims_same : (problem : Parts) (values others : List ℕ) (items : List Item) (p : List ℕ) (load : ℕ)
    (t : Plain)
    → items ≡ problem.items → p ≡ [] → others ≡ values
    → trim items (reaches (lower8_of problem others items) (8 * load)) p t
    ≡ trimmed problem None values (8 * load) t
trims_same problem values others items p load t same empty are =
    λ i. trim (same i) (reaches (lower8_of problem (are i) (same i)) (8 * load)) (empty i) t

-- a search that begins has no nodes
pub nodes_at : (problem : Parts) (search : Search) (x : Searched) → IsAt problem search x
    → nodes_of x.tree ≡ length search.nodes.items
nodes_at problem search x at =
    nodes_of-shown (items_of problem search) (start_of search) search.nodes.items
    (agenda (items_of problem search) search.base (labels_of search.partial) search.open) x.tree at.shows

-- the steps of a judge over all items are those of what is found over them
pub steps_from : (problem : Parts) (values : List ℕ) (items : List Item) (p : List ℕ) (judge : SearchJudge)
    (best other : Option ℕ) (made : ℕ) (y : Searched) → IsJudge problem None values judge → items
    ≡ problem.items
    → p ≡ [] → other ≡ best
    → Steps (Finds problem judge.range judge.values.items) items p made (begun_with other) y
    → Steps (Finds problem None values) problem.items [] made (begun_with best) y
steps_from problem values items p judge best other made y is same empty load steps =
    subst (λ b. Steps (Finds problem None values) problem.items [] made (begun_with b) y) load
    (steps_over problem None values items p [] judge made (begun_with other) y is same empty steps)

-- without an open leaf and with a best load it is the trimmed one
pub final_is : (problem : Parts) (values : List ℕ) (items : List Item) (p : List ℕ) (best : Option ℕ)
    (load : ℕ)
    (is_open : Bool) (t : Plain) → items ≡ problem.items → p ≡ [] → best ≡ Some load → is_open ≡ false
    → trim items (reaches (lower8_of problem values items) (8 * load)) p t
    ≡ final_tree problem values best is_open t
final_is problem values items p best load is_open t same empty is closed =
    trims_same problem values values items p load t same empty refl
    ∙ ap (λ o. final_tree problem values (Some load) o t) (sym closed)
    ∙ ap (λ b. final_tree problem values b is_open t) (sym is)

-- where no leaf is open there is no bound
pub least_none : (problem : Parts) (search : Search) (x : Searched) (lower8 : List ℕ → ℕ)
    → items_of problem search ≡ problem.items → start_of search ≡ [] → search.open ≡ false
    → IsAt problem search x → None ≡ least_of (map lower8 (open_places problem.items [] x.tree))
least_none problem search x lower8 items start closed at =
    let places : open_places problem.items [] x.tree ≡ [] =
    (λ i. open_places (sym items i) (sym start i) x.tree) ∙ at.shows.open_are
    ∙ ap (agenda (items_of problem search) search.base (labels_of search.partial)) closed in
    ap (λ ps. least_of (map lower8 ps)) (sym places)

-- the least bound over the items of the problem, at the empty grouping
pub least_same : (problem : Parts) (values : List ℕ) (items : List Item) (p : List ℕ) (t : Plain)
    (least : Option ℕ)
    → items ≡ problem.items → p ≡ []
    → least ≡ least_of (map (lower8_of problem values items) (open_places items p t))
    → least ≡ least_of (map (lower8_of problem values problem.items) (open_places problem.items [] t))
least_same problem values items p t least same empty e =
    e ∙ (λ i. least_of (map (lower8_of problem values (same i)) (open_places (same i) (empty i) t)))
