use Rattle.std.proofs.Common.{◌≡◌, ◌*◌, ◌<◌, ◌^◌, ◌++◌, [], List, All, length, map, true, IfSome, sym, ap, ◌∙◌, subst}
use Rattle.std.specs.List.{list_any}
use Rattle.cert_text.specs.declared.parts.Lemma.{Lemma}
use Rattle.cert_text.specs.PlainTree.{plain_lemma, plain_of}
use Rattle.bandwidth_bound.specs.Goals.{main_goal}
use Rattle.bandwidth_bound.specs.Lemmas.{values_of}
use Rattle.tree_search.specs.Flat.{flat}
use Rattle.tree_search.specs.Open.{HasOptions, has_open}
use Rattle.tree_search.proofs.Standing.{has_options}
use Rattle.plan_search.specs.Ending.{final_tree, is_left}
use Rattle.plan_search.specs.Plan.{load_found}
use Rattle.plan_search.proofs.Ended.{ends_accepted, ends_fits, ends_trimmed}
use Rattle.plan_search.proofs.LemmaValues.{senders-low}
use Rattle.plan_search.proofs.OpenFlat.{open-flat}
use Rattle.plan_search.proofs.SearchEnds.{found_fits}
use Rattle.plan_search.proofs.finishing.finish.Goals as goal

pub final_nodes-requires-clause-lemmas : goal.final_nodes-requires-clause-lemmas
final_nodes-requires-clause-lemmas c =
    let problem = c.args.problem.now in
    subst (All (λ (lemma : Lemma). lemma.sender < length problem.senders)) (sym c.deref-2.ensures.value)
    (senders-low problem c.args.lemmas.items (λ k d lt. (c.requires.lemmas.each k d lt).0))

pub final_nodes-requires-clause-low : goal.final_nodes-requires-clause-low
final_nodes-requires-clause-low c =
    subst (λ best. IfSome best (λ load. 8 * load < 2 ^ 128)) (sym c.load_found.ensures)
    (found_fits c.args.problem.now c.problem_stands.ensures.problem c.args.best c.requires.best)

pub final_nodes-requires-clause-tree : goal.final_nodes-requires-clause-tree
final_nodes-requires-clause-tree c = (
  plain_of c.args.tree,
  sym (c.in_ok-flatten.ensures ∙ ap (λ nodes. nodes ++ flat (plain_of c.args.tree))
      c.new-nodes.ensures.items),
  has_options (main_goal c.args.problem.now
      (values_of c.args.problem.now (map plain_lemma c.args.lemmas.items)) (load_found c.args.best) true) []
      (plain_of c.args.tree) c.requires.tree,
)

pub returns-clause-ends : goal.returns-clause-ends
returns-clause-ends c =
    let nodes : flat (plain_of c.args.tree) ≡ c.flatten.new.nodes.items =
    sym (c.in_ok-flatten.ensures ∙ ap (λ ns. ns ++ flat (plain_of c.args.tree)) c.new-nodes.ensures.items) in
    let options : HasOptions c.args.problem.now.items [] (plain_of c.args.tree) =
    has_options (main_goal c.args.problem.now
    (values_of c.args.problem.now (map plain_lemma c.args.lemmas.items)) (load_found c.args.best) true) []
    (plain_of c.args.tree) c.requires.tree in
    let opened : has_open (plain_of c.args.tree) ≡ c.any_left-is_open.result =
    open-flat (plain_of c.args.tree) ∙ ap (list_any is_left) (nodes ∙ sym c.deref.ensures.value)
    ∙ sym c.any_left-is_open.ensures in
    let kept : flat (final_tree c.args.problem.now
    (values_of c.args.problem.now (map plain_lemma c.args.lemmas.items)) (load_found c.args.best)
    c.any_left-is_open.result (plain_of c.args.tree)) ≡ c.in_ok-kept.kept.items =
    ap (λ best. flat (final_tree c.args.problem.now
    (values_of c.args.problem.now (map plain_lemma c.args.lemmas.items)) best c.any_left-is_open.result
    (plain_of c.args.tree))) (sym c.load_found.ensures)
    ∙ ap (λ (ls : List Lemma). flat (final_tree c.args.problem.now
    (values_of c.args.problem.now (map plain_lemma ls))
    c.load_found.result c.any_left-is_open.result (plain_of c.args.tree))) (sym c.deref-2.ensures.value)
    ∙ c.in_ok-kept.ensures (plain_of c.args.tree) nodes options in
    c.in_ok-planned.ensures (plain_of c.args.tree) opened
    (c.in_ok-last.ensures (final_tree c.args.problem.now
    (values_of c.args.problem.now (map plain_lemma c.args.lemmas.items)) (load_found c.args.best)
    c.any_left-is_open.result (plain_of c.args.tree)) kept)

pub returns-clause-accepted : goal.returns-clause-accepted
returns-clause-accepted c =
    ends_accepted c.args.problem.now c.problem_stands.ensures.problem c.problem_stands.ensures.sorted
    (map plain_lemma c.args.lemmas.items) c.requires.lemmas
    (plain_of c.args.tree) c.args.best c.in_ok-planned.planned
    c.requires.best c.requires.tree (returns-clause-ends c)

pub returns-clause-trimmed : goal.returns-clause-trimmed
returns-clause-trimmed c = λ all.
    ends_trimmed c.args.problem.now c.problem_stands.ensures.problem c.problem_stands.ensures.sorted
    (map plain_lemma c.args.lemmas.items) c.requires.lemmas
    (plain_of c.args.tree) c.args.best c.in_ok-planned.planned
    c.requires.best c.requires.tree all (returns-clause-ends c)

pub returns-clause-fits : goal.returns-clause-fits
returns-clause-fits c =
    ends_fits c.args.problem.now c.problem_stands.ensures.problem c.problem_stands.ensures.sorted
    (map plain_lemma c.args.lemmas.items) c.requires.lemmas
    (plain_of c.args.tree) c.args.best c.in_ok-planned.planned
    c.requires.best c.requires.tree (returns-clause-ends c)
