use Rattle.std.proofs.Common.{◌≡◌, true, ◌∙◌}
use Rattle.cert_text.specs.PlainTree.{plain_of}
use Rattle.grouping_tree.specs.Grouped.{labels_of, range_of}
use Rattle.bandwidth_bound.specs.Goals.{main_goal}
use Rattle.tree_search.specs.Flat.{flat}
use Rattle.tree_search.specs.Open.{HasOptions}
use Rattle.tree_search.proofs.Standing.{has_options}
use Rattle.search_task.proofs.Tasks.{nodes-of}
use Rattle.search_task.proofs.task.Task.begin.Goals as goal

pub resume-requires-clause-tree : goal.resume-requires-clause-tree
resume-requires-clause-tree c =
    let problem = c.args.problem.now in
    let self = c.args.self.now in
    let range : range_of problem c.in_ok-partial.partial ≡ problem.items = c.in_ok-partial.ensures.range in
    let labels : labels_of c.in_ok-partial.partial ≡ self.path.items =
    c.in_ok-partial.ensures.labels ∙ c.deref.ensures.value in (
      plain_of self.tree,
      nodes-of self.tree c.replace-tree.result c.new-nodes.result.items c.flatten.new.nodes.items
          c.replace-tree.ensures.value c.new-nodes.ensures.items c.in_ok-flatten.ensures,
      rw (range, labels) (has_options (main_goal problem self.lemmas.items self.best true) self.path.items
          (plain_of self.tree) c.requires.stands),
    )

pub resume-requires-clause-ends : goal.resume-requires-clause-ends
resume-requires-clause-ends c =
    let self = c.args.self.now in
    let nodes : flat (plain_of self.tree) ≡ c.flatten.new.nodes.items =
    nodes-of self.tree c.replace-tree.result c.new-nodes.result.items c.flatten.new.nodes.items
    c.replace-tree.ensures.value c.new-nodes.ensures.items c.in_ok-flatten.ensures in
    rw nodes at c.requires.nodes

pub returns-clause-at : goal.returns-clause-at
returns-clause-at c =
    let problem = c.args.problem.now in
    let self = c.args.self.now in
    let range : range_of problem c.in_ok-partial.partial ≡ problem.items = c.in_ok-partial.ensures.range in
    let labels : labels_of c.in_ok-partial.partial ≡ self.path.items =
    c.in_ok-partial.ensures.labels ∙ c.deref.ensures.value in
    let nodes : flat (plain_of self.tree) ≡ c.flatten.new.nodes.items =
    nodes-of self.tree c.replace-tree.result c.new-nodes.result.items c.flatten.new.nodes.items
    c.replace-tree.ensures.value c.new-nodes.ensures.items c.in_ok-flatten.ensures in
    let options : HasOptions problem.items self.path.items (plain_of self.tree) =
    has_options (main_goal problem self.lemmas.items self.best true) self.path.items (plain_of self.tree)
    c.requires.stands in
    rw c.take-found.ensures.value at
    (c.in_ok-search.ensures.at (plain_of self.tree) nodes (rw (range, labels) options))
