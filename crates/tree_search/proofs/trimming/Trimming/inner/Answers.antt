use Rattle.std.proofs.Common.{◌≡◌, ◌++◌, refl, sym, ap, ◌∙◌, true, false}
use Rattle.grouping_tree.specs.Grouped.{labels_of, range_of}
use Rattle.grouping_tree.specs.Walk.{places_left, with_each}
use Rattle.grouping_tree.proofs.Walks.{from-all}
use Rattle.tree_search.specs.declared.node.Node.TheVariants.{Inner}
use Rattle.tree_search.specs.Trim.{reaches}
use Rattle.tree_search.proofs.Trims.{trims-cut, trims-keep}
use Rattle.tree_search.proofs.trimming.Trimming.inner.Goals as goal

pub returns-then-is_cut-clause-gives : goal.returns-then-is_cut-clause-gives
returns-then-is_cut-clause-gives g c = λ wanted rest trims.
    let problem = c.args.problem.now in
    let items = range_of problem c.args.partial.now in
    let old = labels_of c.args.partial.now in
    let base = c.args.self.now.base in
    let cut = reaches (g.J.Judge.bound_of c.args.judge.now problem items) c.args.value in
    let is_cut : cut old ≡ true = sym c.is_cut.ensures ∙ c.if-is_cut.true in
    rw (c.in_ok-put_node.ensures, c.back-self.ensures.places)
    (trims-cut items cut wanted c.args.self.now.kept.items rest (Inner c.args.count) old
    (places_left items base old) c.args.count refl is_cut trims)

pub returns-clause-gives : goal.returns-clause-gives
returns-clause-gives g c = λ wanted rest trims.
    let problem = c.args.problem.now in
    let items = range_of problem c.args.partial.now in
    let old = labels_of c.args.partial.now in
    let base = c.args.self.now.base in
    let cut = reaches (g.J.Judge.bound_of c.args.judge.now problem items) c.args.value in
    let not_cut : cut old ≡ false = sym c.is_cut.ensures ∙ c.if-is_cut.false in
    let places = ap (λ options. with_each old options ++ places_left items base old) (from-all items old) in
    rw (c.in_ok-put_node-2.ensures, c.requires.none, places)
    (trims-keep items cut wanted c.args.self.now.kept.items rest (Inner c.args.count) old
    (places_left items base old) c.args.count refl not_cut trims)
