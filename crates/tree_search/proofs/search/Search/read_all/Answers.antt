use Rattle.std.proofs.Common.{◌≡◌, ◌∷◌, ◌++◌, [], refl, sym, ap, ◌∙◌, append_assoc, reverse}
use Rattle.std.proofs.lemmas.List.{nil_from_length, reverse-append, reverse-reverse}
use Rattle.grouping_tree.specs.Grouped.{labels_of}
use Rattle.tree_search.specs.Shown.{agenda, items_of, start_of}
use Rattle.tree_search.proofs.Firsts.{closed-append}
use Rattle.tree_search.proofs.Moves.{agenda-first, goes_on-same, goes_on-trans}
use Rattle.tree_search.proofs.Walks.{walks-end, walks-start}
use Rattle.tree_search.proofs.search.Search.read_all.Goals as goal

pub loop-node-init : goal.loop-node-init
loop-node-init c =
    let problem = c.args.problem.now in
    let self = c.args.self.now in
    record {
      goes_on = goes_on-same problem self c.requires.search;
      best = refl;
      found = refl;
      closed = rw c.requires.none tt;
      parts = rw (c.requires.none, c.reverse.ensures.items) (reverse-reverse c.args.nodes.items);
      walks = λ t is options.
          rw (
            c.reverse.ensures.items,
            reverse-reverse c.args.nodes.items,
            agenda-first (items_of problem self) self.base (labels_of self.partial) self.open c.requires.open
                c.requires.first,
          ) (walks-start (items_of problem self) c.args.nodes.items (start_of self) t is options);
    }

pub read-requires-clause-closed : goal.read-requires-clause-closed
read-requires-clause-closed c = c.is_left.ensures.closed c.if-is_left.false

pub read-requires-clause-walks : goal.read-requires-clause-walks
read-requires-clause-walks c =
    let inv = c.loop-node.invariant in
    let rest = c.pop.new.self.items in
    let popped = ap reverse c.in-Some.ensures.items ∙ reverse-append rest (c.in-Some.node ∷ []) in
    let t = c.requires.tree.0 in
    rw (inv.goes_on.items, inv.goes_on.start, inv.goes_on.base)
    (t, reverse rest, rw popped at (inv.walks t c.requires.tree.1 c.requires.tree.2))

pub loop-node-preserved : goal.loop-node-preserved
loop-node-preserved c =
    let problem = c.args.problem.now in
    let inv = c.loop-node.invariant in
    let told = c.in_ok-read.ensures in
    let rest = c.pop.new.self.items in
    let popped = ap reverse c.in-Some.ensures.items ∙ reverse-append rest (c.in-Some.node ∷ []) in
    record {
      goes_on = goes_on-trans problem c.args.self.now c.loop-node.self c.read.new.self inv.goes_on told.goes_on;
      best = told.best ∙ inv.best;
      found = told.found ∙ inv.found;
      closed =
          rw told.nodes (closed-append c.loop-node.self.nodes.items (c.in-Some.node ∷ []) inv.closed
          (c.is_left.ensures.closed c.if-is_left.false));
      parts = ap (λ xs. xs ++ reverse rest) told.nodes
          ∙ append_assoc c.loop-node.self.nodes.items (c.in-Some.node ∷ []) (reverse rest)
          ∙ ap (λ xs. c.loop-node.self.nodes.items ++ xs) (sym popped) ∙ inv.parts;
      walks = λ t is options.
          (rw (inv.goes_on.items, inv.goes_on.start, inv.goes_on.base) at told.gives) t (reverse rest)
          (rw popped at (inv.walks t is options));
    }

pub returns-then-is_left-clause-shows : goal.returns-then-is_left-clause-shows
returns-then-is_left-clause-shows c = λ t is options.
    let problem = c.args.problem.now in
    let self = c.args.self.now in
    let inv = c.loop-node.invariant in
    let rest = c.pop.new.self.items in
    let popped = ap reverse c.in-Some.ensures.items ∙ reverse-append rest (c.in-Some.node ∷ []) in
    walks-end (items_of problem self) (start_of self) t c.args.nodes.items c.loop-node.self.nodes.items
    (c.in-Some.node ∷ reverse rest)
    (agenda (items_of problem self) self.base (labels_of c.loop-node.self.partial) c.loop-node.self.open)
    is options c.requires.ends inv.closed (rw popped at inv.parts) (c.is_left.ensures.left c.if-is_left.true)
    (rw popped at (inv.walks t is options))

pub returns-clause-shows : goal.returns-clause-shows
returns-clause-shows c = λ t is options.
    let problem = c.args.problem.now in
    let self = c.args.self.now in
    let inv = c.loop-node.invariant in
    let over : c.loop-node.rest.items ≡ [] =
    nil_from_length c.loop-node.rest.items (sym c.loop-node.rest.ok.0 ∙ c.in_default.ensures.cases.0) in
    walks-end (items_of problem self) (start_of self) t c.args.nodes.items c.loop-node.self.nodes.items []
    (agenda (items_of problem self) self.base (labels_of c.loop-node.self.partial) c.loop-node.self.open)
    is options c.requires.ends inv.closed (rw over at inv.parts) tt (rw over at (inv.walks t is options))
