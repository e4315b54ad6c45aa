use Rattle.std.proofs.Common.{◌≡◌, ◌∷◌, ◌-◌, ◌+◌, refl, arith}
use Rattle.grouping_tree.specs.Grouped.{labels_of, range_of}
use Rattle.grouping_tree.proofs.Used.{classes_few, few, put_room}
use Rattle.tree_search.specs.Flat.{subtrees}
use Rattle.tree_search.specs.Going.{places_on}
use Rattle.tree_search.specs.Trim.{reaches}
use Rattle.tree_search.proofs.Trims.{trims-next_leaf, trims-over, trims-skip}
use Rattle.tree_search.proofs.trimming.Trimming.take.Goals as goal

pub pass_over-requires-clause-room : goal.pass_over-requires-clause-room
pass_over-requires-clause-room g c =
    let problem = c.args.problem.now in
    let items = range_of problem c.args.partial.now in
    let cut = reaches (g.J.Judge.bound_of c.args.judge.now problem items) c.args.value in
    let self = c.args.self.now in
    let places = places_on items self.base (labels_of c.args.partial.now) self.next in
    let wanted = c.requires.trims.0 in
    let rest = c.requires.trims.1 in
    omega (
      arith,
      c.requires.trims.2,
      trims-skip items cut wanted self.kept.items rest (self.skip - 1 + subtrees c.args.node) places
          (trims-over items cut wanted self.kept.items rest (c.args.node ∷ rest) c.args.node self.skip places
          (omega arith) refl c.requires.trims.3),
    )

pub returns-then-self-gt0-clause-gives : goal.returns-then-self-gt0-clause-gives
returns-then-self-gt0-clause-gives g c = λ wanted rest h.
    let problem = c.args.problem.now in
    let items = range_of problem c.args.partial.now in
    let cut = reaches (g.J.Judge.bound_of c.args.judge.now problem items) c.args.value in
    let self = c.args.self.now in
    let places = places_on items self.base (labels_of c.args.partial.now) self.next in
    rw c.pass_over.ensures
    (trims-over items cut wanted self.kept.items rest (c.args.node ∷ rest) c.args.node self.skip places
    (omega arith) refl h)

pub overflow_add-self : goal.overflow_add-self
overflow_add-self g c =
    let problem = c.args.problem.now in
    let p = c.next_place.new.partial in
    let b = c.in-Some.ensures.belongs in
    omega (
      arith,
      (put_room problem p c.in-Some.option b c.in-Some.ensures.legal).1,
      classes_few problem p b,
      few problem p b,
      b.within,
    )

pub returns-in_ok-put_node-in_default-node : goal.returns-in_ok-put_node-in_default-node
returns-in_ok-put_node-in_default-node g c =
    let problem = c.args.problem.now in
    let items = range_of problem c.args.partial.now in
    let cut = reaches (g.J.Judge.bound_of c.args.judge.now problem items) c.args.value in
    let self = c.args.self.now in
    let told = c.in-Some.ensures in
    let nothing : self.skip ≡ 0 = omega arith in
    record {
      belongs = told.belongs;
      range = told.range;
      room = told.room;
      base = refl;
      below = told.below;
      front = told.front;
      gives = λ wanted rest h.
          trims-next_leaf items cut wanted self.kept.items c.put_node.new.nodes.items rest c.args.node self.skip
          self.base (places_on items self.base (labels_of c.args.partial.now) self.next)
          (labels_of c.next_place.new.partial) c.in-Some.option told.places told.below
          c.in_default-node.not-Inner c.in_ok-put_node-in_default-node.ensures nothing h;
    }
