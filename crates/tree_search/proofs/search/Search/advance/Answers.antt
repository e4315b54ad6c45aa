use Rattle.std.proofs.Common.{arith, refl, ◌∙◌}
use Rattle.tree_search.specs.Shown.{items_of, start_of}
use Rattle.tree_search.proofs.Moves.{goes_on-same, goes_on-trans}
use Rattle.tree_search.proofs.Steps.{steps-append, steps-back}
use Rattle.tree_search.proofs.search.Search.advance.Goals as goal

pub loop-made-init : goal.loop-made-init
loop-made-init g c = record {
  goes_on = goes_on-same c.args.problem.now c.args.self.now c.requires.search;
  count = omega arith;
  within = omega arith;
  suits = λ parts items h. h;
  bounds = refl;
  same = λ parts items load p finding h. h;
  gives = λ x at. (x, refl, at);
}

pub step-requires-clause-suits : goal.step-requires-clause-suits
step-requires-clause-suits g c =
    let inv = c.loop-made.invariant in
    rw inv.goes_on.items (inv.suits c.args.problem.now (items_of c.args.problem.now c.args.self.now)
    c.requires.suits)

pub loop-made-preserved : goal.loop-made-preserved
loop-made-preserved g c =
    let inv = c.loop-made.invariant in
    let told = c.in_ok-more.ensures in
    let problem = c.args.problem.now in
    let first = c.args.self.now in
    let here = c.loop-made.self in
    let items = items_of problem first in
    let from = start_of first in
    record {
      goes_on = goes_on-trans problem first here c.step.new.self inv.goes_on told.goes_on;
      count = omega (arith, told.count, inv.count);
      within = omega arith;
      suits = λ parts items h. told.suits parts items (inv.suits parts items h);
      bounds = told.bounds ∙ inv.bounds;
      same =
          λ parts items load p finding h. inv.same parts items load p finding
          (told.same parts items load p finding h);
      gives = λ x at.
          let before = inv.gives x at in
          let last = told.gives before.0 before.2 in (
            last.0,
            steps-append (g.J.Judge.finds c.args.judge.now problem items) items from c.loop-made.made
                c.in_ok-more.more x before.0 last.0 before.1
                (steps-back (g.J.Judge.finds c.loop-made.judge problem)
                (g.J.Judge.finds c.args.judge.now problem) items (items_of problem here) from
                (start_of here) c.in_ok-more.more
                before.0 last.0 inv.goes_on.items inv.goes_on.start (inv.same problem items) last.1),
            last.2,
          );
    }
