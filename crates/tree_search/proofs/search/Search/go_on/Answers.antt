use Rattle.std.proofs.Common.{◌≡◌, [], ◌∷◌, length, None, true, false, refl, sym, ap, ◌∙◌, length-append, arith}
use Rattle.grouping_tree.specs.Grouped.{labels_of}
use Rattle.grouping_tree.proofs.Walks.{front-stays}
use Rattle.tree_search.specs.Shown.{items_of, start_of}
use Rattle.tree_search.proofs.Goings.{went-out, went-to}
use Rattle.tree_search.proofs.Moves.{goes_on-same}
use Rattle.tree_search.proofs.Steps.{steps-append}
use Rattle.tree_search.proofs.search.Search.go_on.Goals as goal

pub loop-next-init : goal.loop-next-init
loop-next-init g c = record {
  goes_on = goes_on-same c.args.problem.now c.args.self.now c.requires.search;
  is_open = c.requires.open;
  best = refl;
  found = refl;
  done = c.requires.done;
  within = omega arith;
  count = omega arith;
  gives = λ x on. (x, refl, on);
}

pub pass_bounded-requires-clause-suits : goal.pass_bounded-requires-clause-suits
pass_bounded-requires-clause-suits g c = rw c.loop-next.invariant.goes_on.items c.requires.suits

pub returns-in-Some-next-clause-goes_on : goal.returns-in-Some-next-clause-goes_on
returns-in-Some-next-clause-goes_on g c =
    let inv = c.loop-next.invariant in
    let told = c.put.ensures in
    let here = c.loop-next.self in
    let labels = labels_of here.partial in
    let option = c.in-Some-next.option in
    let below = inv.goes_on.is_of.below in
    record {
      is_of = record {
        belongs = told.belongs;
        below = omega (arith, below, ap length told.labels, length-append labels (option ∷ []));
        done = λ e. absurd (let both : true ≡ false = sym inv.is_open ∙ e in cc);
      };
      items = told.range ∙ inv.goes_on.items;
      start = sym (front-stays here.base (labels_of c.put.new.self) labels option told.labels below)
          ∙ inv.goes_on.start;
      base = inv.goes_on.base;
      room = told.room ∙ inv.goes_on.room;
    }

pub returns-in-Some-next-clause-gives : goal.returns-in-Some-next-clause-gives
returns-in-Some-next-clause-gives g c = λ x on.
    let problem = c.args.problem.now in
    let first = c.args.self.now in
    let items = items_of problem first in
    let inv = c.loop-next.invariant in
    let labels = labels_of c.loop-next.self.partial in
    let before = inv.gives x on in
    let below = rw inv.goes_on.base at inv.goes_on.is_of.below in
    let told = rw (inv.goes_on.items, inv.best) at c.in_ok-passed.ensures.gives in
    let after = told (start_of first) first.base first.found before.0 below (rw c.in-Some.is at before.2) in (
      after.0,
      steps-append (g.J.Judge.finds c.args.judge.now problem items) items (start_of first) c.loop-next.made
          c.in_ok-passed.passed.made x before.0 after.0 before.1 after.1,
      went-to problem first _ labels c.in-Some-next.option after.0 (returns-in-Some-next-clause-goes_on g c)
          inv.is_open inv.best inv.found c.put.ensures.labels (rw c.in-Some-next.is at after.2),
    )

pub loop-next-preserved : goal.loop-next-preserved
loop-next-preserved g c =
    let problem = c.args.problem.now in
    let first = c.args.self.now in
    let items = items_of problem first in
    let inv = c.loop-next.invariant in
    let back = c.back-next.ensures in
    record {
      goes_on = record {
        is_of = record {
          belongs = back.belongs;
          below = back.below;
          done = λ e. absurd (let both : true ≡ false = sym inv.is_open ∙ e in cc);
        };
        items = back.range ∙ inv.goes_on.items;
        start = back.front ∙ inv.goes_on.start;
        base = inv.goes_on.base;
        room = back.room ∙ inv.goes_on.room;
      };
      is_open = inv.is_open;
      best = inv.best;
      found = inv.found;
      done = λ e. (rw e at back.less) ∙ inv.goes_on.start;
      within = omega (arith, inv.within, c.in_ok-passed.ensures.within);
      count = omega (arith, inv.count, c.in_ok-passed.ensures.count);
      gives = λ x on.
          let before = inv.gives x on in
          let below = rw inv.goes_on.base at inv.goes_on.is_of.below in
          let told = rw (inv.goes_on.items, inv.best) at c.in_ok-passed.ensures.gives in
          let after = told (start_of first) first.base first.found before.0 below (rw c.in-Some.is at before.2) in
          let none : c.in_ok-passed.passed.next ≡ None = cc in
          let places = rw (inv.goes_on.items, inv.goes_on.base) at back.places in (
            after.0,
            steps-append (g.J.Judge.finds c.args.judge.now problem items) items (start_of first)
                c.loop-next.made c.in_ok-passed.passed.made x before.0 after.0 before.1 after.1,
            rw places (rw none at after.2),
          );
    }

pub returns-clause-goes_on : goal.returns-clause-goes_on
returns-clause-goes_on g c =
    let inv = c.loop-next.invariant in
    let on = inv.goes_on in
    let none : c.loop-next.next ≡ None = cc in
    record {
      is_of = record {
        belongs = on.is_of.belongs;
        below = on.is_of.below;
        done = λ e. inv.done none ∙ sym on.start;
      };
      items = on.items;
      start = on.start;
      base = on.base;
      room = on.room;
    }

pub returns-clause-gives : goal.returns-clause-gives
returns-clause-gives g c = λ x on.
    let inv = c.loop-next.invariant in
    let none : c.loop-next.next ≡ None = cc in
    let before = inv.gives x on in (
      before.0,
      before.1,
      went-out c.args.problem.now c.args.self.now _ c.loop-next.next before.0 (returns-clause-goes_on g c) refl
          inv.best inv.found none before.2,
    )
