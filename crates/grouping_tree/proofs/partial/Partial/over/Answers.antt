use Rattle.std.proofs.Common.{[], List, get_or, ap, sym, subst, ◌∙◌, arith, rules}
use Rattle.std.proofs.lemmas.List.{get_or-replicate}
use Rattle.busy_period.specs.declared.timed.Timed.{Timed}
use Rattle.grouping_tree.specs.Class.{IsClass}
use Rattle.grouping_tree.specs.declared.class.Class.{Class}
use Rattle.grouping_tree.proofs.Used.{partial-none, same_lengths}
use Rattle.grouping_tree.proofs.partial.Partial.over.Goals as goal

pub returns-clause-belongs : goal.returns-clause-belongs
returns-clause-belongs c =
    let problem = c.args.problem.now in
    let kept = c.none-none.ensures problem (search rules) in
    let frames = c.in_ok-vec-2.ensures.items_if_clones_equal (λ y h. h) in
    let held = c.in_ok-vec-3.ensures.items_if_clones_equal (λ y h. h) in
    record {
      stands = search rules;
      network = search rules;
      hyper = search rules;
      inside = c.place_in-place.ensures.inside;
      range = c.place_in-place.ensures.slice;
      within = omega arith;
      enough = search rules;
      items_room = search rules;
      frames_room = search rules;
      sizes_room = c.write_lengths.ensures.room;
      held_room = search rules;
      before_room = search rules;
      legal = partial-none _;
      low = λ i lt. absurd (omega arith);
      classes = search rules;
      first = λ label lt. absurd (omega arith);
      load = search rules;
      slack = search rules;
      items = c.write_alone.ensures.each;
      frames = λ k d lt. ap (λ (l : List Timed). get_or l k d) frames ∙ get_or-replicate _ k c.none-none.result.frame d (search rules) ∙ kept.frame;
      lengths = same_lengths _ _ _ (search rules) c.write_lengths.ensures.each;
      kept = λ k d lt.
          subst (IsClass problem [])
          (sym (ap (λ (l : List Class). get_or l k d) held
          ∙ get_or-replicate _ k c.none-none.result d (search rules)))
          kept;
      before = λ i d lt. absurd (omega arith);
    }
