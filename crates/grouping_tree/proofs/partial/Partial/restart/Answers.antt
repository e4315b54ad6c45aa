use Rattle.std.proofs.Common.{[], sym, subst, ◌∙◌, arith, rules}
use Rattle.grouping_tree.specs.Class.{IsClass}
use Rattle.grouping_tree.proofs.Used.{partial-none, same_lengths}
use Rattle.grouping_tree.proofs.partial.Partial.restart.Goals as goal

pub returns-clause-belongs : goal.returns-clause-belongs
returns-clause-belongs c =
    let (other, b) = c.requires.belongs in
    let problem = c.args.problem.now in
    let kept = c.none-none.ensures problem (search rules) in
    record {
      stands = search rules;
      network = search rules;
      hyper = search rules;
      inside = c.place_in-place.ensures.inside;
      range = c.place_in-place.ensures.slice;
      within = omega arith;
      enough = omega (arith, c.requires.room, c.place_in-place.ensures.inside);
      items_room = c.write_alone.ensures.room ∙ b.items_room;
      frames_room = c.clear.ensures.frames_room ∙ b.held_room;
      sizes_room = c.write_lengths.ensures.room;
      held_room = c.clear.ensures.held_room ∙ b.held_room;
      before_room = b.before_room;
      legal = partial-none _;
      low = λ i lt. absurd (omega arith);
      classes = search rules;
      first = λ label lt. absurd (omega arith);
      load = search rules;
      slack = search rules;
      items = c.write_alone.ensures.each;
      frames = λ k d lt. c.clear.ensures.frames k d (omega (arith, lt, b.held_room)) ∙ kept.frame;
      lengths = same_lengths _ _ _ (search rules) c.write_lengths.ensures.each;
      kept = λ k d lt.
          subst (IsClass problem []) (sym (c.clear.ensures.held k d (omega (arith, lt, b.held_room)))) kept;
      before = λ i d lt. absurd (omega arith);
    }

pub write_alone-requires : goal.write_alone-requires
write_alone-requires c =
    let (other, b) = c.requires.belongs in
    record { room = omega (arith, c.requires.room, c.place_in-place.ensures.inside, b.items_room); inside = c.place_in-place.ensures.inside }

pub clear-requires : goal.clear-requires
clear-requires c =
    let (other, b) = c.requires.belongs in
    record { frames = b.frames_room ∙ sym b.held_room }
