use Rattle.std.proofs.Common.{subst, [], ◌∷◌, ◌≡◌, ◌<◌, ◌+◌, ◌-◌, ℕ, length, take, get_or, sym, ap, ◌∙◌, arith, length-set}
use Rattle.std.proofs.lemmas.Grind.{get_or_default_zero}
use Rattle.std.proofs.lemmas.List.{take_more}
use Rattle.class_frame.specs.Frame.{timed_of_items}
use Rattle.class_frame.specs.Grouping.{class_of}
use Rattle.grouping_tree.specs.Partial.{IsPartial}
use Rattle.grouping_tree.specs.Class.{IsClass}
use Rattle.grouping_tree.specs.Grouped.{IsState, range_of, room_of}
use Rattle.grouping_tree.proofs.Fronts.{partial-append}
use Rattle.grouping_tree.proofs.Steps.{label_back}
use Rattle.grouping_tree.proofs.Used.{counted}
use Rattle.grouping_tree.proofs.partial.Partial.take_back.Goals as goal

pub returns-clause-belongs : goal.returns-clause-belongs
returns-clause-belongs c =
    let p = c.args.self.now in
    let problem = c.args.problem.now in
    let b = c.requires.belongs in
    let n : ℕ = p.count - 1 in
    let next : n + 1 ≡ p.count = omega (arith, c.requires.some, counted problem p b) in
    let label : ℕ = c.index.result.now in
    let before = c.index-before.result.now in
    let range = range_of problem p in
    let some : n < length p.labels.items = omega (arith, b.enough, b.within, next) in
    let here : get_or p.labels.items n 0 ≡ label = sym (c.index.ensures ∙ get_or_default_zero p.labels.items n label some) in
    let low : label < room_of p = omega (arith, b.low n (omega (arith, next)), here) in
    let held : label < length p.held.items = omega (arith, b.held_room, low) in
    let is : IsState problem range (take n p.labels.items) label before =
    subst (λ k. IsState problem range (take n p.labels.items) k before) here
    (subst (IsState problem range (take n p.labels.items) (get_or p.labels.items n 0)) (sym c.index-before.ensures) (b.before n before (omega (arith, next)))) in
    record {
      stands = b.stands;
      network = b.network;
      hyper = b.hyper;
      inside = b.inside;
      range = b.range;
      within = omega (arith, b.within);
      enough = b.enough;
      items_room = b.items_room;
      frames_room = length-set p.frames.items label before.own.frame ∙ b.frames_room;
      sizes_room = b.sizes_room;
      held_room = length-set p.held.items label before.own ∙ b.held_room;
      before_room = b.before_room;
      legal = partial-append range (take n p.labels.items) (get_or p.labels.items n 0 ∷ []) (subst (IsPartial range) (ap (λ m. take m p.labels.items) (sym next) ∙ take_more p.labels.items n 0 some) b.legal);
      low = λ i lt. b.low i (omega (arith, lt, next));
      classes = is.all.classes;
      first = is.all.first;
      load = is.all.load;
      slack = is.all.slack;
      items = b.items;
      frames = λ k d lt. label_back (λ items frame. frame ≡ timed_of_items problem items) range p.labels.items p.frames.items n label before.own.frame some (omega (arith, b.frames_room, low)) here
          (λ j e below. subst (λ m. get_or p.frames.items j e ≡ timed_of_items problem (class_of j (take m p.labels.items) range)) (sym next) (b.frames j e (omega (arith, below, b.frames_room)))) is.own.frame k d (omega (arith, lt, b.frames_room));
      lengths = b.lengths;
      kept = λ k d lt. label_back (IsClass problem) range p.labels.items p.held.items n label before.own some held here
          (λ j e below. subst (λ m. IsClass problem (class_of j (take m p.labels.items) range) (get_or p.held.items j e)) (sym next) (b.kept j e (omega (arith, below, b.held_room)))) is.own k d (omega (arith, lt, b.held_room));
      before = λ i d lt. b.before i d (omega (arith, lt, next));
    }

pub returns-clause-labels : goal.returns-clause-labels
returns-clause-labels c =
    let p = c.args.self.now in
    let b = c.requires.belongs in
    let n : ℕ = p.count - 1 in
    let next : n + 1 ≡ p.count = omega (arith, c.requires.some, counted c.args.problem.now p b) in
    (get_or p.labels.items n 0, ap (λ m. take m p.labels.items) (sym next) ∙ take_more p.labels.items n 0 (omega (arith, b.enough, b.within, next)))
