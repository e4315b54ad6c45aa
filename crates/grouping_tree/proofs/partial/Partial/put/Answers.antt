use Rattle.std.proofs.Common.{◌≡◌, ◌<◌, ◌+◌, ℕ, [], ◌∷◌, ◌++◌, List, length, take, get_or, set, sym, ap, subst, ◌∙◌, arith, length-set, ◌⊎◌, inl, inr}
use Rattle.std.proofs.lemmas.Bool.{cases_eq}
use Rattle.std.proofs.lemmas.Grind.{get_or-set_at}
use Rattle.std.proofs.lemmas.List.{get_or-set_other, take_more_set}
use Rattle.class_frame.specs.Classes.{load_of}
use Rattle.class_frame.specs.Frame.{timed_of_items}
use Rattle.class_frame.specs.Grouping.{class_of, classes_of}
use Rattle.grouping_tree.specs.Partial.{IsPartial}
use Rattle.grouping_tree.specs.Class.{IsClass}
use Rattle.grouping_tree.specs.Grouped.{AreEarlier, IsState, labels_of, range_of, slack_at}
use Rattle.grouping_tree.specs.declared.kept.State.{State}
use Rattle.grouping_tree.proofs.Steps.{before_put, label_put}
use Rattle.grouping_tree.proofs.Used.{low_room, put_room}
use Rattle.grouping_tree.proofs.partial.Partial.put.Goals as goal

pub with_next-after-requires : goal.with_next-after-requires
with_next-after-requires c = (c.args.problem.now, c.requires.belongs, c.requires.legal)

pub returns-clause-labels : goal.returns-clause-labels
returns-clause-labels c =
    let b = c.requires.belongs in
    take_more_set c.args.self.now.labels.items c.args.self.now.count c.args.label (omega (arith, b.enough, (put_room c.args.problem.now c.args.self.now c.args.label b c.requires.legal).0))

pub returns-clause-belongs : goal.returns-clause-belongs
returns-clause-belongs c =
    let p = c.args.self.now in
    let problem = c.args.problem.now in
    let label = c.args.label in
    let b = c.requires.belongs in
    let range = range_of problem p in
    let (some, low) = put_room problem p label b c.requires.legal in
    let here : p.count < length p.labels.items = omega (arith, b.enough, some) in
    let there = low_room problem p label b some low in
    let long = length-set p.labels.items p.count label in
    let labels : take (p.count + 1) (set p.labels.items p.count label) ≡ labels_of p ++ label ∷ [] = take_more_set p.labels.items p.count label here in
    let after = c.with_next-after.result in
    let held : label < length p.held.items = omega (arith, b.held_room, there) in
    let free : p.count < length p.before.items = omega (arith, b.before_room, here) in
    let new = c.with_next-after.ensures problem b c.requires.legal in
    let saved : State = record {
      own = c.index.result.now;
      classes = p.classes;
      first_label = p.first_label;
      load = p.load;
      slack = p.slack;
    } in
    let was : IsState problem range (labels_of p) label saved = record {
      own = subst (IsClass problem (class_of label (labels_of p) range)) (sym c.index.ensures) (b.kept label c.index.result.now there);
      all = record { classes = b.classes; first = b.first; load = b.load; slack = b.slack };
    } in
    record {
      stands = b.stands;
      network = b.network;
      hyper = b.hyper;
      inside = b.inside;
      range = b.range;
      within = omega (arith, some);
      enough = omega (arith, b.enough, long);
      items_room = b.items_room ∙ sym long;
      frames_room = length-set p.frames.items label c.with_next-after.result.own.frame ∙ b.frames_room ∙ sym long;
      sizes_room = b.sizes_room;
      held_room = length-set p.held.items label after.own ∙ b.held_room ∙ sym long;
      before_room = length-set p.before.items p.count saved ∙ b.before_room ∙ sym long;
      legal = subst (IsPartial range) (sym labels) c.requires.legal;
      low = λ i lt. low_put p.labels.items p.count label here there b.low i lt;
      classes = new.all.classes ∙ sym (ap classes_of labels);
      first = subst (λ ls. AreEarlier range ls c.with_next-after.result.first_label) (sym labels) new.all.first;
      load = new.all.load ∙ sym (ap (load_of problem range) labels);
      slack = new.all.slack ∙ sym (ap (slack_at problem range) labels);
      items = b.items;
      frames = λ k d lt. label_put (λ items frame. frame ≡ timed_of_items problem items) range p.labels.items p.frames.items p.count label c.with_next-after.result.own.frame here (omega (arith, b.frames_room, there))
          (λ j e below. b.frames j e (omega (arith, below, b.frames_room))) new.own.frame k d (omega (arith, lt, long, b.frames_room));
      lengths = b.lengths;
      kept = λ k d lt. label_put (IsClass problem) range p.labels.items p.held.items p.count label after.own here held
          (λ j e below. b.kept j e (omega (arith, below, b.held_room))) new.own k d (omega (arith, lt, long, b.held_room));
      before = before_put (IsState problem range) p.labels.items p.before.items p.count label saved here free was b.before;
    }
  where
    low_put : (labels : List ℕ) (count label : ℕ) → count < length labels → label < length labels → ((i : ℕ) → i < count → get_or labels i 0 < length labels) → (i : ℕ) → i < count + 1 → get_or (set labels count label) i 0 < length (set labels count label)
    low_put labels count label some low all i lt = by (cases_eq i count)
      where
        by : (i ≡ count) ⊎ (i ≡ count → ⊥) → get_or (set labels count label) i 0 < length (set labels count label)
        by (inl same) = omega (arith, low, get_or-set_at labels count i label 0 same some, length-set labels count label)
        by (inr other) = omega (arith, all i (omega (arith, lt, other)), get_or-set_other labels count i label 0 other, length-set labels count label)

pub index-requires : goal.index-requires
index-requires c =
    let b = c.requires.belongs in
    let (some, low) = put_room c.args.problem.now c.args.self.now c.args.label b c.requires.legal in
    omega (arith, b.held_room, low_room c.args.problem.now c.args.self.now c.args.label b some low)

pub index_mut-requires : goal.index_mut-requires
index_mut-requires c =
    let b = c.requires.belongs in
    let (some, low) = put_room c.args.problem.now c.args.self.now c.args.label b c.requires.legal in
    omega (arith, b.before_room, b.enough, some)

pub index_mut-requires-3 : goal.index_mut-requires-3
index_mut-requires-3 c =
    let b = c.requires.belongs in
    let (some, low) = put_room c.args.problem.now c.args.self.now c.args.label b c.requires.legal in
    omega (arith, b.held_room, low_room c.args.problem.now c.args.self.now c.args.label b some low)

pub index_mut-requires-4 : goal.index_mut-requires-4
index_mut-requires-4 c =
    let b = c.requires.belongs in
    let (some, low) = put_room c.args.problem.now c.args.self.now c.args.label b c.requires.legal in
    omega (arith, b.frames_room, low_room c.args.problem.now c.args.self.now c.args.label b some low)
