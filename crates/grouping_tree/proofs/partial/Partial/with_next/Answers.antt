use Rattle.std.proofs.Common.{◌+◌, max, sym, ap, ◌∙◌, arith}
use Rattle.class_frame.proofs.GroupingLaws.{classes_of-push}
use Rattle.grouping_tree.specs.Grouped.{labels_of}
use Rattle.grouping_tree.proofs.Used.{classes_few, counted, few, long, put_room}
use Rattle.grouping_tree.proofs.partial.Partial.with_next.Goals as goal

pub next_alone-next-requires : goal.next_alone-next-requires
next_alone-next-requires c =
    let (problem, b, legal) = c.requires in
    let p = c.args.self.now in (
      problem,
      b,
      omega (arith, (put_room problem p c.args.label b legal).0, counted problem p b, long problem p b),
    )

pub own_with-own-requires : goal.own_with-own-requires
own_with-own-requires c =
    let (problem, b, legal) = c.requires in
    (problem, b, c.next_alone-next.ensures problem b, legal)

pub all_with-all-requires : goal.all_with-all-requires
all_with-all-requires c =
    let (problem, b, legal) = c.requires in
    let next = c.next_alone-next.ensures problem b in
    (problem, b, next, legal, c.own_with-own.ensures problem b next legal)

pub first_option-requires : goal.first_option-requires
first_option-requires c =
    let (problem, b, legal) = c.requires in
    (problem, b, c.next_alone-next.ensures problem b)

pub overflow_add-label : goal.overflow_add-label
overflow_add-label c =
    let (problem, b, legal) = c.requires in
    let (some, low) = put_room problem c.args.self.now c.args.label b legal in
    omega (arith, low, some, classes_few problem c.args.self.now b, few problem c.args.self.now b)

pub returns : goal.returns
returns c = λ problem b legal.
    let next = c.next_alone-next.ensures problem b in
    let own = c.own_with-own.ensures problem b next legal in
    let label = c.args.label in
    record {
      own = own;
      all = record {
        classes =
            c.max.ensures ∙ ap (λ n. max n (label + 1)) b.classes
            ∙ sym (classes_of-push (labels_of c.args.self.now) label);
        first = c.first_option.ensures problem b next label;
        load = c.all_with-all.ensures.load problem b next legal own;
        slack = c.all_with-all.ensures.slack problem b next legal own;
      };
    }
