use Rattle.std.proofs.Common.{◌≡◌, length, sym, ap, subst, arith}
use Rattle.pack_model.proofs.Laws.{tests}
use Rattle.class_frame.specs.Legal.{IsLegal}
use Rattle.class_frame.proofs.GroupingLaws.{classes_of-le-length}
use Rattle.plan_search.specs.Begin.{put_together}
use Rattle.plan_search.proofs.BySender.{legal-all}
use Rattle.plan_search.proofs.first.timed_together.Goals as goal

pub put_together-requires : goal.put_together-requires
put_together-requires c =
    let problem = c.args.problem.now in
    let groupings = c.args.groupings.now in
    let all : length groupings ≡ length problem.senders =
    omega (arith, c.if-groupings-senders.false, ap length c.senders-senders.ensures.senders) in
    let legal : IsLegal problem.items (put_together 0 groupings) =
    legal-all problem groupings c.senders-senders.ensures.problem all
    (λ s lt. c.requires all s (omega (arith, lt, all))) in
    omega (
      arith,
      classes_of-le-length problem.items (put_together 0 groupings) legal.grouping,
      (tests problem c.senders-senders.ensures.problem).few_items,
    )

pub timed-requires : goal.timed-requires
timed-requires c =
    let problem = c.args.problem.now in
    let groupings = c.args.groupings.now in
    let all : length groupings ≡ length problem.senders =
    omega (arith, c.if-groupings-senders.false, ap length c.senders-senders.ensures.senders) in
    subst (IsLegal problem.items) (sym c.in_ok-labels.ensures)
    (legal-all problem groupings c.senders-senders.ensures.problem all
    (λ s lt. c.requires all s (omega (arith, lt, all))))
