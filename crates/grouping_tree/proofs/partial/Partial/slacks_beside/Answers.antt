use Rattle.std.proofs.Common.{ap, sym, ◌∙◌, true≢false}
use Rattle.grouping_tree.specs.Grouped.{labels_of, range_of}
use Rattle.grouping_tree.specs.Slack.{slack_in_work}
use Rattle.grouping_tree.proofs.Work.{no_slacks}
use Rattle.grouping_tree.proofs.partial.Partial.slacks_beside.Goals as goal

pub returns-then-is_in_work : goal.returns-then-is_in_work
returns-then-is_in_work c = λ problem b is.
    let p = c.args.self.now in
    b.slack
    ∙ ap (slack_in_work problem (range_of problem p) (labels_of p))
    ((c.is_in_work.ensures problem b is).0 c.if-is_in_work.true)

pub returns-else-is_in_work : goal.returns-else-is_in_work
returns-else-is_in_work c = λ problem b is.
    sym (no_slacks problem c.args.self.now c.args.next.now b is
    (λ same. true≢false (sym ((c.is_in_work.ensures problem b is).1 same) ∙ c.if-is_in_work.false)))
