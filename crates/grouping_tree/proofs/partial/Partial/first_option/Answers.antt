use Rattle.std.proofs.Common.{sym, ◌∙◌, true≢false}
use Rattle.grouping_tree.proofs.Work.{earlier_all, earlier_stays}
use Rattle.grouping_tree.proofs.partial.Partial.first_option.Goals as goal

pub returns-then-is_in_work : goal.returns-then-is_in_work
returns-then-is_in_work c = λ problem b is label.
    earlier_stays problem c.args.self.now c.args.next.now label b is
    ((c.is_in_work.ensures problem b is).0 c.if-is_in_work.true)

pub returns-else-is_in_work : goal.returns-else-is_in_work
returns-else-is_in_work c = λ problem b is label.
    earlier_all problem c.args.self.now c.args.next.now label b is
    (λ same. true≢false (sym ((c.is_in_work.ensures problem b is).1 same) ∙ c.if-is_in_work.false))
