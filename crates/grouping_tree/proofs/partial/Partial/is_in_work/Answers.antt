use Rattle.std.proofs.Common.{◌-◌, arith}
use Rattle.grouping_tree.proofs.Work.{in_work_is, no_work}
use Rattle.grouping_tree.proofs.partial.Partial.is_in_work.Goals as goal

pub returns-then-self-gt0 : goal.returns-then-self-gt0
returns-then-self-gt0 c = λ problem b is.
    in_work_is problem c.args.self.now (c.args.self.now.count - 1) c.args.next.now.fill.sender c.index.result.now b
    (omega arith) c.index.ensures

pub returns-else-self-gt0 : goal.returns-else-self-gt0
returns-else-self-gt0 c = λ problem b is.
    no_work problem c.args.self.now c.args.next.now.fill.sender c.if-self-gt0.false
