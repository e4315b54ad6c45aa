use Rattle.std.proofs.Common.{◌-◌, refl, subst}
use Rattle.par_check.specs.Gathered.{Gathers}
use Rattle.par_check.proofs.Gatherings.{begin_none, begin_some}
use Rattle.par_check.proofs.gathering.Gathering.begin.Goals as goal

pub returns-then-subtrees-eq0 : goal.returns-then-subtrees-eq0
returns-then-subtrees-eq0 c =
    subst (Gathers c.args.self.nodes.items c.put.result)
    (begin_none c.args.subtrees c.new.result c.if-subtrees-eq0.true c.new.ensures.items) c.put.ensures

pub returns : goal.returns
returns c =
    begin_some c.args.subtrees c.args.self.nodes.items c.push.new.self.items
    (record { lacking = c.args.subtrees - 1; subtrees = c.new-2.result }) c.if-subtrees-eq0.false refl
    c.new-2.ensures.items c.in_ok-push.ensures.items
