use Rattle.std.proofs.Common.{◌∙◌, arith}
use Rattle.grouping_tree.proofs.Fills.{fill_free, fill_pdus}
use Rattle.grouping_tree.proofs.class.Fill.frame_bytes.Goals as goal

pub returns-then-self-eq0 : goal.returns-then-self-eq0
returns-then-self-eq0 c = λ problem items is kind.
    c.div_ceil.ensures ∙ fill_free problem items c.args.self is c.if-self-eq0.true

pub returns-else-self-eq0 : goal.returns-else-self-eq0
returns-else-self-eq0 c = λ problem items is kind.
    fill_pdus problem items c.args.self c.header_bytes.result is kind (omega (arith, c.if-self-eq0.false))
    (c.header_bytes.ensures.value problem items is)
