use Rattle.std.proofs.Common.{nat_le, sym, ap, ◌∙◌}
use Rattle.grouping_tree.specs.Class.{together}
use Rattle.grouping_tree.proofs.Fills.{fill_heavy, fill_light}
use Rattle.grouping_tree.proofs.class.Fill.may_join.Goals as goal

pub returns-then-self-other-gt512-clause-fits : goal.returns-then-self-other-gt512-clause-fits
returns-then-self-other-gt512-clause-fits c = λ problem items alike is kind.
    sym (fill_heavy problem items (together c.args.self c.args.other) is kind c.if-self-other-gt512.true)

pub returns-then-self-other-eq0-clause-fits : goal.returns-then-self-other-eq0-clause-fits
returns-then-self-other-eq0-clause-fits c = λ problem items alike is kind.
    sym (fill_light problem items (together c.args.self c.args.other) is c.if-self-other-eq0.true
    c.if-self-other-gt512.false)

pub returns-then-is_like-clause-fits : goal.returns-then-is_like-clause-fits
returns-then-is_like-clause-fits c = λ problem items alike is kind.
    ap (λ n. nat_le n 64) (c.frame_bytes.ensures problem items (c.join.ensures ∙ is) kind)
