use Rattle.std.proofs.Common.{All, sym, ap, subst, ◌∙◌}
use Rattle.matrix_rows.specs.Row.{RowInRange}
use Rattle.placed_matrix.specs.Placed.{Placed}
use Rattle.placed_matrix.specs.Frames.{grouping_of, order_of}
use Rattle.matrix_layout.proofs.LaidPlaced.{placed_laid}
use Rattle.matrix_layout.proofs.LaidGrouping.{laid_grouping, laid_order}
use Rattle.matrix_layout.proofs.LaidRange.{laid_in_range}
use Rattle.matrix_layout.proofs.layout.matrix_of.Goals as goal

pub of-requires : goal.of-requires
of-requires c =
    subst (All RowInRange) (sym c.in_ok-rows.ensures.rows)
    (laid_in_range c.args.problem.now c.args.labels.now c.args.order.now c.laid_rows.ensures.problem
    c.laid_rows.ensures.sorted c.requires.legal c.requires.order)

pub returns-clause-placed : goal.returns-clause-placed
returns-clause-placed c =
    subst (Placed c.args.problem.now) (sym (c.of.ensures ∙ c.in_ok-rows.ensures.rows))
    (placed_laid c.args.problem.now c.args.labels.now c.args.order.now c.laid_rows.ensures.problem
    c.laid_rows.ensures.sorted c.requires.legal c.requires.order)

pub returns-clause-grouping : goal.returns-clause-grouping
returns-clause-grouping c = ap (grouping_of c.args.problem.now) (c.of.ensures ∙ c.in_ok-rows.ensures.rows)
    ∙ laid_grouping c.args.problem.now c.args.labels.now c.args.order.now c.laid_rows.ensures.problem
    c.laid_rows.ensures.sorted c.requires.legal c.requires.order

pub returns-clause-order : goal.returns-clause-order
returns-clause-order c = ap (order_of c.args.problem.now) (c.of.ensures ∙ c.in_ok-rows.ensures.rows)
    ∙ laid_order c.args.problem.now c.args.labels.now c.args.order.now c.laid_rows.ensures.problem
    c.laid_rows.ensures.sorted c.requires.legal c.requires.order
