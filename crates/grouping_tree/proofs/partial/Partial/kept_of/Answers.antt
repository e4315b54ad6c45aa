use Rattle.std.proofs.Common.{sym, subst, arith}
use Rattle.grouping_tree.specs.Class.{IsClass}
use Rattle.grouping_tree.specs.Grouped.{items_with}
use Rattle.grouping_tree.proofs.partial.Partial.kept_of.Goals as goal

pub index-requires : goal.index-requires
index-requires c =
    let (problem, b) = c.requires.belongs in
    omega (arith, b.held_room, c.requires.low)

pub returns : goal.returns
returns c = λ problem b.
    subst (IsClass problem (items_with problem c.args.self.now c.args.label)) (sym c.index.ensures)
    (b.kept c.args.label c.index.result.now c.requires.low)
