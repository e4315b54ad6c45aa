use Rattle.placed_matrix.proofs.MemberRows.{ItemsApart}
use Rattle.placed_matrix.proofs.Together.{RelatedBelow}
use Rattle.placed_matrix.proofs.checks.parts_begin_apart.Given as goal

-- the parts of the items so far begin apart
abbrev pub invariant-loop-number : goal.invariant-loop-number
invariant-loop-number l = RelatedBelow (ItemsApart l.rows l.row_of) l.items l.number
