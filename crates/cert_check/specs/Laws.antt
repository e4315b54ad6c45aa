-- Laws of the acceptance rule and of the walk over events: the project's own.
use Rattle.std.specs.Prelude.{◌≡◌, ◌++◌, All, List, false, map}
use Rattle.pack_model.specs.Problem.{Parts, IsProblem, IsSorted}
use Rattle.matrix_rows.specs.declared.matrix.MatrixRow.{MatrixRow}
use Rattle.matrix_text.specs.Row.{RowInRange}
use Rattle.cert_text.specs.CertEvents.{tree_events}
use Rattle.cert_text.specs.Trees.{Marked, unmark}
use Rattle.grouping_tree.specs.Walk.{places_left}
use Rattle.bandwidth_bound.specs.declared.verdict.Verdict.{Verdict}
use Rattle.bandwidth_bound.specs.Follows.{Holds}
use Rattle.bandwidth_bound.specs.Rule.{Accepts, Judged}
use Rattle.cert_check.specs.declared.cert_walk.CertWalk.{CertWalk}
use Rattle.cert_check.specs.Entries.{Entry, as_event}
use Rattle.cert_check.specs.Nodes.{TakesTree}
use Rattle.cert_check.specs.Places.{labels_at}
use Rattle.cert_check.specs.Taken.{Taken, falls, way_in}
use Rattle.cert_check.specs.Walk.{goal_in, items_of}

-- of a problem and a matrix with figures in their ranges, what is accepted with a verdict holds
abbrev pub AcceptedHolds : Type 0
AcceptedHolds = (judged : Judged) (shown : Verdict) → IsProblem judged.problem
    → IsSorted judged.problem.signals judged.problem.items → All RowInRange judged.matrix
    → Accepts judged shown → Holds judged

-- where all trees stand so far and the next node has a place, the events of a tree take a walk from that place
-- to the next
abbrev pub SubtreeTaken : Type 0
SubtreeTaken = (problem : Parts) (rows : List MatrixRow) (before after : CertWalk) (entries : List Entry)
    (tree : Marked) → Taken before problem rows entries
    → Taken after problem rows (entries ++ map as_event (tree_events tree)) → falls before ≡ false → before.walk.over ≡ false
    → TakesTree (goal_in problem before.walk) (labels_at before.walk.place)
    (places_left (items_of problem before.walk) 0 (labels_at before.walk.place)) (way_in problem before)
    (way_in problem after) (unmark tree)
