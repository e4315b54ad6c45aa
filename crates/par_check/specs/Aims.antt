-- What subtrees are to show, as the judge of trees is told.
use Rattle.std.specs.Prelude.{ℕ, slice_index_or, Option, None, Some}
use Rattle.cert_check.specs.Said.{lemma_aim, main_aim}
use Rattle.cert_check.specs.declared.walk.Aim.{Aim}
use Rattle.par_check.specs.declared.shard.Goal.{Goal}

-- what a subtree of the main tree is to show, or one of the tree of a sender's lemma
abbrev pub aim_at : Goal → Option ℕ → Aim
aim_at goal None = main_aim goal.kind goal.best
aim_at goal (Some sender) = lemma_aim sender (slice_index_or goal.lemmas sender 0)
