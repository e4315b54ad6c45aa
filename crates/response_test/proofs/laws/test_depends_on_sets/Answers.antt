use Rattle.std.proofs.Common.{sym}
use Rattle.response_test.proofs.Starts.{queueing-same_sets}
use Rattle.response_test.proofs.Verdicts.{same_set_back, passes-same_sets}
use Rattle.response_test.proofs.laws.test_depends_on_sets.Goals as goal

pub returns-clause-queueing : goal.returns-clause-queueing
returns-clause-queueing c = queueing-same_sets

pub returns-clause-passes : goal.returns-clause-passes
returns-clause-passes c =
    λ frames own higher lower higher' lower' distinct distinct' same blocked bit. (
      passes-same_sets frames own higher lower higher' lower' distinct distinct' same blocked bit,
      passes-same_sets frames own higher' lower' higher lower distinct' distinct (same_set_back higher higher' same) (sym blocked) bit,
    )
