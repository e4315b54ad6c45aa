use Rattle.response_test.proofs.Denials.{over_denies, long_denies, late_denies}
use Rattle.response_test.proofs.refutation.refuted_blocked.Goals as goal

-- each kind of evidence denies passing
pub returns-in-Over-clause-fails : goal.returns-in-Over-clause-fails
returns-in-Over-clause-fails c = λ stands. over_denies _ _ _ _ _ c.requires.stage c.requires.hyper (c.is_over.ensures.0 stands)

pub returns-in-Long-clause-fails : goal.returns-in-Long-clause-fails
returns-in-Long-clause-fails c = λ stands. long_denies _ _ _ _ _ (c.is_long.ensures.0 stands)

pub returns-in-Late-clause-fails : goal.returns-in-Late-clause-fails
returns-in-Late-clause-fails c = λ stands. late_denies _ _ _ _ _ _ _ c.requires.stage (c.is_late.ensures.0 stands)
