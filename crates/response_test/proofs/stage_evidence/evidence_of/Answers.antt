use Rattle.response_test.proofs.Climbs.{first_late_denies}
use Rattle.response_test.proofs.Denials.{over_denies}
use Rattle.response_test.proofs.stage_evidence.evidence_of.Goals as goal

-- where there is evidence the frame doesn't pass
pub returns-then-is_over-clause-none : goal.returns-then-is_over-clause-none
returns-then-is_over-clause-none c = (
  λ wrong. absurd cc,
  λ passes. absurd (over_denies _ _ _ _ _ c.requires.stage c.requires.hyper (c.is_over.ensures.0 c.if-is_over.true) passes),
)

pub returns-clause-none : goal.returns-clause-none
returns-clause-none c = (
  λ wrong. absurd cc,
  λ passes. absurd (first_late_denies _ _ _ _ _ c.in-Some-first_failing.ensures.late passes),
)
