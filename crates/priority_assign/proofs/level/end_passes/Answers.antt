use Rattle.priority_assign.proofs.SentOnce.{late_at_end}
use Rattle.priority_assign.proofs.level.end_passes.Goals as goal

-- a frame that is late does not pass
pub returns-else-may_pass : goal.returns-else-may_pass
returns-else-may_pass c = (
  λ no. cc,
  λ passes. absurd (late_at_end c.args.frames.now c.args.level.now c.args.blocked c.args.bit c.args.times c.requires.named c.requires.bit
      c.requires.some c.requires.times (c.may_pass.ensures c.if-may_pass.false) passes),
)
