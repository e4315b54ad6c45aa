use Rattle.std.proofs.Common.{◌≡◌, MatchOption, subst, min, arith}
use Rattle.bus_run.specs.declared.run.Release.{Release}
use Rattle.bus_run.proofs.NextLaws.{least_skip, least_with}
use Rattle.bus_run.proofs.unsent.least_queued.Goals as goal
use Rattle.bus_run.proofs.unsent.least_queued.Goals.{then-next-frame, else-next-frame}

pub loop-frame-preserved : goal.loop-frame-preserved
loop-frame-preserved c = elim c.if-next-frame.branch [
  | then-next-frame w ↦
      rw w.least-is (least_with c.args.run.now c.args.next.now c.loop-frame.frame c.loop-frame.least
      w.lesser.result c.loop-frame.invariant (omega arith)
      (subst (λ (r : Release). MatchOption c.loop-frame.least (w.lesser.result ≡ r.queued)
      (λ l. w.lesser.result ≡ min l r.queued)) w.release.ensures.value w.lesser.ensures))
  | else-next-frame w ↦
      rw w.least-is (least_skip c.args.run.now c.args.next.now c.loop-frame.frame c.loop-frame.least
      c.loop-frame.invariant (omega arith))
]
