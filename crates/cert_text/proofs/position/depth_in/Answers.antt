use Rattle.std.proofs.Common.{arith}
use Rattle.cert_text.proofs.Runs.{depth_found, depth_less, depth_none}
use Rattle.cert_text.proofs.position.depth_in.Goals as goal

pub returns-then-run-gt0 : goal.returns-then-run-gt0
returns-then-run-gt0 c =
    depth_found c.args.runs.now c.loop-place.place _ c.depth_at.result c.loop-place-test.true c.loop-place.invariant.1 c.loop-place.invariant.0 c.if-run-gt0.true c.depth_at.ensures

pub loop-place-preserved : goal.loop-place-preserved
loop-place-preserved c = (
  depth_less c.args.runs.now c.loop-place.place _ c.loop-place-test.true c.loop-place.invariant.1 c.loop-place.invariant.0 c.if-run-gt0.false,
  omega (arith, c.loop-place.invariant.1),
)

pub returns : goal.returns
returns c = depth_none c.args.runs.now c.loop-place.place c.loop-place.invariant.0 (omega arith)
