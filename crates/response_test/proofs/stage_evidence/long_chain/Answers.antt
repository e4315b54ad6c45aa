use Rattle.std.proofs.lemmas.Result.{IfOk-weaker}
use Rattle.response_test.proofs.Climbs.{long_from_climb}
use Rattle.response_test.proofs.stage_evidence.long_chain.Goals as goal

pub returns-clause-long : goal.returns-clause-long
returns-clause-long c =
    IfOk-weaker _ _ _ (λ chain. long_from_climb c.args.frames.now c.args.order.now c.args.place chain c.requires.stage)
    (rw c.time_above-until.ensures at c.level_climb.ensures)
