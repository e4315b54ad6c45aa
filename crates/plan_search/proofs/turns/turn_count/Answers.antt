use Rattle.std.proofs.Common.{arith, ap, length}
use Rattle.plan_search.proofs.TurnLaws.{senders-few}
use Rattle.plan_search.proofs.turns.turn_count.Goals as goal

pub overflow_cast-result : goal.overflow_cast-result
overflow_cast-result c =
    omega (
      arith,
      ap length c.senders-senders.ensures.senders,
      senders-few c.args.problem.now c.senders-senders.ensures.problem,
    )
