use Rattle.std.proofs.Common.{◌≡◌, ◌+◌, ◌-◌, ◌/◌, length, sym, ap, subst, ◌∙◌, arith}
use Rattle.std.proofs.Math.Nat.{div-le_self}
use Rattle.plan_search.specs.Begin.{share_of}
use Rattle.plan_search.specs.Takes.{Took, turns_of}
use Rattle.plan_search.proofs.TurnLaws.{senders-few}
use Rattle.plan_search.proofs.TurnSteps.{count-is, turn-fits, turn-more}
use Rattle.plan_search.proofs.turns.take_turns.Goals as goal
use Rattle.plan_search.proofs.turns.take_turns.Goals.{in-Some+in_ok-take, in_default}

pub overflow_add-senders : goal.overflow_add-senders
overflow_add-senders c =
    let few = senders-few c.args.problem.now c.turn_count-senders.ensures.problem in
    omega (
      arith,
      few,
      c.turn_count-senders.ensures.count,
      count-is c.args.problem.now c.loop-sender.sender
          (omega (arith, c.loop-sender-test.true, c.turn_count-senders.ensures.count)),
    )

pub take-requires : goal.take-requires
take-requires c =
    omega (
      arith,
      turn-fits c.args.problem.now c.turn_count-senders.ensures.problem c.loop-sender.sender
          (c.loop-sender.taken.left / c.from.result) c.in_ok-ended.field-0 c.in-Some.ended
          c.in_ok-ended.ensures
          c.in-Some.is,
      div-le_self c.loop-sender.taken.left c.from.result,
    )

pub loop-sender-preserved : goal.loop-sender-preserved
loop-sender-preserved c =
    let problem = c.args.problem.now in
    let n = c.loop-sender.sender in
    let left = c.loop-sender.taken.left in
    let all = count-is problem n (omega (arith, c.loop-sender-test.true, c.turn_count-senders.ensures.count))
    in
    let waiting : c.from.result ≡ length problem.senders - n + 1 =
    omega (arith, c.from.ensures, c.turn_count-senders.ensures.count, all) in
    let same : left / c.from.result ≡ share_of left (length problem.senders - n) =
    ap (λ d. left / d) waiting in
    turn-more problem c.args.branches n (turns_of c.loop-sender.taken) (turns_of c.match-branch-2.taken)
    (left / c.from.result) c.in_ok-ended.field-0 c.loop-sender.invariant c.in_ok-ended.ensures same
    (elim c.match-branch-2.branch [
      | in-Some+in_ok-take w ↦
          subst (λ given. Took given (turns_of c.loop-sender.taken) (turns_of c.match-branch-2.taken))
          (sym w.in-Some.is) (ap turns_of w.taken-is ∙ w.in_ok-take.ensures)
      | in_default w ↦
          subst (λ given. Took given (turns_of c.loop-sender.taken) (turns_of c.match-branch-2.taken))
          (sym w.in_default.is) (ap turns_of w.taken-is)
    ])
