use Rattle.std.proofs.Common.{arith}
use Rattle.cert_check.specs.Places.{labels_at}
use Rattle.cert_check.proofs.PlaceSteps.{last_low, over_on, place_back, place_next}
use Rattle.cert_check.proofs.node_place.NodePlace.leave.Goals as goal

pub overflow_add-last : goal.overflow_add-last
overflow_add-last c =
    omega (
      arith,
      last_low c.args.problem.now c.loop-self.self (labels_at c.take_last-last.new.self) c.take_last-last.result
          c.loop-self.invariant.place c.take_last-last.ensures.labels,
    )

pub returns-in-Some-clause-next : goal.returns-in-Some-clause-next
returns-in-Some-clause-next c = λ e.
    place_next c.args.problem.now c.args.self.now c.loop-self.self c.take_last-last.new.self c.take_last-last.result
    c.take_last-last.ensures.over c.take_last-last.ensures.put c.take_last-last.ensures.labels c.loop-self.invariant.left
    c.go_down.new.self c.in-Some.label c.go_down.ensures.over c.in-Some.ensures.option c.go_down.ensures.labels

pub loop-self-preserved : goal.loop-self-preserved
loop-self-preserved c = record {
  place = c.take_last-last.ensures.place;
  over = over_on c.args.problem.now c.args.self.now c.loop-self.self c.take_last-last.new.self
      c.loop-self.invariant.over c.take_last-last.ensures.over;
  left =
      place_back c.args.problem.now c.args.self.now c.loop-self.self c.take_last-last.new.self c.take_last-last.result
      c.take_last-last.ensures.over c.take_last-last.ensures.put c.take_last-last.ensures.labels c.loop-self.invariant.left
      c.in_default.ensures.option;
}
