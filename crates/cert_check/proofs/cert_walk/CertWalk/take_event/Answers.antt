use Rattle.std.proofs.Common.{subst, sym}
use Rattle.cert_check.specs.Said.{and_said}
use Rattle.cert_check.specs.Taken.{StoresMore, load_in}
use Rattle.cert_check.proofs.cert_walk.CertWalk.take_event.Goals as goal

pub returns-in-Head : goal.returns-in-Head
returns-in-Head c =
    subst (λ event. StoresMore c.args.problem.now c.args.self.now c.take_kind.new.self
    (λ s. and_said (load_in c.args.self.now.placing) s event)) (sym c.in-Head.is)
    (c.take_kind.ensures c.args.problem.now)

pub returns-in-Finish : goal.returns-in-Finish
returns-in-Finish c =
    subst (λ event. StoresMore c.args.problem.now c.args.self.now c.take_finish.new.self
    (λ s. and_said (load_in c.args.self.now.placing) s event)) (sym c.in-Finish.is)
    (c.take_finish.ensures c.args.problem.now)

pub returns-in-FrameOf : goal.returns-in-FrameOf
returns-in-FrameOf c =
    subst (λ event. StoresMore c.args.problem.now c.args.self.now c.take_line.new.self
    (λ s. and_said (load_in c.args.self.now.placing) s event)) (sym c.in-FrameOf.is) c.take_line.ensures
