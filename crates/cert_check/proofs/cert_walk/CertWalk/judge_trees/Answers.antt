use Rattle.std.proofs.Common.{Ok, ap, refl, subst, ◌∙◌}
use Rattle.std.specs.Prelude.{unwrap_or}
use Rattle.cert_text.specs.declared.parts.Kind.TheVariants.{KindPlaced, KindTimed, KindBetween, KindBest, KindNoSolution}
use Rattle.bandwidth_bound.specs.declared.verdict.Verdict.TheVariants as verdict
use Rattle.cert_check.specs.Taken.{IsClosed, IsOpen, load_in}
use Rattle.cert_check.proofs.Judged.{answer_by}
use Rattle.cert_check.proofs.cert_walk.CertWalk.judge_trees.Goals as goal

pub judge_open-requires : goal.judge_open-requires
judge_open-requires c = c.best-best.ensures.room c.requires.0 c.requires.1

pub returns-in-KindPlaced : goal.returns-in-KindPlaced
returns-in-KindPlaced c = λ problem rows s stores.
    answer_by problem rows c.args.self.now s stores c.args.lower (load_in c.args.self.now.placing) KindPlaced
    c.in-KindPlaced.is (Ok verdict.Placed) refl

pub returns-in-KindTimed : goal.returns-in-KindTimed
returns-in-KindTimed c = λ problem rows s stores.
    answer_by problem rows c.args.self.now s stores c.args.lower (load_in c.args.self.now.placing) KindTimed
    c.in-KindTimed.is (Ok (verdict.Timed c.unwrap_or-load.result))
    (ap (λ load. Ok (verdict.Timed load))
    (c.unwrap_or-load.ensures ∙ ap (λ best. unwrap_or best 0) c.best-best.ensures.value))

pub returns-in-KindBetween : goal.returns-in-KindBetween
returns-in-KindBetween c = λ problem rows s stores.
    answer_by problem rows c.args.self.now s stores c.args.lower (load_in c.args.self.now.placing) KindBetween
    c.in-KindBetween.is c.judge_open.result
    (subst (λ best. IsOpen c.args.self.now c.args.lower best c.judge_open.result) c.best-best.ensures.value
    c.judge_open.ensures)

pub returns-in-KindBest : goal.returns-in-KindBest
returns-in-KindBest c = λ problem rows s stores.
    answer_by problem rows c.args.self.now s stores c.args.lower (load_in c.args.self.now.placing) KindBest
    c.in-KindBest.is c.judge_closed.result
    (subst (λ load. IsClosed c.args.self.now (verdict.Best load) c.judge_closed.result)
    (c.unwrap_or-load.ensures ∙ ap (λ best. unwrap_or best 0) c.best-best.ensures.value) c.judge_closed.ensures)

pub returns-in-KindNoSolution : goal.returns-in-KindNoSolution
returns-in-KindNoSolution c = λ problem rows s stores.
    answer_by problem rows c.args.self.now s stores c.args.lower (load_in c.args.self.now.placing) KindNoSolution
    c.in-KindNoSolution.is c.judge_closed-in-KindNoSolution.result c.judge_closed-in-KindNoSolution.ensures
