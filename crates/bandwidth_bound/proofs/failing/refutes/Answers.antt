use Rattle.std.proofs.Common.{◌≡◌, length, sym, ◌∙◌, arith}
use Rattle.std.proofs.lemmas.Bool.{eqb-true, false≢true}
use Rattle.bandwidth_bound.proofs.FinalNamed.{length-refuted}
use Rattle.bandwidth_bound.proofs.failing.refutes.Goals as goal
use Rattle.bandwidth_bound.proofs.failing.refutes.Goals.{then-is_empty-via-then-is_empty, then-is_empty-via-else-is_empty+then-named-frames}

pub returns-then-is_empty : goal.returns-then-is_empty
returns-then-is_empty c = (
  λ t. absurd (false≢true t),
  λ all. elim c.then-is_empty.branch [
    | then-is_empty-via-then-is_empty w ↦
        let none : length c.args.named.now ≡ 0 =
        eqb-true (length c.args.named.now) 0 (sym c.is_empty.ensures ∙ w.if-is_empty.true) in
        absurd (omega (arith, none, all.some))
    | then-is_empty-via-else-is_empty+then-named-frames w ↦
        let few = length-refuted c.args.frames.now c.args.bit c.args.hyper c.args.named.now all in
        absurd (omega (arith, w.if-named-frames.true, few))
  ],
)
