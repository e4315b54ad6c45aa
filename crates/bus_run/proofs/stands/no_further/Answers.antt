use Rattle.std.proofs.Common.{inl, inr, max, length, refl, arith}
use Rattle.std.proofs.lemmas.Bool.{leb-true, le-leb, cases_lt}
use Rattle.bus_run.specs.Run.{end_before}
use Rattle.bus_run.proofs.NextLaws.{none_further, no_further_by_least, further_by_least}
use Rattle.bus_run.proofs.stands.no_further.Goals as goal

pub returns-in-Some : goal.returns-in-Some
returns-in-Some c = (
  λ it. no_further_by_least c.args.run.now c.args.next.now c.in-Some.least c.requires.below c.requires.next
      c.requires.order c.in-Some.ensures
      (omega (arith, leb-true c.until.result c.max.result it)),
  λ none. le-leb c.until.result c.max.result
      (elim (cases_lt (max (end_before c.args.run.now (length c.args.run.now.sends)) c.in-Some.least)
      c.args.run.now.until) [
        | inl less ↦ absurd (further_by_least c.args.run.now c.args.next.now c.in-Some.least c.requires.below
            c.requires.next c.in-Some.ensures less none)
        | inr le ↦ omega arith
      ]),
)

pub returns-in-None : goal.returns-in-None
returns-in-None c = (
  λ _. none_further c.args.run.now c.args.next.now c.requires.below c.requires.next c.in-None.ensures,
  λ _. refl,
)
