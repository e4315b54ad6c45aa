use Rattle.std.proofs.Common.{arith}
use Rattle.std.proofs.lemmas.Bool.Decides.{nat_tests}
use Rattle.ipdu_layout.proofs.Places.{Meets-from_bounds, bounds-from_Meets}
use Rattle.ipdu_layout.proofs.place.meets.Goals as goal

pub returns : goal.returns
returns c = (
  λ t. Meets-from_bounds _ _ (grind (arith, nat_tests)),
  λ m. let e =
      bounds-from_Meets c.args.place c.args.other m in grind (arith, nat_tests),
)
