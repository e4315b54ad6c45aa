-- What a verdict promises follows from the acceptance rule.
use Rattle.std.proofs.Common.{◌≡◌, ℕ, List, [], ◌∷◌, Option, None, Some, refl, sym, subst, ap, ◌∙◌}
use Rattle.pack_model.specs.Problem.{Parts}
use Rattle.matrix_rows.specs.declared.matrix.MatrixRow.{MatrixRow}
use Rattle.cert_text.specs.declared.parts.Kind.{Kind}
use Rattle.cert_text.specs.declared.parts.Kind.TheVariants.{KindBest, KindBetween, KindNoSolution, KindPlaced, KindTimed}
use Rattle.bandwidth_bound.specs.declared.verdict.Verdict.{Verdict}
use Rattle.bandwidth_bound.specs.declared.verdict.Verdict.TheVariants as verdict
use Rattle.bandwidth_bound.specs.Follows.{HasMatrix, HasTiming, Holds, NoneIsBetter, EachReaches}
use Rattle.bandwidth_bound.specs.Rule.{Accepts, Judged, best_of, load_in}
use Rattle.canpack_top.specs.Headline.{IsInTime, Promises}

-- of a kind that speaks of a matrix and its times
in_time : (judged : Judged) (load : ℕ) → Holds judged → HasMatrix judged.cert.kind judged.matrix → HasTiming judged.cert.kind judged.matrix
    → load ≡ load_in judged → IsInTime judged load
in_time judged load holds matrix timing is = record {
  one_place = holds.one_place matrix;
  never_late = holds.never_late timing;
  solvable = holds.solvable timing;
  load_is = is;
}

-- of the kind `open`: the load and the times where the matrix has rows
open_parts : (problem : Parts) (rows : List MatrixRow) (best : ℕ) → Some best ≡ best_of problem rows
    → HasMatrix KindBetween rows × HasTiming KindBetween rows
open_parts problem [] best is = cc
open_parts problem (row ∷ rows) best is = (tt, tt)

open_load : (judged : Judged) (rows : List MatrixRow) → judged.matrix ≡ rows → (best : ℕ) → Some best ≡ best_of judged.problem rows
    → best ≡ load_in judged
open_load judged [] e best is = cc
open_load judged (row ∷ rows) e best is = cc

-- what the verdict promises holds
pub promised : (judged : Judged) (shown : Verdict) → Accepts judged shown → Holds judged → Promises shown judged
promised judged verdict.Placed accepts holds = holds.one_place (subst (λ kind. HasMatrix kind judged.matrix) (sym accepts.of_kind) tt)
promised judged (verdict.Timed load) accepts holds =
    in_time judged load holds (subst (λ kind. HasMatrix kind judged.matrix) (sym accepts.of_kind.0) tt)
    (subst (λ kind. HasTiming kind judged.matrix) (sym accepts.of_kind.0) tt) accepts.of_kind.1
promised judged (verdict.Best load) accepts holds = (
  in_time judged load holds (subst (λ kind. HasMatrix kind judged.matrix) (sym accepts.of_kind.0) tt)
      (subst (λ kind. HasTiming kind judged.matrix) (sym accepts.of_kind.0) tt) accepts.of_kind.1,
  subst (NoneIsBetter judged.problem) (sym accepts.of_kind.1) (holds.best accepts.of_kind.0),
)
promised judged verdict.NoSolution accepts holds = holds.no_solution accepts.of_kind
promised judged (verdict.Between None lower) accepts holds =
    subst (EachReaches judged.problem) (sym accepts.of_kind.2) (holds.between accepts.of_kind.0)
promised judged (verdict.Between (Some best) lower) accepts holds =
    let parts : HasMatrix KindBetween judged.matrix × HasTiming KindBetween judged.matrix = open_parts judged.problem judged.matrix best accepts.of_kind.1 in (
      in_time judged best holds (subst (λ kind. HasMatrix kind judged.matrix) (sym accepts.of_kind.0) parts.0)
          (subst (λ kind. HasTiming kind judged.matrix) (sym accepts.of_kind.0) parts.1) (open_load judged judged.matrix refl best accepts.of_kind.1),
      subst (EachReaches judged.problem) (sym accepts.of_kind.2) (holds.between accepts.of_kind.0),
    )
