use Rattle.std.proofs.Common.{All, subst, sym}
use Rattle.matrix_text.specs.Row.{RowInRange}
use Rattle.cert_text.specs.Written.{CertFits}
use Rattle.cert_check.proofs.AcceptedLaws.{accepted_holds}
use Rattle.plan_search.specs.declared.planned.Planned.{Planned}
use Rattle.plan_search.specs.Plan.{judged_plan, verdict_of_plan}
use Rattle.canpack_top.proofs.planning.make_plan.Goals as goal

pub returns : goal.returns
returns c =
    let plan : Planned = c.in_ok-planned.field-0.planned in
    record {
      plan = plan;
      is_for = record {
        exact = c.in_ok-planned.ensures.exact;
        trimmed = c.in_ok-planned.ensures.trimmed;
        within = c.in_ok-planned.ensures.within;
      };
      matrix = c.outcome_of-status.ensures.matrix;
      cert = c.outcome_of-status.ensures.cert;
      status_is = c.outcome_of-status.ensures.status;
      shown = c.in_ok-planned.ensures.verdict;
      accepted = c.in_ok-planned.ensures.accepted;
      holds = accepted_holds (judged_plan c.args.problem.now plan) (verdict_of_plan c.args.problem.now plan)
          c.parts_stand.ensures.problem c.parts_stand.ensures.sorted
          (subst (All RowInRange) c.outcome_of-status.ensures.matrix c.parts_stand.ensures.in_range)
          c.in_ok-planned.ensures.accepted;
      fits = subst CertFits (sym c.outcome_of-status.ensures.cert) c.in_ok-planned.ensures.fits;
    }
