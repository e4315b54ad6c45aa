use Rattle.std.proofs.Common.{◌≡◌, ◌≤◌, ◌∙◌, Ok, length, subst, sym, arith}
use Rattle.matrix_text.specs.MatrixText.{MatrixText}
use Rattle.cert_text.specs.Reading.{cert_of_text}
use Rattle.plan_search.specs.Plan.{cert_of_plan, judged_plan, matrix_of_plan}
use Rattle.canpack_top.specs.Command.{Names, names_of}
use Rattle.canpack_top.specs.Files.{size_limit}
use Rattle.canpack_top.specs.Meaning.{seen}
use Rattle.canpack_top.specs.Plan.{AreMade, PlanShows}
use Rattle.canpack_top.proofs.Accepted.{Differ, differ, reads_and, rewritten, written_reads}
use Rattle.canpack_top.proofs.plan.write_plan.Goals as goal

pub returns-in-Ok-clause-written : goal.returns-in-Ok-clause-written
returns-in-Ok-clause-written g c =
    let made : AreMade c.args.problem.now c.args.branches c.in_ok-texts.texts = c.in_ok-texts.ensures in
    record {
      plan = made.plan;
      is_for = made.is_for;
      answers = λ i. record { status = made.status_is i; line = made.line i };
      written = rewritten (names_of c.args.names) _ _ _ _ _ _
          (c.deref.ensures.value ∙ made.matrix)
          (c.deref-2.ensures.value ∙ made.cert) c.in-Ok.ensures.ok;
    }

pub returns-in-Ok-clause-accepted : goal.returns-in-Ok-clause-accepted
returns-in-Ok-clause-accepted g c = λ told stands.
    let names : Names = names_of c.args.names in
    let made : AreMade c.args.problem.now c.args.branches c.in_ok-texts.texts = c.in_ok-texts.ensures in
    let apart : Differ names = differ names c.requires.names in
    let matrix_small : length c.deref.result.now ≤ size_limit = omega arith in
    let cert_small : length c.deref-2.result.now ≤ size_limit = omega arith in
    reads_and names _ (judged_plan c.args.problem.now made.plan)
    (PlanShows c.args.branches (seen (record { status = c.in_ok-texts.texts.status; line = c.in_ok-texts.texts.line })))
    (written_reads names _ _ c.args.problem.now (matrix_of_plan made.plan) (cert_of_plan made.plan)
    c.deref.result.now c.deref-2.result.now
    told c.in-Ok.ensures.ok stands apart.network_matrix apart.network_cert apart.signals_matrix
    apart.signals_cert matrix_small cert_small
    (subst (λ text. MatrixText text (matrix_of_plan made.plan)) (sym c.deref.ensures.value) made.matrix_reads)
    (subst (λ text. cert_of_text text ≡ Ok (cert_of_plan made.plan)) (sym c.deref-2.ensures.value)
    made.cert_reads))
    (record {
      plan = made.plan;
      is_for = made.is_for;
      answers = λ i. record { status = made.status_is i; line = made.line i };
      accepted = made.accepted;
      holds = made.holds;
    })
