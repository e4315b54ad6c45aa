use Rattle.std.proofs.Common.{true, ap, subst, ◌∙◌, Ok}
use Rattle.matrix_text.specs.MatrixText.{MatrixText, matrix_text}
use Rattle.cert_text.specs.Lines.{cert_lines, text_of}
use Rattle.cert_text.specs.Parts.{CertParts}
use Rattle.cert_text.specs.Written.{written_cert}
use Rattle.canpack_top.specs.Plan.{IsMade, planned_cert, planned_matrix}
use Rattle.canpack_top.specs.Verdict.{verdict_line}
use Rattle.canpack_top.proofs.planning.plan_texts.Goals as goal

pub returns : goal.returns
unfolding planned_cert planned_matrix
returns c =
    let made : IsMade c.args.problem.now c.args.branches c.in_ok-made.made = c.in_ok-made.ensures in
    record {
      plan = made.plan;
      is_for = made.is_for;
      matrix = c.in_ok-write_matrix.ensures.exact ∙ ap matrix_text made.matrix;
      cert =
          c.in_ok-write_cert.ensures.exact
          ∙ ap (λ (parts : CertParts). text_of (cert_lines (written_cert true parts))) made.cert;
      status_is = made.status_is;
      line = c.in_ok-found_line.ensures ∙ (λ i. verdict_line (c.hyper.ensures.hyper i) (made.shown i));
      matrix_reads =
          subst (MatrixText c.in_ok-write_matrix.field-0.items) made.matrix c.in_ok-write_matrix.ensures.reads_back;
      cert_reads = c.in_ok-write_cert.ensures.reads_back ∙ ap Ok made.cert;
      accepted = made.accepted;
      holds = made.holds;
    }
