use Rattle.std.proofs.Common.{ap, subst, ◌∙◌}
use Rattle.std.specs.Prelude.{All}
use Rattle.std.proofs.lemmas.Result.{IfOk-weaker}
use Rattle.csv_table.proofs.RoundTrip.{written}
use Rattle.matrix_rows.specs.MatrixText.{ReadsBack, matrix_of_text, matrix_text}
use Rattle.matrix_rows.proofs.TextLaws.{matrix_back}
use Rattle.matrix_rows.proofs.text.write_matrix.Goals as goal

pub returns-clause-exact : goal.returns-clause-exact
returns-clause-exact c =
    IfOk-weaker c.finish.result _ _ (λ v e.
    written v.items _ _ _ _ _ e c.in_ok-write_rows.ensures.text c.in_ok-row.ensures.text
    c.new-out.ensures.text ∙ ap matrix_text c.rows.ensures.rows) c.finish.ensures

pub returns-clause-reads_back : goal.returns-clause-reads_back
returns-clause-reads_back c =
    IfOk-weaker c.finish.result _ _ (λ v e.
    ap matrix_of_text (written v.items _ _ _ _ _ e c.in_ok-write_rows.ensures.text c.in_ok-row.ensures.text
    c.new-out.ensures.text ∙ ap matrix_text c.rows.ensures.rows)
    ∙ matrix_back c.args.matrix.now
    (subst (All ReadsBack) c.rows.ensures.rows c.in_ok-write_rows.ensures.reads_back)) c.finish.ensures
