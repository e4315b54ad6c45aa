use Rattle.std.proofs.Common.{◌++◌, ◌∷◌, codes, decimal, refl}
use Rattle.std.proofs.lemmas.Result.{on_ok_weaker}
use Rattle.response_test.specs.declared.evidence.Evidence.TheVariants as evidence
use Rattle.cert_text.specs.declared.line.Line.TheVariants as line
use Rattle.cert_text.specs.Lines.{line_words}
use Rattle.cert_text.proofs.Adds.{adds-one}
use Rattle.cert_text.proofs.lines.put_over.Goals as goal

pub returns : goal.returns
unfolding line_words
returns c =
    on_ok_weaker c.put_counted.result
    (λ e. adds-one c.args.out.now.items c.put_counted.new.out.items (codes "over" ++ 32 ∷ decimal c.args.label) (line.AgainstLine c.args.label evidence.Over) e refl tt) c.put_counted.ensures
