use Rattle.std.proofs.Common.{◌≡◌, ◌<◌, ℕ, List, [], ◌∷◌, length, None, arith, refl, sym, ap, ◌∙◌}
use Rattle.cert_text.specs.CertText.{parts}
use Rattle.cert_text.specs.Words.{one}
use Rattle.cert_text.proofs.CutAt.{parts_some}
use Rattle.cert_text.proofs.words.one_in.Goals as goal

more : (low high : ℕ) (w : List ℕ) (ws : List (List ℕ)) → 0 < length ws → one low high (w ∷ ws) ≡ None
more low high w [] some = absurd (omega arith)
more low high w (x ∷ ws) some = refl

pub returns-in-Some-clause-exact : goal.returns-in-Some-clause-exact
returns-in-Some-clause-exact c =
    sym (ap (one c.args.low c.args.high) c.in-Some.ensures.parts ∙ more c.args.low c.args.high c.in-Some.field-0.0.now (parts 32 c.in-Some.field-0.1.now) (parts_some 32 c.in-Some.field-0.1.now))
