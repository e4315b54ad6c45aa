use Rattle.std.proofs.Common.{◌∷◌, sym, ap, ◌∙◌, ℕ, List}
use Rattle.cert_text.specs.CertText.{parts}
use Rattle.cert_text.specs.Words.{first_said}
use Rattle.cert_text.proofs.CutAt.{parts_some}
use Rattle.cert_text.proofs.Short.{first_more}
use Rattle.cert_text.proofs.words.first_in.Goals as goal

pub returns-in-Some : goal.returns-in-Some
returns-in-Some c =
    let rest = parts 32 c.in-Some.field-0.1.now in
    sym
    (ap first_said (c.in_ok-second.ensures.parts ∙ ap (λ (ws : List (List ℕ)). c.in_ok-second.second.now ∷ ws) c.in-Some.ensures.parts)
    ∙ first_more c.in_ok-second.second.now c.in-Some.field-0.0.now rest (parts_some 32 c.in-Some.field-0.1.now))
