use Rattle.std.proofs.Common.{◌∷◌, sym, ap, ◌∙◌, ℕ, List}
use Rattle.cert_text.specs.CertText.{parts}
use Rattle.cert_text.specs.Words.{lemma_said}
use Rattle.cert_text.proofs.CutAt.{parts_some}
use Rattle.cert_text.proofs.Short.{lemma_more}
use Rattle.cert_text.proofs.words.lemma_in.Goals as goal

pub returns-in-Some : goal.returns-in-Some
returns-in-Some c =
    let rest = parts 32 c.in-Some.field-0.1.now in
    sym
    (ap lemma_said (c.in_ok-sender.ensures.parts ∙ ap (λ (ws : List (List ℕ)). c.in_ok-sender.sender.now ∷ ws) c.in-Some.ensures.parts)
    ∙ lemma_more c.in_ok-sender.sender.now c.in-Some.field-0.0.now rest (parts_some 32 c.in-Some.field-0.1.now))
