use Rattle.std.proofs.Common.{sym, ap, ◌∙◌}
use Rattle.cert_text.specs.CertText.{parts}
use Rattle.cert_text.specs.Words.{kind_said}
use Rattle.cert_text.proofs.CutAt.{parts_some}
use Rattle.cert_text.proofs.Short.{kind_more}
use Rattle.cert_text.proofs.words.kind_line_in.Goals as goal

pub returns-in-Some : goal.returns-in-Some
returns-in-Some c = sym (ap kind_said c.in-Some.ensures.parts ∙ kind_more c.in-Some.field-0.0.now (parts 32 c.in-Some.field-0.1.now) (parts_some 32 c.in-Some.field-0.1.now))
