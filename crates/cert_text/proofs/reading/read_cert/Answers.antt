use Rattle.std.proofs.Common.{List, ℕ, Ok, Err, subst}
use Rattle.std.specs.Prelude.{IfOk, Result}
use Rattle.csv_table.specs.Gives.{Gives}
use Rattle.cert_text.specs.declared.fault.CertFault.{CertFault}
use Rattle.cert_text.specs.CertText.{IsAnswer, cert_refusal}
use Rattle.cert_text.specs.Parts.{CertParts}
use Rattle.cert_text.specs.Reading.{cert_of_text}
use Rattle.cert_text.specs.Written.{CertFits}
use Rattle.cert_text.proofs.OfText.{of_text-answer}
use Rattle.cert_text.proofs.Room.{text-fits}
use Rattle.cert_text.proofs.reading.read_cert.Goals as goal

-- what is the certificate of the text fits
read-fits : (bytes : List ℕ) (r : Result CertParts CertFault) → Gives (λ cert. cert) cert_refusal r (cert_of_text bytes) → IfOk r CertFits
read-fits bytes (Ok cert) gives = text-fits bytes cert (subst (IsAnswer bytes) gives (of_text-answer bytes))
read-fits bytes (Err fault) gives = tt

pub returns-clause-answer : goal.returns-clause-answer
returns-clause-answer c = of_text-answer c.args.bytes.now

pub returns-clause-fits : goal.returns-clause-fits
returns-clause-fits c = read-fits c.args.bytes.now c.read_lines.result c.read_lines.ensures
