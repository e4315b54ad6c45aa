use Rattle.std.proofs.Common.{ap, ◌∙◌}
use Rattle.cert_text.specs.Pieces.{pieces}
use Rattle.cert_text.proofs.Runs.{pieces_push}
use Rattle.cert_text.proofs.position.put.Goals as goal

pub returns-in_ok-push : goal.returns-in_ok-push
returns-in_ok-push c = ap pieces c.in_ok-push.ensures.items ∙ pieces_push c.args.runs.now.items c.args.run
