use Rattle.std.proofs.Common.{◌≡◌, ◌+◌, length, arith}
use Rattle.cert_text.proofs.Runs.{pieces_set}
use Rattle.cert_text.proofs.position.put_last.Goals as goal

pub returns-then-run-gt0 : goal.returns-then-run-gt0
returns-then-run-gt0 c =
    let last : c.args.last + 1 ≡ length c.args.runs.now.items = omega (arith, c.requires) in pieces_set c.args.runs.now.items c.args.last c.args.run last
