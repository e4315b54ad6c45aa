use Rattle.std.proofs.Common.{◌≡◌, ap, ◌∙◌, rules}
use Rattle.input_text.specs.NetworkText.{network_of, network_text}
use Rattle.input_text.proofs.NetworkBack.{network_back}
use Rattle.input_text.proofs.network.write_network.Goals as goal

pub returns-clause-reads_back : goal.returns-clause-reads_back
returns-clause-reads_back c =
    let text : c.into_bytes.result.items ≡ network_text c.args.network.now = search rules in
    ap network_of text ∙ network_back c.args.network.now c.requires
