use Rattle.input_text.proofs.NetworkLaws.{read_stands}
use Rattle.input_text.proofs.network.read_network.Goals as goal

pub returns-clause-stands : goal.returns-clause-stands
returns-clause-stands c = read_stands c.args.text.now c.read_whole.result c.read_whole.ensures
