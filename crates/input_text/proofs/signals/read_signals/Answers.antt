use Rattle.input_text.proofs.SignalLaws.{read_stand, read_few}
use Rattle.input_text.proofs.signals.read_signals.Goals as goal

pub returns-clause-stand : goal.returns-clause-stand
returns-clause-stand c = read_stand c.args.text.now c.read_all_signals.result c.read_all_signals.ensures

pub returns-clause-few : goal.returns-clause-few
returns-clause-few c = read_few c.args.text.now c.read_all_signals.result c.read_all_signals.ensures
