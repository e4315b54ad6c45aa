use Rattle.cert_text.proofs.Fronts.{slash_goes_on}
use Rattle.cert_text.proofs.words.sides_in.Goals as goal

pub loop-word-init : goal.loop-word-init
loop-word-init c = slash_goes_on c.args.text.now c.in_ok-numbers.numbers.items c.in_ok-numbers.left.now c.in_ok-numbers.ensures
