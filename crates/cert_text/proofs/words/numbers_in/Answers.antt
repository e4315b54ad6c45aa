use Rattle.cert_text.proofs.Fronts.{numbers_go_on}
use Rattle.cert_text.proofs.words.numbers_in.Goals as goal

pub loop-word-init : goal.loop-word-init
loop-word-init c = numbers_go_on c.args.text.now c.in_ok-numbers.numbers.items c.in_ok-numbers.left.now c.in_ok-numbers.ensures
