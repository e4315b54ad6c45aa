use Rattle.response_test.proofs.Renumbered.{shown_renumbered}
use Rattle.response_test.proofs.laws.shown_in_order_is_shown_by_number.Goals as goal

pub returns : goal.returns
returns c = shown_renumbered
