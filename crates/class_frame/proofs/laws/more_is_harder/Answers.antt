use Rattle.class_frame.proofs.Harder as laws
use Rattle.class_frame.proofs.laws.more_is_harder.Goals as goal

pub returns : goal.returns
returns c = laws.more_is_harder
