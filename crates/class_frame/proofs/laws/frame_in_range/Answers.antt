use Rattle.class_frame.proofs.Ranges as laws
use Rattle.class_frame.proofs.laws.frame_in_range.Goals as goal

pub returns : goal.returns
returns c = laws.frame_in_range
