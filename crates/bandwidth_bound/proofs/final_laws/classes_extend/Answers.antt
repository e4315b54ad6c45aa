use Rattle.bandwidth_bound.proofs.Extend as laws
use Rattle.bandwidth_bound.proofs.final_laws.classes_extend.Goals as goal

pub returns-clause-items : goal.returns-clause-items
returns-clause-items c = laws.classes_extend

pub returns-clause-count : goal.returns-clause-count
returns-clause-count c = laws.classes_stay
