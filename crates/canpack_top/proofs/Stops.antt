-- What comes of a reader's fault.
use Rattle.std.proofs.Common.{Option, Some, None, Result, Err, option_map, ap, sym}
use Rattle.csv_table.specs.Gives.{Explains}
use Rattle.pack_model.specs.Problem.{Answers, Parts}
use Rattle.pack_model.specs.declared.problem.ProblemFault.{ProblemFault}
use Rattle.pack_model.specs.declared.problem.ProblemFault.TheVariants as fault
use Rattle.canpack_top.specs.declared.refusal.Refusal.{Refusal}
use Rattle.canpack_top.specs.Ending.{Says, stop_of}
use Rattle.canpack_top.specs.Text.{problem_refused, problem_stop, refused_as}

-- a reader's refusal, or want of memory, is that of its text
pub says_stop : {X Y F : Type 0} (view : X → Y) (refused : F → Refusal) (why : Option F) (read : Result Y F)
    → Explains why read → Says view (Err (stop_of (option_map refused why))) (refused_as refused read)
says_stop view refused None read is = tt
says_stop view refused (Some f) read is = ap (refused_as refused) is

-- a refusal of the problem, or want of memory, is that of its network and signals
pub says_problem : {X : Type 0} (view : X → Parts) (why : ProblemFault) (parts : Result Parts ProblemFault)
    → Answers (Err why) parts → Says view (Err (problem_stop why)) (refused_as problem_refused parts)
says_problem view fault.NoSignals parts is = ap (refused_as problem_refused) (sym is)
says_problem view fault.TooManySignals parts is = ap (refused_as problem_refused) (sym is)
says_problem view (fault.TwiceNamed row) parts is = ap (refused_as problem_refused) (sym is)
says_problem view (fault.PduSenders row) parts is = ap (refused_as problem_refused) (sym is)
says_problem view (fault.PduTooLarge id) parts is = ap (refused_as problem_refused) (sym is)
says_problem view fault.TooManyItems parts is = ap (refused_as problem_refused) (sym is)
says_problem view fault.PeriodsMixed parts is = ap (refused_as problem_refused) (sym is)
says_problem view fault.Memory parts is = tt
