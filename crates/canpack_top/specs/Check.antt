-- What `check` means.
use Rattle.std.specs.Prelude.{◌≡◌, ⊤, ℕ, List, [], Result, Ok, Err, IsOkAnd, option_map}
use Rattle.std.specs.Result.{result_err}
use Rattle.csv_table.specs.Columns.{◌>>=◌}
use Rattle.pack_base.specs.Outside.{Files}
use Rattle.matrix_text.specs.OnePlace.{OnePlace}
use Rattle.canpack_top.specs.declared.check.Judgement.{Judgement}
use Rattle.canpack_top.specs.declared.ending.Status.{Status}
use Rattle.canpack_top.specs.declared.ending.Status.TheVariants as status
use Rattle.canpack_top.specs.declared.ending.Stop.{Stop}
use Rattle.canpack_top.specs.declared.ending.Stop.TheVariants as stop
use Rattle.canpack_top.specs.declared.refusal.Refusal.{Refusal}
use Rattle.canpack_top.specs.declared.verdict.Found.{Found}
use Rattle.canpack_top.specs.declared.verdict.Found.TheVariants as found
use Rattle.canpack_top.specs.Command.{Names}
use Rattle.canpack_top.specs.Files.{cert_at, matrix_at, problem_at}
use Rattle.canpack_top.specs.Line.{refused_line}
use Rattle.canpack_top.specs.Meaning.{Answer, Meaning}
use Rattle.canpack_top.specs.Reads.{check_names}
use Rattle.canpack_top.specs.Verdict.{Finds, IsAccepted, IsRejected, found_line, verdict_line}
use Rattle.bandwidth_bound.specs.declared.verdict.Verdict.{Verdict}
use Rattle.bandwidth_bound.specs.Rule.{Judged}
use Rattle.bandwidth_bound.specs.Bus.{NeverLate}
use Rattle.bandwidth_bound.specs.Follows.{HasMatrix, HasTiming, Holds}
use Rattle.bandwidth_bound.specs.Timing.{AllPass}

-- what the four files that are named say, or the first refusal
unfoldable pub texts_at : Names → Files → Result Judged Refusal
texts_at names files = do
  problem ← problem_at names files
  matrix ← matrix_at files names.matrix
  cert ← cert_at files names.cert
  Ok (record { problem = problem; matrix = matrix; cert = cert })

-- the texts stand and the acceptance rule holds
abbrev pub Accepts : Names → Files → Type 0
Accepts names files = IsOkAnd (texts_at names files) IsAccepted

-- the texts stand, and the acceptance rule holds with a verdict whose line this is
abbrev pub AcceptsWith : Names → Files → List ℕ → Type 0
AcceptsWith names files line = IsOkAnd (texts_at names files)
    (λ judged. (shown : Verdict) × Finds (found.Shown shown) judged
    × (line ≡ verdict_line judged.problem.hyper shown))

-- the texts stand, and some part of the acceptance rule is the first that doesn't hold
abbrev pub Rejects : Names → Files → Type 0
Rejects names files = IsOkAnd (texts_at names files) IsRejected

-- the texts stand, and where the certificate's kind speaks of a matrix, each signal has one place of its own
abbrev pub HasOnePlace : Names → Files → Type 0
HasOnePlace names files = IsOkAnd (texts_at names files)
    (λ judged. HasMatrix judged.cert.kind judged.matrix → OnePlace judged.problem judged.matrix)

-- the texts stand, and where the kind speaks of times, each frame passes the written test
abbrev pub HasPassing : Names → Files → Type 0
HasPassing names files = IsOkAnd (texts_at names files)
    (λ judged. HasTiming judged.cert.kind judged.matrix → AllPass judged.problem judged.matrix)

-- the texts stand, and where the kind speaks of times, no release is late in any run that stands over the
-- matrix's frames
abbrev pub HasNoneLate : Names → Files → Type 0
HasNoneLate names files = IsOkAnd (texts_at names files)
    (λ judged. HasTiming judged.cert.kind judged.matrix → NeverLate judged.problem judged.matrix)

-- the texts stand, and all that follows from the acceptance rule holds
abbrev pub HasAll : Names → Files → Type 0
HasAll names files = IsOkAnd (texts_at names files) Holds

-- the status of what was found of texts that stand
abbrev pub check_status : Found → Status
check_status (found.Shown shown) = status.Done
check_status (found.Rejected failed) = status.Rejected

-- the answer with what was found of texts that stand, and their common period
abbrev pub check_answer : ℕ → Found → Answer
check_answer hyper what = record { status = check_status what; line = found_line hyper what }

-- this is the answer of `check` with what the acceptance rule finds
abbrev pub IsAnswerOf : Answer → Judged → Type 0
IsAnswerOf answer judged =
    (what : Found) × Finds what judged × (answer ≡ check_answer judged.problem.hyper what)

-- `check` reads four files and writes none; it answers 0 where the acceptance rule holds, with the line of
-- the verdict, and 5 where it doesn't, with the line of the first part that fails
abbrev pub check_meaning : Names → Meaning
check_meaning names = record {
  reads = check_names names;
  writes = [];
  first_refusal = λ files. option_map refused_line (result_err (texts_at names files));
  Has = λ answer. (hyper : ℕ) × (what : Found) × (answer ≡ check_answer hyper what);
  Answers = λ files answer. IsOkAnd (texts_at names files) (IsAnswerOf answer);
  Leaves = λ answer before now. now ≡ before;
  LeavesPart = λ before now. ⊥;
  Shows = λ answer before now. answer.status ≡ status.Done → HasAll names before;
}

-- what was found of four files is what their texts say, a read fault and want of memory aside
abbrev pub IsJudgement : Result Judgement Stop → Names → Files → Type 0
IsJudgement (Ok given) names files =
    IsOkAnd (texts_at names files) (λ judged. Finds given.found judged × (given.hyper ≡ judged.problem.hyper))
IsJudgement (Err (stop.Refused why)) names files = texts_at names files ≡ Err why
IsJudgement (Err stop.ReadFault) names files = ⊤
IsJudgement (Err stop.Memory) names files = ⊤
