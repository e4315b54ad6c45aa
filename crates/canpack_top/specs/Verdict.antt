-- What the acceptance rule says of the problem, the matrix and the certificate of texts that stand, and its lines.
use Rattle.std.specs.Prelude.{◌≡◌, ⊤, ℕ, ◌*◌, List, ◌++◌, codes, decimal, None, Some, Result, Ok, Err, IsOkAnd}
use Rattle.pack_model.specs.Problem.{Parts}
use Rattle.matrix_rows.specs.declared.matrix.MatrixRow.{MatrixRow}
use Rattle.cert_text.specs.Parts.{CertParts}
use Rattle.bandwidth_bound.specs.declared.verdict.Part.{Part}
use Rattle.bandwidth_bound.specs.declared.verdict.Part.TheVariants as part
use Rattle.bandwidth_bound.specs.declared.verdict.Verdict.{Verdict}
use Rattle.bandwidth_bound.specs.declared.verdict.Verdict.TheVariants as verdict
use Rattle.bandwidth_bound.specs.Follows.{Holds}
use Rattle.bandwidth_bound.specs.Rule.{FailsFirst, Judged}
use Rattle.bandwidth_bound.specs.Rule as rule
use Rattle.cert_check.specs.declared.one_pass.FeedCheck.{FeedCheck}
use Rattle.cert_check.specs.declared.one_pass.FeedCheck.TheVariants as feed
use Rattle.canpack_top.specs.declared.ending.Stop.{Stop}
use Rattle.canpack_top.specs.declared.ending.Stop.TheVariants as stop
use Rattle.canpack_top.specs.declared.refusal.Refusal.{Refusal}
use Rattle.canpack_top.specs.declared.refusal.Refusal.TheVariants as refusal
use Rattle.canpack_top.specs.declared.refusal.Role.TheVariants as role
use Rattle.canpack_top.specs.declared.verdict.Found.{Found}
use Rattle.canpack_top.specs.declared.verdict.Found.TheVariants as found
use Rattle.canpack_top.specs.Line.{line, placed_line}

-- the checker's answer of a certificate's file: what is found, or why the reading stops
abbrev pub found_of : Result Verdict FeedCheck → Result Found Stop
found_of (Ok shown) = Ok (found.Shown shown)
found_of (Err feed.RejectedMatrix) = Ok (found.Rejected part.Matrix)
found_of (Err feed.RejectedTiming) = Ok (found.Rejected part.Timing)
found_of (Err feed.RejectedTree) = Ok (found.Rejected part.Tree)
found_of (Err feed.TooLarge) = Err (stop.Refused (refusal.TooLarge role.Cert))
found_of (Err (feed.BadLine number)) = Err (stop.Refused (refusal.BadLine number))
found_of (Err feed.Cut) = Err (stop.Refused refusal.Cut)
found_of (Err feed.ReadFault) = Err stop.ReadFault
found_of (Err feed.Memory) = Err stop.Memory

-- the acceptance rule finds this: it holds with the verdict, or the part is the first that doesn't hold
abbrev pub Finds : Found → Judged → Type 0
Finds (found.Shown shown) judged = rule.Accepts judged shown
Finds (found.Rejected failed) judged = FailsFirst failed judged

-- the acceptance rule holds: the certificate shows a verdict
abbrev pub IsAccepted : Judged → Type 0
IsAccepted judged = (shown : Verdict) × Finds (found.Shown shown) judged

-- some part of the acceptance rule is the first that doesn't hold
abbrev pub IsRejected : Judged → Type 0
IsRejected judged = (failed : Part) × Finds (found.Rejected failed) judged

-- a load or a bound, over what it is counted in, and LF
abbrev pub fraction : ℕ → ℕ → List ℕ
fraction above below = decimal above ++ (codes "/" ++ (decimal below ++ codes "\n"))

-- the line of a verdict; the common period is in ticks, and the bound of `open` in eighths of ticks
abbrev pub verdict_line : ℕ → Verdict → List ℕ
verdict_line hyper verdict.Placed = placed_line
verdict_line hyper (verdict.Timed load) = codes "timed " ++ fraction load hyper
verdict_line hyper (verdict.Between None lower) = codes "open - " ++ fraction lower (8 * hyper)
verdict_line hyper (verdict.Between (Some best) lower) =
    codes "open " ++ (decimal best ++ (codes "/" ++ (decimal hyper ++ (codes " " ++ fraction lower (8 * hyper)))))
verdict_line hyper (verdict.Best load) = codes "best " ++ fraction load hyper
verdict_line hyper verdict.NoSolution = line (codes "none")

-- the line of the part of the acceptance rule that doesn't hold
abbrev pub rejected_line : Part → List ℕ
rejected_line part.Matrix = line (codes "rejected matrix")
rejected_line part.Timing = line (codes "rejected timing")
rejected_line part.Tree = line (codes "rejected tree")

-- the line of what was found
abbrev pub found_line : ℕ → Found → List ℕ
found_line hyper (found.Shown shown) = verdict_line hyper shown
found_line hyper (found.Rejected failed) = rejected_line failed

-- a verdict was found
abbrev pub IsShown : Found → Type 0
IsShown (found.Shown shown) = ⊤
IsShown (found.Rejected failed) = ⊥

-- the acceptance rule finds this, and where that is a verdict, all that follows holds
pub record IsFoundOf (what : Found) (judged : Judged) : Type 0 where
  pub finds : Finds what judged
  pub holds : IsShown what → Holds judged

-- what was found of a problem, a matrix and the certificate that a file says, or why the file is refused; a read fault
-- and want of memory come at any time
abbrev pub IsJudged : Result Found Stop → Parts → List MatrixRow → Result CertParts Refusal → Type 0
IsJudged (Ok what) problem rows read =
    IsOkAnd read (λ cert. IsFoundOf what (record { problem = problem; matrix = rows; cert = cert }))
IsJudged (Err (stop.Refused why)) problem rows read = read ≡ Err why
IsJudged (Err stop.ReadFault) problem rows read = ⊤
IsJudged (Err stop.Memory) problem rows read = ⊤
