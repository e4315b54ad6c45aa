-- What `check` promises of a network where it answers 0, and `plan` where it answers 0, 10 or 11: read this first.
use Rattle.std.specs.Prelude.{◌≡◌, ◌≤◌, ℕ, List, Option, None, Some, IsOkAnd}
use Rattle.pack_base.specs.Outside.{Files, and_said}
use Rattle.matrix_text.specs.Frames.{grouping_of}
use Rattle.matrix_text.specs.OnePlace.{OnePlace}
use Rattle.bandwidth_bound.specs.declared.verdict.Verdict.{Verdict}
use Rattle.bandwidth_bound.specs.declared.verdict.Verdict.TheVariants as verdict
use Rattle.bandwidth_bound.specs.Bus.{NeverLate}
use Rattle.bandwidth_bound.specs.Follows.{EachReaches, NoneIsBetter, NoneIsSolvable}
use Rattle.bandwidth_bound.specs.Rule.{Judged, load_in}
use Rattle.bandwidth_bound.specs.Solvable.{Solvable}
use Rattle.plan_search.specs.Searches.{branches_of}
use Rattle.canpack_top.specs.Check.{texts_at}
use Rattle.canpack_top.specs.Command.{Names}
use Rattle.canpack_top.specs.Files.{problem_at}
use Rattle.canpack_top.specs.Verdict.{verdict_line}

-- Each signal has one place and none overlap; no release is late in any run of the bus that stands; the matrix's grouping
-- is legal, and each frame passes the written test in some order; and this is the matrix's load.
pub record IsInTime (judged : Judged) (load : ℕ) : Type 0 where
  pub one_place : OnePlace judged.problem judged.matrix
  pub never_late : NeverLate judged.problem judged.matrix
  pub solvable : Solvable judged.problem (grouping_of judged.problem judged.matrix)
  pub load_is : load ≡ load_in judged

-- What a verdict promises: of `best` that no grouping that can meet all deadlines has a smaller load, of `none` that there
-- is no such grouping, of `open` that each such grouping has at least the bound.
abbrev pub Promises : Verdict → Judged → Type 0
Promises verdict.Placed judged = OnePlace judged.problem judged.matrix
Promises (verdict.Timed load) judged = IsInTime judged load
Promises (verdict.Best load) judged = IsInTime judged load × NoneIsBetter judged.problem load
Promises verdict.NoSolution judged = NoneIsSolvable judged.problem
Promises (verdict.Between None lower) judged = EachReaches judged.problem lower
Promises (verdict.Between (Some best) lower) judged = IsInTime judged best × EachReaches judged.problem lower

-- the line of a verdict on the four files was said, and what the verdict promises of them holds
abbrev pub Headline : Names → Files → Option (List ℕ) → Option (List ℕ) → Type 0
Headline names files said_before said_now = IsOkAnd (texts_at names files) (λ judged. (shown : Verdict)
    × (said_now ≡ and_said said_before (verdict_line judged.problem.hyper shown)) × Promises shown judged)

-- the matrix of the four files is in time with some load, and no grouping that can meet all deadlines has a smaller
-- one
abbrev pub HasBest : Names → Files → Type 0
HasBest names files = IsOkAnd (texts_at names files) (λ judged. (load : ℕ) × IsInTime judged load
    × NoneIsBetter judged.problem load)

-- no grouping of the problem of the files can meet all deadlines
abbrev pub HasNone : Names → Files → Type 0
HasNone names files = IsOkAnd (texts_at names files) (λ judged. NoneIsSolvable judged.problem)

-- so many branches are at least the count of branches of the problem of two files
abbrev pub IsEnough : ℕ → Names → Files → Type 0
IsEnough branches names files = IsOkAnd (problem_at names files) (λ problem. branches_of problem ≤ branches)
