-- What is found of what was told of a certificate, with holes among it: each counts as a tree that stands at
-- its place and has no open leaf.
use Rattle.std.specs.Prelude.{◌≤◌, ⊤, ℕ, List, [], ◌∷◌, ◌++◌, length, Option, Result, Ok, Err, unwrap_or}
use Rattle.pack_model.specs.Problem.{Parts}
use Rattle.class_frame.specs.Frame.{least}
use Rattle.matrix_rows.specs.declared.matrix.MatrixRow.{MatrixRow}
use Rattle.cert_text.specs.declared.parts.Kind.{Kind}
use Rattle.cert_text.specs.declared.parts.Kind.TheVariants.{KindPlaced, KindTimed, KindBetween, KindBest, KindNoSolution}
use Rattle.bandwidth_bound.specs.Rule.{MatrixOfKind, TimingOfKind}
use Rattle.bandwidth_bound.specs.declared.verdict.Verdict.{Verdict}
use Rattle.bandwidth_bound.specs.declared.verdict.Verdict.TheVariants as verdict
use Rattle.cert_check.specs.declared.cert_walk.CertWalk.{CertWalk}
use Rattle.cert_check.specs.declared.fault.CheckFault.{CheckFault}
use Rattle.cert_check.specs.declared.fault.CheckFault.TheVariants as fault
use Rattle.cert_check.specs.Entries.{Entry}
use Rattle.cert_check.specs.Nodes.{bounds_of}
use Rattle.cert_check.specs.Said.{Said, said_by}
use Rattle.cert_check.specs.Taken.{AllStandSaid, goal_said, load_in, one_more}
use Rattle.cert_check.specs.Trees.{IsVerdict, lower_with}

-- the bounds at the open leaves of the tree that was told last, the main tree, and one more where it is given
abbrev pub bounds_told : Parts → Said → Option ℕ → List ℕ
bounds_told problem s lower = bounds_of (goal_said problem s.tree) ([] ∷ []) s.tree.nodes ++ one_more lower

-- the tree part of the rule
abbrev pub TreesOfTold : Kind → Parts → Said → Option ℕ → Type 0
TreesOfTold KindPlaced problem s lower = ⊤
TreesOfTold KindTimed problem s lower = ⊤
TreesOfTold KindBetween problem s lower =
    AllStandSaid problem s × (1 ≤ length (bounds_told problem s lower))
TreesOfTold KindBest problem s lower = AllStandSaid problem s
TreesOfTold KindNoSolution problem s lower = AllStandSaid problem s

-- the verdict of a kind, where the load of the matrix is this
abbrev pub verdict_told : Kind → Parts → Option ℕ → Said → Option ℕ → Verdict
verdict_told KindPlaced problem best s lower = verdict.Placed
verdict_told KindTimed problem best s lower = verdict.Timed (unwrap_or best 0)
verdict_told KindBetween problem best s lower =
    verdict.Between best (lower_with best (least (bounds_told problem s lower)))
verdict_told KindBest problem best s lower = verdict.Best (unwrap_or best 0)
verdict_told KindNoSolution problem best s lower = verdict.NoSolution

-- what is answered, where matrix and times hold
abbrev pub IsVerdictTold : Parts → Option ℕ → Said → Option ℕ → Result Verdict CheckFault → Type 0
IsVerdictTold problem best s lower answer =
    IsVerdict (TreesOfTold s.kind problem s lower) (verdict_told s.kind problem best s lower) answer

-- the rule holds with the verdict, or a part of it fails first, where the main tree has one more open leaf
-- with the bound that may be given
abbrev pub IsFoundTold : Parts → List MatrixRow → Option ℕ → Said → Option ℕ → Result Verdict CheckFault
    → Type 0
IsFoundTold problem rows best s lower (Ok shown) =
    MatrixOfKind s.kind problem rows × TimingOfKind s.kind problem rows s.lines
    × IsVerdictTold problem best s lower (Ok shown)
IsFoundTold problem rows best s lower (Err fault.RejectedMatrix) = ¬ MatrixOfKind s.kind problem rows
IsFoundTold problem rows best s lower (Err fault.RejectedTiming) =
    MatrixOfKind s.kind problem rows × ¬ TimingOfKind s.kind problem rows s.lines
IsFoundTold problem rows best s lower (Err fault.RejectedTree) =
    MatrixOfKind s.kind problem rows × TimingOfKind s.kind problem rows s.lines
    × IsVerdictTold problem best s lower (Err fault.RejectedTree)
IsFoundTold problem rows best s lower (Err fault.Memory) = ⊥

-- so is it of what a walk was told
abbrev pub IsFoundOf : Parts → List MatrixRow → CertWalk → List Entry → Option ℕ → Result Verdict CheckFault
    → Type 0
IsFoundOf problem rows walk entries lower answer =
    IsFoundTold problem rows (load_in walk.placing) (said_by problem (load_in walk.placing) entries) lower
    answer
