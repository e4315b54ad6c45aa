-- What is found of the trees of a certificate, where its matrix and its times hold.
use Rattle.std.specs.Prelude.{◌≡◌, ◌≤◌, ◌<◌, ◌*◌, ◌^◌, ⊤, ℕ, min, true, false, length, Option, None, Some, Result, Ok, Err, unwrap_or}
use Rattle.pack_model.specs.Problem.{Parts}
use Rattle.cert_text.specs.declared.parts.Kind.{Kind}
use Rattle.cert_text.specs.declared.parts.Kind.TheVariants.{KindPlaced, KindTimed, KindBetween, KindBest, KindNoSolution}
use Rattle.cert_text.specs.Parts.{CertParts}
use Rattle.bandwidth_bound.specs.Lemmas.{values_of}
use Rattle.bandwidth_bound.specs.Rule.{TreesStand, lower_of, open_of}
use Rattle.bandwidth_bound.specs.declared.verdict.Verdict.{Verdict}
use Rattle.bandwidth_bound.specs.declared.verdict.Verdict.TheVariants as verdict
use Rattle.cert_check.specs.declared.fault.CheckFault.{CheckFault}
use Rattle.cert_check.specs.declared.fault.CheckFault.TheVariants as fault

-- 8 times the best fits 128 bits
abbrev pub HasRoom : Option ℕ → Type 0
HasRoom None = ⊤
HasRoom (Some best) = 8 * best < 2 ^ 128

-- the lesser of a bound and of 8 times the best, if there is one
abbrev pub lower_with : Option ℕ → ℕ → ℕ
lower_with None least = least
lower_with (Some best) least = min least (8 * best)

-- the tree part of the rule, where the load of the matrix is this
abbrev pub TreeOfBest : Kind → Parts → Option ℕ → CertParts → Type 0
TreeOfBest KindPlaced problem best cert = ⊤
TreeOfBest KindTimed problem best cert = ⊤
TreeOfBest KindBetween problem best cert =
    TreesStand problem best true cert × (1 ≤ length (open_of problem cert.main_tree))
TreeOfBest KindBest problem best cert = TreesStand problem best false cert
TreeOfBest KindNoSolution problem best cert = TreesStand problem best false cert

-- the verdict of a kind, where it holds
abbrev pub verdict_of : Kind → Parts → Option ℕ → CertParts → Verdict
verdict_of KindPlaced problem best cert = verdict.Placed
verdict_of KindTimed problem best cert = verdict.Timed (unwrap_or best 0)
verdict_of KindBetween problem best cert =
    verdict.Between best (lower_of problem (values_of problem cert.lemmas) best cert.main_tree)
verdict_of KindBest problem best cert = verdict.Best (unwrap_or best 0)
verdict_of KindNoSolution problem best cert = verdict.NoSolution

-- the answer is this verdict where these trees hold, and else the fault of the trees
abbrev pub IsVerdict : Type 0 → Verdict → Result Verdict CheckFault → Type 0
IsVerdict Holds shown (Ok answer) = Holds × (answer ≡ shown)
IsVerdict Holds shown (Err fault.RejectedMatrix) = ⊥
IsVerdict Holds shown (Err fault.RejectedTiming) = ⊥
IsVerdict Holds shown (Err fault.RejectedTree) = ¬ Holds
IsVerdict Holds shown (Err fault.Memory) = ⊥

-- the answer where matrix and times hold
abbrev pub IsAnswer : Parts → Option ℕ → CertParts → Result Verdict CheckFault → Type 0
IsAnswer problem best cert answer =
    IsVerdict (TreeOfBest cert.kind problem best cert) (verdict_of cert.kind problem best cert) answer
