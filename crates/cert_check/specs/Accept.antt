-- The answer of the checker, by the acceptance rule.
use Rattle.std.specs.Prelude.{⊤, List, Result, Ok, Err}
use Rattle.pack_model.specs.Problem.{Parts}
use Rattle.matrix_rows.specs.declared.matrix.MatrixRow.{MatrixRow}
use Rattle.cert_text.specs.Parts.{CertParts}
use Rattle.bandwidth_bound.specs.declared.verdict.Verdict.{Verdict}
use Rattle.bandwidth_bound.specs.declared.verdict.Part.TheVariants as part
use Rattle.bandwidth_bound.specs.Rule.{Accepts, FailsFirst, Judged}
use Rattle.cert_check.specs.declared.fault.CheckFault.{CheckFault}
use Rattle.cert_check.specs.declared.fault.CheckFault.TheVariants as fault

-- what is judged
abbrev pub judged_of : Parts → List MatrixRow → CertParts → Judged
judged_of problem rows cert = record { problem = problem; matrix = rows; cert = cert }

-- the fault is the first part of the rule that doesn't hold, want of memory aside
abbrev pub IsFault : CheckFault → Judged → Type 0
IsFault fault.RejectedMatrix judged = FailsFirst part.Matrix judged
IsFault fault.RejectedTiming judged = FailsFirst part.Timing judged
IsFault fault.RejectedTree judged = FailsFirst part.Tree judged
IsFault fault.Memory judged = ⊤

-- what a matrix and a certificate of a problem are found to be: the rule holds with the verdict, or a part of
-- it fails first
abbrev pub IsFound : Parts → List MatrixRow → CertParts → Result Verdict CheckFault → Type 0
IsFound problem rows cert (Ok shown) = Accepts (judged_of problem rows cert) shown
IsFound problem rows cert (Err why) = IsFault why (judged_of problem rows cert)
