-- What is found of a certificate in a file that is read piece by piece.
use Rattle.std.specs.Prelude.{◌≡◌, ◌≤◌, ◌<◌, ◌^◌, ⊤, ℕ, List, length, Result, Ok, Err, OnOk}
use Rattle.pack_model.specs.Problem.{Parts}
use Rattle.matrix_rows.specs.declared.matrix.MatrixRow.{MatrixRow}
use Rattle.cert_text.specs.declared.fault.FeedFault.{FeedFault}
use Rattle.cert_text.specs.declared.fault.FeedFault.TheVariants as feed_fault
use Rattle.cert_text.specs.CertText.{bad_line, cut}
use Rattle.cert_text.specs.Parts.{CertParts}
use Rattle.cert_text.specs.Reading.{cert_of_text}
use Rattle.bandwidth_bound.specs.Follows.{Holds}
use Rattle.bandwidth_bound.specs.declared.verdict.Verdict.{Verdict}
use Rattle.cert_check.specs.Accept.{IsFound, judged_of}
use Rattle.cert_check.specs.declared.one_pass.FeedCheck.{FeedCheck}
use Rattle.cert_check.specs.declared.one_pass.FeedCheck.TheVariants as feed
use Rattle.cert_check.specs.declared.fault.CheckFault.{CheckFault}
use Rattle.cert_check.specs.declared.fault.CheckFault.TheVariants as fault

-- the bytes are the text of a certificate, of which this is found by the acceptance rule; where that is a
-- verdict, what follows from it holds
pub record IsFoundIn (problem : Parts) (rows : List MatrixRow) (bytes : List ℕ)
    (answer : Result Verdict CheckFault) : Type 0 where
  pub cert : CertParts
  pub text : cert_of_text bytes ≡ Ok cert
  pub found : IsFound problem rows cert answer
  pub holds : OnOk answer (Holds (judged_of problem rows cert))

-- what is answered of bytes, a fault of the folder, their number and want of memory aside: what is found of the
-- certificate whose text they are, or their refusal
abbrev pub FeedFinds : Parts → List MatrixRow → List ℕ → Result Verdict FeedCheck → Type 0
FeedFinds problem rows bytes (Ok shown) = IsFoundIn problem rows bytes (Ok shown)
FeedFinds problem rows bytes (Err feed.ReadFault) = ⊤
FeedFinds problem rows bytes (Err feed.TooLarge) = ⊤
FeedFinds problem rows bytes (Err (feed.BadLine n)) = cert_of_text bytes ≡ Err (bad_line n)
FeedFinds problem rows bytes (Err feed.Cut) = cert_of_text bytes ≡ Err cut
FeedFinds problem rows bytes (Err feed.RejectedMatrix) = IsFoundIn problem rows bytes (Err fault.RejectedMatrix)
FeedFinds problem rows bytes (Err feed.RejectedTiming) = IsFoundIn problem rows bytes (Err fault.RejectedTiming)
FeedFinds problem rows bytes (Err feed.RejectedTree) = IsFoundIn problem rows bytes (Err fault.RejectedTree)
FeedFinds problem rows bytes (Err feed.Memory) = ⊤

-- whether the bytes have the number of a text, where that is known: more than 2^63 - 1 are too many
abbrev pub IsOfSize : List ℕ → Result Verdict FeedCheck → Type 0
IsOfSize bytes (Ok shown) = length bytes < 2 ^ 63
IsOfSize bytes (Err feed.ReadFault) = ⊤
IsOfSize bytes (Err feed.TooLarge) = 2 ^ 63 ≤ length bytes
IsOfSize bytes (Err (feed.BadLine n)) = length bytes < 2 ^ 63
IsOfSize bytes (Err feed.Cut) = length bytes < 2 ^ 63
IsOfSize bytes (Err feed.RejectedMatrix) = length bytes < 2 ^ 63
IsOfSize bytes (Err feed.RejectedTiming) = length bytes < 2 ^ 63
IsOfSize bytes (Err feed.RejectedTree) = length bytes < 2 ^ 63
IsOfSize bytes (Err feed.Memory) = ⊤

-- a fault of a feed
abbrev pub check_of_feed : FeedFault → FeedCheck
check_of_feed feed_fault.ReadFault = feed.ReadFault
check_of_feed feed_fault.TooLarge = feed.TooLarge
check_of_feed (feed_fault.BadLine n) = feed.BadLine n
check_of_feed feed_fault.Cut = feed.Cut
check_of_feed feed_fault.Memory = feed.Memory

-- a fault of a certificate
abbrev pub check_of_fault : CheckFault → FeedCheck
check_of_fault fault.RejectedMatrix = feed.RejectedMatrix
check_of_fault fault.RejectedTiming = feed.RejectedTiming
check_of_fault fault.RejectedTree = feed.RejectedTree
check_of_fault fault.Memory = feed.Memory
