-- What is found of a certificate whose file is read piece by piece.
use Rattle.std.proofs.Common.{◌≡◌, ◌≤◌, ◌<◌, ◌^◌, ℕ, true, false, List, length, Result, Ok, Err, IsErrOf, IsOkAnd, arith, refl, sym, subst}
use Rattle.std.specs.Prelude.{nat_lt}
use Rattle.std.proofs.lemmas.Bool.{le-ltb, lt-ltb}
use Rattle.csv_table.specs.Columns.{◌>>=◌}
use Rattle.pack_base.specs.Outside.{Files, bytes_at}
use Rattle.pack_model.specs.Problem.{Parts}
use Rattle.matrix_rows.specs.declared.matrix.MatrixRow.{MatrixRow}
use Rattle.cert_text.specs.CertText.{CertRefusal, bad_line, cut}
use Rattle.cert_text.specs.Parts.{CertParts}
use Rattle.cert_text.specs.Reading.{cert_of_text}
use Rattle.bandwidth_bound.specs.declared.verdict.Verdict.{Verdict}
use Rattle.cert_check.specs.declared.one_pass.FeedCheck.{FeedCheck}
use Rattle.cert_check.specs.declared.one_pass.FeedCheck.TheVariants as feed
use Rattle.cert_check.specs.Feed.{FeedFinds, IsOfSize}
use Rattle.canpack_top.specs.declared.ending.Stop.TheVariants as stop
use Rattle.canpack_top.specs.declared.refusal.Refusal.{Refusal}
use Rattle.canpack_top.specs.declared.refusal.Refusal.TheVariants as refusal
use Rattle.canpack_top.specs.declared.refusal.Role.TheVariants as role
use Rattle.canpack_top.specs.declared.verdict.Found.{Found}
use Rattle.canpack_top.specs.Check.{texts_at}
use Rattle.canpack_top.specs.Command.{Names}
use Rattle.canpack_top.specs.Files.{cert_at, matrix_at, problem_at, size_limit}
use Rattle.canpack_top.specs.Text.{cert_in, cert_refused, refused_as}
use Rattle.canpack_top.specs.Verdict.{Finds, IsFoundOf, IsJudged, found_of}

-- a file that isn't too large says what its text does
file_says : (files : Files) (name : List ℕ) (read : Result CertParts CertRefusal) → length (bytes_at files name) < 2 ^ 63
    → cert_of_text (bytes_at files name) ≡ read → cert_at files name ≡ refused_as cert_refused read
unfolding cert_at cert_in
file_says files name read small is =
    let fits : nat_lt size_limit (length (bytes_at files name)) ≡ false =
    le-ltb size_limit (length (bytes_at files name)) (omega (arith, small)) in
    rw (fits, is) refl

-- and one that is too large is refused
file_too_large : (files : Files) (name : List ℕ) → 2 ^ 63 ≤ length (bytes_at files name)
    → cert_at files name ≡ Err (refusal.TooLarge role.Cert)
unfolding cert_at
file_too_large files name large =
    let many : nat_lt size_limit (length (bytes_at files name)) ≡ true =
    lt-ltb size_limit (length (bytes_at files name)) (omega (arith, large)) in
    rw many refl

module _ (problem : Parts) (rows : List MatrixRow) (files : Files) (name : List ℕ) where
  -- what is found of the certificate of the file
  found_in : (what : Found) (cert : CertParts) → length (bytes_at files name) < 2 ^ 63
      → cert_of_text (bytes_at files name) ≡ Ok cert
      → IsFoundOf what (record { problem = problem; matrix = rows; cert = cert })
      → IsJudged (Ok what) problem rows (cert_at files name)
  found_in what cert small is found =
      subst (λ read. IsJudged (Ok what) problem rows read) (sym (file_says files name (Ok cert) small is)) found

  -- what the checker answers is what is judged
  pub judges : (answer : Result Verdict FeedCheck) → FeedFinds problem rows (bytes_at files name) answer
      → IsOfSize (bytes_at files name) answer → IsJudged (found_of answer) problem rows (cert_at files name)
  judges (Ok shown) finds small =
      found_in _ finds.cert small finds.text (record { finds = finds.found; holds = λ is. finds.holds })
  judges (Err feed.RejectedMatrix) finds small =
      found_in _ finds.cert small finds.text (record { finds = finds.found; holds = λ is. absurd is })
  judges (Err feed.RejectedTiming) finds small =
      found_in _ finds.cert small finds.text (record { finds = finds.found; holds = λ is. absurd is })
  judges (Err feed.RejectedTree) finds small =
      found_in _ finds.cert small finds.text (record { finds = finds.found; holds = λ is. absurd is })
  judges (Err feed.TooLarge) finds large = file_too_large files name large
  judges (Err (feed.BadLine number)) finds small = file_says files name (Err (bad_line number)) small finds
  judges (Err feed.Cut) finds small = file_says files name (Err cut) small finds
  judges (Err feed.ReadFault) finds small = tt
  judges (Err feed.Memory) finds small = tt

-- a read fault is the checker's
pub fault_is : (answer : Result Verdict FeedCheck) → IsErrOf (found_of answer) stop.ReadFault
    → IsErrOf answer feed.ReadFault
fault_is (Ok shown) is = cc
fault_is (Err feed.RejectedMatrix) is = cc
fault_is (Err feed.RejectedTiming) is = cc
fault_is (Err feed.RejectedTree) is = cc
fault_is (Err feed.TooLarge) is = cc
fault_is (Err (feed.BadLine number)) is = cc
fault_is (Err feed.Cut) is = cc
fault_is (Err feed.ReadFault) is = refl
fault_is (Err feed.Memory) is = cc

-- what was found of the certificate is what was found of the four texts, where the other three stand
pub judgement_is : (names : Names) (files : Files) (problem : Parts) (rows : List MatrixRow) (what : Found) (hyper : ℕ)
    → problem_at names files ≡ Ok problem → matrix_at files names.matrix ≡ Ok rows
    → IsJudged (Ok what) problem rows (cert_at files names.cert) → hyper ≡ problem.hyper
    → IsOkAnd (texts_at names files) (λ judged. Finds what judged × (hyper ≡ judged.problem.hyper))
unfolding texts_at
judgement_is names files problem rows what hyper problem_is matrix_is found hyper_is =
    rw (problem_is, matrix_is) (by (cert_at files names.cert) found)
  where
    by : (read : Result CertParts Refusal) → IsJudged (Ok what) problem rows read
        → IsOkAnd (read >>= (λ cert. Ok (record { problem = problem; matrix = rows; cert = cert })))
        (λ judged. Finds what judged × (hyper ≡ judged.problem.hyper))
    by (Ok cert) found = (found.finds, hyper_is)
    by (Err why) found = found
