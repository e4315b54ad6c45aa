-- What is planned and written is accepted.
use Rattle.std.proofs.Common.{◌≡◌, ◌≢◌, ◌≤◌, ℕ, false, List, [], length, Option, Some, Ok, IsOkAnd, IsSome, IsTrue, refl, rules, subst, ap, ◌∙◌}
use Rattle.std.specs.Prelude.{unwrap_or, nat_lt}
use Rattle.std.proofs.lemmas.Bool.{le-ltb}
use Rattle.csv_table.specs.Columns.{◌>>=◌}
use Rattle.pack_base.specs.Outside.{Files, file_at}
use Rattle.pack_model.specs.Problem.{Parts}
use Rattle.matrix_rows.specs.declared.matrix.MatrixRow.{MatrixRow}
use Rattle.matrix_text.specs.MatrixText.{MatrixText}
use Rattle.cert_text.specs.Parts.{CertParts}
use Rattle.cert_text.specs.Reading.{cert_of_text}
use Rattle.bandwidth_bound.specs.Rule as rule
use Rattle.canpack_top.specs.declared.refusal.Role.TheVariants as role
use Rattle.canpack_top.specs.Check.{texts_at}
use Rattle.canpack_top.specs.Files.{cert_at, matrix_at, network_at, problem_at, signals_at, size_limit, text_limit}
use Rattle.canpack_top.specs.Command.{Names, are_names}
use Rattle.canpack_top.specs.Text.{cert_in, matrix_in, network_in, signals_in, within}
use Rattle.canpack_top.specs.Write.{Written}

-- the matrix of a written text
pub written_matrix : (rows : List MatrixRow) (text : List ℕ) → MatrixText text rows → matrix_in text ≡ Ok rows
unfolding matrix_in
written_matrix rows text reads = rw reads refl

-- a file that is as it was says what it said
same_network : (before now : Files) (name : List ℕ) → file_at now name ≡ file_at before name
    → network_at now name ≡ network_at before name
unfolding network_at
same_network before now name same = ap (λ (file : Option (List ℕ)). within text_limit role.Network
    (unwrap_or file []) >>= network_in) same

-- the same of signals
same_signals : (before now : Files) (name : List ℕ) → file_at now name ≡ file_at before name
    → signals_at now name ≡ signals_at before name
unfolding signals_at
same_signals before now name same = ap (λ (file : Option (List ℕ)). within text_limit role.Signals
    (unwrap_or file []) >>= signals_in) same

-- the same of the problem of two files
same_problem : (names : Names) (before now : Files)
    → file_at now names.network ≡ file_at before names.network
    → file_at now names.signals ≡ file_at before names.signals
    → problem_at names now ≡ problem_at names before
unfolding problem_at
same_problem names before now network signals = rw (
  same_network before now names.network network,
  same_signals before now names.signals signals,
) refl

-- a file with this text has this matrix
file_matrix : (files : Files) (name text : List ℕ) (rows : List MatrixRow) → file_at files name ≡ Some text
    → length text ≤ size_limit → matrix_in text ≡ Ok rows → matrix_at files name ≡ Ok rows
unfolding matrix_at
file_matrix files name text rows holds small reads =
    let fits : nat_lt size_limit (length text) ≡ false = le-ltb size_limit (length text) small in
    rw (holds, fits) reads

-- a file with this text has this certificate
file_cert : (files : Files) (name text : List ℕ) (cert : CertParts) → file_at files name ≡ Some text
    → length text ≤ size_limit → cert_of_text text ≡ Ok cert → cert_at files name ≡ Ok cert
unfolding cert_at cert_in
file_cert files name text cert holds small reads =
    let fits : nat_lt size_limit (length text) ≡ false = le-ltb size_limit (length text) small in
    rw (holds, fits, reads) refl

-- the four files say the problem, and the matrix and the certificate that were written
pub written_reads : (names : Names) (before now : Files) (p : Parts) (rows : List MatrixRow)
    (cert : CertParts) (matrix_bytes cert_bytes : List ℕ)
    → IsSome before → Written names.matrix names.cert matrix_bytes cert_bytes before now
    → problem_at names before ≡ Ok p
    → names.network ≢ names.matrix → names.network ≢ names.cert → names.signals ≢ names.matrix
    → names.signals ≢ names.cert
    → length matrix_bytes ≤ size_limit → length cert_bytes ≤ size_limit
    → MatrixText matrix_bytes rows → cert_of_text cert_bytes ≡ Ok cert
    → texts_at names now ≡ Ok (record { problem = p; matrix = rows; cert = cert })
unfolding texts_at
written_reads names before now p rows cert matrix_bytes cert_bytes told written stands nm nc sm sc matrix_small
    cert_small matrix_reads cert_reads =
    let problem : problem_at names now ≡ Ok p =
    same_problem names before now (written.others told names.network nm nc)
    (written.others told names.signals sm sc) ∙ stands in
    let matrix_is : matrix_at now names.matrix ≡ Ok rows =
    file_matrix now names.matrix matrix_bytes rows (written.first_whole told) matrix_small
    (written_matrix rows matrix_bytes matrix_reads) in
    let cert_is : cert_at now names.cert ≡ Ok cert = file_cert now names.cert cert_bytes cert
    (written.second_whole told) cert_small cert_reads in
    rw (problem, matrix_is, cert_is) refl

-- a fact of what the files say
pub reads_and : (names : Names) (files : Files) (judged : rule.Judged) (P : rule.Judged → Type 0)
    → texts_at names files ≡ Ok judged → P judged → IsOkAnd (texts_at names files) P
reads_and names files judged P reads is = rw reads is

-- the files that are read and those that are written differ
pub record Differ (names : Names) : Type 0 where
  pub network_matrix : names.network ≢ names.matrix
  pub network_cert : names.network ≢ names.cert
  pub signals_matrix : names.signals ≢ names.matrix
  pub signals_cert : names.signals ≢ names.cert

pub differ : (names : Names) → IsTrue (are_names names) → Differ names
differ names are = record {
  network_matrix = search rules;
  network_cert = search rules;
  signals_matrix = search rules;
  signals_cert = search rules;
}

-- what was written are equal texts
pub rewritten : (names : Names) (before now : Files) (matrix other cert same : List ℕ) → matrix ≡ other → cert ≡ same
    → Written names.matrix names.cert matrix cert before now
    → Written names.matrix names.cert other same before now
rewritten names before now matrix other cert same matrix_is cert_is written =
    subst (λ text. Written names.matrix names.cert other text before now) cert_is
    (subst (λ text. Written names.matrix names.cert text cert before now) matrix_is written)
