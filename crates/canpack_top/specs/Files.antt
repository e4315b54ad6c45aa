-- What the files that are named say.
use Rattle.std.specs.Prelude.{ℕ, ◌-◌, ◌^◌, List, Result}
use Rattle.csv_table.specs.Columns.{◌>>=◌}
use Rattle.pack_base.specs.Outside.{Files, bytes_at}
use Rattle.pack_model.specs.declared.network.Network.{Network}
use Rattle.pack_model.specs.declared.signal.Signal.{Signal}
use Rattle.pack_model.specs.Problem.{Parts, problem_of}
use Rattle.matrix_text.specs.declared.matrix.MatrixRow.{MatrixRow}
use Rattle.cert_text.specs.Parts.{CertParts}
use Rattle.canpack_top.specs.declared.refusal.Role.TheVariants as role
use Rattle.canpack_top.specs.declared.refusal.Refusal.{Refusal}
use Rattle.canpack_top.specs.Command.{Names}
use Rattle.canpack_top.specs.Text.{problem_refused, refused_as, within, network_in, signals_in, matrix_in, cert_in}

-- NETWORK and SIGNALS have at most 16 MiB
abbrev pub text_limit : ℕ
text_limit = 16777216

-- MATRIX and CERT have less than 2^63 bytes
abbrev pub size_limit : ℕ
size_limit = 2 ^ 63 - 1

-- the network of a file
unfoldable pub network_at : Files → List ℕ → Result Network Refusal
network_at files name = within text_limit role.Network (bytes_at files name) >>= network_in

-- the signals of a file
unfoldable pub signals_at : Files → List ℕ → Result (List Signal) Refusal
signals_at files name = within text_limit role.Signals (bytes_at files name) >>= signals_in

-- the matrix of a file
unfoldable pub matrix_at : Files → List ℕ → Result (List MatrixRow) Refusal
matrix_at files name = within size_limit role.Matrix (bytes_at files name) >>= matrix_in

-- the certificate of a file
unfoldable pub cert_at : Files → List ℕ → Result CertParts Refusal
cert_at files name = within size_limit role.Cert (bytes_at files name) >>= cert_in

-- the problem of a network and signals
unfoldable pub problem_in : Network → List Signal → Result Parts Refusal
problem_in network signals = refused_as problem_refused (problem_of network signals)

-- the problem of the two files that are named, or the first refusal
unfoldable pub problem_at : Names → Files → Result Parts Refusal
problem_at names files = do
  network ← network_at files names.network
  signals ← signals_at files names.signals
  problem_in network signals
