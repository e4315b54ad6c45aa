-- The lines that the program says, each ended by LF: the project's own.
use Rattle.std.specs.Prelude.{ℕ, List, [], ◌∷◌, ◌++◌, codes, decimal, slice_index_or}
use Rattle.input_text.specs.SignalsText.{signals_header}
use Rattle.matrix_text.specs.MatrixText.{matrix_header}
use Rattle.canpack_top.specs.declared.refusal.Role.{Role}
use Rattle.canpack_top.specs.declared.refusal.Role.TheVariants as role
use Rattle.canpack_top.specs.declared.refusal.Refusal.{Refusal}
use Rattle.canpack_top.specs.declared.refusal.Refusal.TheVariants as refusal

-- a text as a line
abbrev pub line : List ℕ → List ℕ
line text = text ++ 10 ∷ []

abbrev pub role_name : Role → List ℕ
role_name role.Network = codes "NETWORK"
role_name role.Signals = codes "SIGNALS"
role_name role.Matrix = codes "MATRIX"
role_name role.Cert = codes "CERT"

-- the names of the columns from 0 on: the count of fields, and then the fields of the header
abbrev pub columns_of : Role → List (List ℕ)
columns_of role.Network = []
columns_of role.Signals = codes "count" ∷ signals_header
columns_of role.Matrix = codes "count" ∷ matrix_header
columns_of role.Cert = []

abbrev pub column_name : Role → ℕ → List ℕ
column_name file column = slice_index_or (columns_of file) column []

abbrev pub placed_line : List ℕ
placed_line = line (codes "placed")

-- which text is refused, and why
abbrev pub refused_line : Refusal → List ℕ
refused_line (refusal.TooLarge file) = codes "refused " ++ (role_name file ++ codes " too large\n")
refused_line refusal.NotJson = codes "refused NETWORK not json\n"
refused_line (refusal.BadMember member) = codes "refused NETWORK member " ++ (decimal member ++ codes "\n")
refused_line (refusal.BadHeader file) = codes "refused " ++ (role_name file ++ codes " header\n")
refused_line (refusal.BadRow file row column) =
    codes "refused " ++ (role_name file ++ (codes " row " ++ (decimal row ++ (codes " column " ++ (column_name file column ++ codes "\n")))))
refused_line refusal.TooManySignals = codes "refused SIGNALS too many signals\n"
refused_line refusal.NoSignals = codes "refused SIGNALS no signals\n"
refused_line (refusal.TwiceNamed row) = codes "refused SIGNALS row " ++ (decimal row ++ codes " named twice\n")
refused_line (refusal.PduSenders row) = codes "refused SIGNALS row " ++ (decimal row ++ codes " pdu of another sender\n")
refused_line (refusal.PduTooLarge id) = codes "refused SIGNALS pdu " ++ (decimal id ++ codes " too large\n")
refused_line refusal.TooManyItems = codes "refused SIGNALS too many items\n"
refused_line refusal.PeriodsMixed = codes "refused SIGNALS periods mixed\n"
refused_line (refusal.BadLine number) = codes "refused CERT line " ++ (decimal number ++ codes "\n")
refused_line refusal.Cut = codes "refused CERT cut\n"

abbrev pub usage_line : List ℕ
usage_line = line (codes "usage: plan NETWORK SIGNALS MATRIX CERT BRANCHES WORKERS | check NETWORK SIGNALS MATRIX CERT WORKERS | make NUMBER [NETWORK SIGNALS]")
