-- The text of a network (NETWORK), the project's own format: one JSON object (RFC 8259) as `serde_json` reads
-- it.
use Rattle.std.specs.Prelude.{◌≡◌, ℕ, ◌==◌, ◌&&◌, ◌++◌, List, codes, decimal, nat_le, Option, Some, None, option_and_then, Result, Ok, Err, if◌then◌else◌}
use Rattle.std.specs.Str.{is_utf8}
use Rattle.csv.specs.Reading.{strip_bom}
use Rattle.serde_json.specs.Data.{Data, Members}
use Rattle.serde_json.specs.Events.{members_len}
use Rattle.serde_json.specs.Find.{as_number, as_object, as_u64, get}
use Rattle.serde_json.specs.Read.{read}
use Rattle.pack_model.specs.declared.network.Network.{Network}
use Rattle.csv_table.specs.Columns.{◌>>=◌, or_error}
use Rattle.input_text.specs.declared.network.NetworkFault.{NetworkFault}
use Rattle.input_text.specs.declared.network.NetworkFault.TheVariants as fault

-- why a text has no network: it is no JSON, or the least of these members is at fault: 0 it is no object, 1
-- `version`, 2 `ticks_per_us`, 3 `nominal_ticks`, 4 `data_ticks`, 5 `first_id`, 6 there is a further member
pub data NetworkRefusal : Type 0 where
  not_json : NetworkRefusal
  bad_member : ℕ → NetworkRefusal

-- the JSON value of a text, one byte order mark at its front passed over
abbrev pub value_in : List ℕ → Option Data
value_in text = if is_utf8 (strip_bom text) then read (strip_bom text) else None

-- a whole number from low to high, which has no sign, fraction or exponent
abbrev pub in_range : ℕ → ℕ → Option ℕ → Option ℕ
in_range low high None = None
in_range low high (Some n) = if nat_le low n && nat_le n high then Some n else None

-- the number of a member
abbrev pub member_in : ℕ → ℕ → ℕ → List ℕ → Data → Result ℕ NetworkRefusal
member_in low high k name value =
    or_error (bad_member k) (in_range low high
    (option_and_then as_u64 (option_and_then as_number (get name value))))

-- there is no further member
abbrev pub none_further : ℕ → Members → Result ℕ NetworkRefusal
none_further count members = if members_len members == count then Ok count else Err (bad_member 6)

-- the network of a value, or the least member at fault
abbrev pub network_in : Data → Result Network NetworkRefusal
network_in value = do
  members ← or_error (bad_member 0) (as_object value)
  version ← member_in 1 1 1 (codes "version") value
  ticks ← member_in 1 1000 2 (codes "ticks_per_us") value
  nominal ← member_in 1 10000 3 (codes "nominal_ticks") value
  bit ← member_in 1 nominal 4 (codes "data_ticks") value
  first ← member_in 0 1920 5 (codes "first_id") value
  count ← none_further 5 members
  Ok (record { ticks_per_us = ticks; nominal_ticks = nominal; data_ticks = bit; first_id = first })

-- the network of a text, or its refusal
abbrev pub network_of : List ℕ → Result Network NetworkRefusal
network_of text = or_error not_json (value_in text) >>= network_in

-- the text is one of this network
abbrev pub NetworkText : List ℕ → Network → Type 0
NetworkText text network = network_of text ≡ Ok network

-- what a fault of the reader says of the text
abbrev pub network_refusal : NetworkFault → Option NetworkRefusal
network_refusal fault.NotJson = Some not_json
network_refusal (fault.BadMember k) = Some (bad_member k)
network_refusal fault.Memory = None

-- the text that is written for a network: one line
abbrev pub network_text : Network → List ℕ
network_text n =
    codes "{\"version\":1,\"ticks_per_us\":"
    ++ (decimal n.ticks_per_us ++ (codes ",\"nominal_ticks\":" ++ (decimal n.nominal_ticks
    ++ (codes ",\"data_ticks\":"
    ++ (decimal n.data_ticks ++ (codes ",\"first_id\":" ++ (decimal n.first_id ++ codes "}\n")))))))
