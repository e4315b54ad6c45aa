-- The bits of a CAN FD base frame in the order sent, from the start of frame to the last data bit,
-- as ISO 11898-1 has them, without stuff bits.
use Rattle.std.specs.Prelude.{◌≡◌, ℕ, zero, suc, ◌<◌, ◌==◌, Bool, true, false, List, [], ◌∷◌, ◌++◌, length, flat_map}
use Rattle.std.specs.Int.{bit_at}
use Rattle.frame_ticks.specs.declared.bits.TheConstants.{IDENTIFIERS}
use Rattle.fd_length.specs.Size.{IsSize, code_of_size}

-- the lowest bits of a number, so many of them, the most significant first
unfoldable pub number_bits : ℕ → ℕ → List Bool
number_bits zero value = []
number_bits (suc count) value = (bit_at value count == 1) ∷ number_bits count value

-- from the start of frame to IDE: SOF, which is dominant, the identifier, RRS and IDE
abbrev pub arbitration_bits : ℕ → List Bool
arbitration_bits id = false ∷ number_bits 11 id ++ (false ∷ false ∷ [])

-- FDF, res and BRS, by which the frame is an FD frame that switches its bit rate
abbrev pub format_bits : List Bool
format_bits = true ∷ false ∷ true ∷ []

-- the four bits of the data length code
abbrev pub length_bits : ℕ → List Bool
length_bits size = number_bits 4 (code_of_size size)

-- the data, each byte with its most significant bit first
abbrev pub payload_bits : List ℕ → List Bool
payload_bits payload = flat_map (λ byte. number_bits 8 byte) payload

-- the bits at the nominal rate: from the start of frame to BRS
abbrev pub nominal_bits_of : ℕ → List Bool
nominal_bits_of id = arbitration_bits id ++ format_bits

-- the bits at the data rate: ESI, the data length code and the data
abbrev pub data_bits_of : Bool → List ℕ → List Bool
data_bits_of esi payload = esi ∷ length_bits (length payload) ++ payload_bits payload

-- all bits from the start of frame to the last data bit
abbrev pub bits_of : ℕ → Bool → List ℕ → List Bool
bits_of id esi payload = nominal_bits_of id ++ data_bits_of esi payload

-- these are the bits of some frame
pub record IsFrame (bits : List Bool) : Type 0 where
  pub id : ℕ
  pub esi : Bool
  pub payload : List ℕ
  pub id_high : id < IDENTIFIERS
  pub listed : IsSize (length payload)
  pub same : bits ≡ bits_of id esi payload
