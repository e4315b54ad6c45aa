-- Containers as AUTOSAR IpduM has them: parts one after another, each under a header.
use Rattle.std.specs.Prelude.{◌≡◌, ◌≢◌, ◌≤◌, ◌<◌, ◌+◌, ◌-◌, ◌*◌, ◌^◌, ◌++◌, ℕ, List, [], ◌∷◌, length, sum, All, AllPairs, drop, nat_lt, replicate, if◌then◌else◌}
use Rattle.std.specs.List.{flat_map, list_all}
use Rattle.std.specs.Int.{w32, to_be_bytes}
use Rattle.container_pdu.specs.declared.header.Header.{Header}
use Rattle.container_pdu.specs.declared.header.Header.TheVariants.{NoHeader, Short, Long}
use Rattle.container_pdu.specs.declared.part.Part.{Part}

-- fewer than two ids need no header; a short one does where each id is below 2^24
abbrev pub header_of : List ℕ → Header
header_of ids =
    if nat_lt (length ids) 2 then NoHeader
    else (if list_all (λ id. nat_lt id (2 ^ 24)) ids then Short else Long)

-- the bytes of a header
abbrev pub header_bytes : Header → ℕ
header_bytes NoHeader = 0
header_bytes Short = 4
header_bytes Long = 8

-- the bytes of parts with these ids and lengths, with their headers
abbrev pub bytes_of_parts : List ℕ → List ℕ → ℕ
bytes_of_parts ids lengths = length ids * header_bytes (header_of ids) + sum lengths

-- each id in a header is below this
abbrev pub id_limit : Header → ℕ
id_limit NoHeader = 0
id_limit Short = 2 ^ 24
id_limit Long = 2 ^ 32

-- each length in a header is below this
abbrev pub length_limit : Header → ℕ
length_limit NoHeader = 0
length_limit Short = 2 ^ 8
length_limit Long = 2 ^ 32

-- an id and a length, most significant byte first: 24 and 8 bits in a short header, 32 and 32 in a long one
abbrev pub header_text : Header → ℕ → ℕ → List ℕ
header_text NoHeader id count = []
header_text Short id count = drop 1 (to_be_bytes w32 id) ++ count ∷ []
header_text Long id count = to_be_bytes w32 id ++ to_be_bytes w32 count

-- a part is its header and its bytes
abbrev pub part_text : Header → Part → List ℕ
part_text header part = header_text header part.id (length part.bytes) ++ part.bytes

-- parts one after another
abbrev pub parts_text : Header → List Part → List ℕ
parts_text header parts = flat_map (part_text header) parts

-- so many bytes: those of the parts, and zeros
abbrev pub container_text : Header → List Part → ℕ → List ℕ
container_text header parts size =
    parts_text header parts ++ replicate (size - length (parts_text header parts)) 0

-- parts that a container of so many bytes can have
pub record Fits (header : Header) (parts : List Part) (size : ℕ) : Type 0 where
  pub under_headers : header ≢ NoHeader
  pub some_id : All (λ part. 1 ≤ part.id) parts
  pub ids : All (λ part. part.id < id_limit header) parts
  pub lengths : All (λ part. length part.bytes < length_limit header) parts
  pub distinct : AllPairs (λ part other. part.id ≢ other.id) parts
  pub room : length (parts_text header parts) ≤ size

-- the bytes are those of the parts with their headers, and zeros
pub record IsContainer (header : Header) (parts : List Part) (bytes : List ℕ) : Type 0 where
  pub fits : Fits header parts (length bytes)
  pub spelled : bytes ≡ container_text header parts (length bytes)
