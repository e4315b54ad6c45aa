-- Why bytes are no container, in the words by which containers are written.
use Rattle.std.specs.Prelude.{◌≡◌, ◌≤◌, ◌<◌, ◌++◌, ℕ, List, length, Any, false}
use Rattle.container_pdu.specs.declared.header.Header.{Header}
use Rattle.container_pdu.specs.declared.part.Part.{Part}
use Rattle.container_pdu.specs.declared.fault.ContainerFault.{ContainerFault}
use Rattle.container_pdu.specs.declared.fault.ContainerFault.TheVariants as fault
use Rattle.container_pdu.specs.Bytes.{Fits, header_bytes, header_text, id_limit, length_limit, parts_text}
use Rattle.container_pdu.specs.Reading.{is_zeros}

-- the bytes are a header of this id and this length, and these bytes after it
pub record IsUnder (header : Header) (id count : ℕ) (body bytes : List ℕ) : Type 0 where
  pub id_fits : id < id_limit header
  pub count_fits : count < length_limit header
  pub spelled : bytes ≡ header_text header id count ++ body

-- what is wrong with the bytes that stand behind these parts; a place counts the bytes before it
pub data IsWrong : Header → List Part → List ℕ → ContainerFault → Type 0 where
  -- there are fewer than a header is
  cut_header : {header : Header} {parts : List Part} {bytes : List ℕ} {at : ℕ}
      → at ≡ length (parts_text header parts) → length bytes < header_bytes header
      → IsWrong header parts bytes (fault.CutHeader at)
  -- the id is 0
  zero_id : {header : Header} {parts : List Part} {bytes body : List ℕ} {at count : ℕ}
      → at ≡ length (parts_text header parts) → IsUnder header 0 count body bytes
      → IsWrong header parts bytes (fault.ZeroId at)
  -- fewer bytes than the length follow the header
  cut_body : {header : Header} {parts : List Part} {bytes body : List ℕ} {at id count : ℕ}
      → at ≡ length (parts_text header parts) → IsUnder header id count body bytes → 1 ≤ id
      → length body < count
      → IsWrong header parts bytes (fault.CutBody at)
  -- the id is that of one of the parts
  twice_id : {header : Header} {parts : List Part} {bytes body : List ℕ} {id count : ℕ}
      → IsUnder header id count body bytes → 1 ≤ id → count ≤ length body → Any (λ part. part.id ≡ id) parts
      → IsWrong header parts bytes (fault.TwiceId id)

-- the bytes begin with parts that a container can have, and behind them stand bytes that are not all zero and
-- are
-- wrong in this way
pub record Refuses (header : Header) (bytes : List ℕ) (why : ContainerFault) : Type 0 where
  pub parts : List Part
  pub rest : List ℕ
  pub fits : Fits header parts (length bytes)
  pub spelled : bytes ≡ parts_text header parts ++ rest
  pub left : is_zeros rest ≡ false
  pub wrong : IsWrong header parts rest why
