-- The steps by which a container is read, from the front, with the first fault that is met.
use Rattle.std.specs.Prelude.{ℕ, Bool, zero, suc, ◌-◌, ◌==◌, ◌++◌, List, [], ◌∷◌, length, take, drop, slice_index, nat_lt, Option, Some, None, Result, Ok, Err, if◌then◌else◌}
use Rattle.std.specs.List.{list_all, list_any}
use Rattle.std.specs.Int.{w32, from_be_bytes}
use Rattle.container_pdu.specs.declared.header.Header.{Header}
use Rattle.container_pdu.specs.declared.header.Header.TheVariants.{NoHeader, Short, Long}
use Rattle.container_pdu.specs.declared.part.Part.{Part}
use Rattle.container_pdu.specs.declared.fault.ContainerFault.{ContainerFault}
use Rattle.container_pdu.specs.declared.fault.ContainerFault.TheVariants as fault
use Rattle.container_pdu.specs.Bytes.{header_bytes}

-- the id that a header says: its first 24 or 32 bits
abbrev pub id_in : Header → List ℕ → ℕ
id_in NoHeader bytes = 0
id_in Short bytes = from_be_bytes w32 (0 ∷ take 3 bytes)
id_in Long bytes = from_be_bytes w32 (take 4 bytes)

-- the length that a header says: its last 8 or 32 bits
abbrev pub length_in : Header → List ℕ → ℕ
length_in NoHeader bytes = 0
length_in Short bytes = slice_index bytes 3
length_in Long bytes = from_be_bytes w32 (take 4 (drop 4 bytes))

-- a part with this id is among these
abbrev pub has_id : ℕ → List Part → Bool
has_id id parts = list_any (λ part. part.id == id) parts

-- the bytes after the header
abbrev pub after_header : Header → List ℕ → List ℕ
after_header header bytes = drop (header_bytes header) bytes

-- the part at the front of these bytes and the bytes after it, or why there is none; it stands at a place,
-- after
-- earlier parts
abbrev pub part_at : Header → ℕ → List Part → List ℕ → Result (Part × List ℕ) ContainerFault
part_at header at earlier bytes =
    if nat_lt (length bytes) (header_bytes header) then Err (fault.CutHeader at)
    else (if id_in header bytes == 0 then Err (fault.ZeroId at)
    else (if nat_lt (length (after_header header bytes)) (length_in header bytes) then Err (fault.CutBody at)
    else (if has_id (id_in header bytes) earlier then Err (fault.TwiceId (id_in header bytes))
    else Ok (
      record {
        id = id_in header bytes;
        bytes = take (length_in header bytes) (after_header header bytes);
      },
      drop (length_in header bytes) (after_header header bytes),
    ))))

infixl 10 ◌>>=◌
-- one step of reading, and then the next
abbrev pub ◌>>=◌ : {A B : Type 0} → Result A ContainerFault → (A → Result B ContainerFault)
    → Result B ContainerFault
(Ok x) >>= f = f x
(Err e) >>= f = Err e

-- all bytes are zero
abbrev pub is_zeros : List ℕ → Bool
is_zeros bytes = list_all (λ byte. byte == 0) bytes

-- the earlier parts and those of the bytes that are left of so many in all, until only zeros are left; each
-- part
-- takes a byte at least, so that there are at most so many steps as bytes
abbrev pub parts_after : Header → ℕ → ℕ → List Part → List ℕ → Result (List Part) ContainerFault
parts_after kind total zero earlier bytes = Ok earlier
parts_after kind total (suc steps) earlier bytes =
    if is_zeros bytes then Ok earlier
    else (part_at kind (total - length bytes) earlier bytes >>= λ x. parts_after kind total steps
    (earlier ++ x.0 ∷ []) x.1)

-- the parts of a container, or its first refusal
abbrev pub parts_of : Header → List ℕ → Result (List Part) ContainerFault
parts_of header bytes = parts_after header (length bytes) (length bytes) [] bytes

-- a fault of the bytes; want of memory is none
abbrev pub told : ContainerFault → Option ContainerFault
told fault.Memory = None
told other = Some other
