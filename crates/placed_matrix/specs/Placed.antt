-- The placed matrix: which rows are a communication matrix of a problem. Bit positions are those of AUTOSAR
-- COM, headers those of AUTOSAR IpduM, data lengths those of ISO 11898-1.
use Rattle.std.specs.Prelude.{ℕ, ◌≡◌, ◌≢◌, ◌+◌, ◌*◌, ◌≤◌, nat_lt, List, filter, count_by, sum_by, All, Any, AllPairs, Option, Some, None, is_some, IsSome}
use Rattle.pack_model.specs.declared.signal.Signal.{Signal}
use Rattle.pack_model.specs.Problem.{Parts}
use Rattle.pack_model.specs.Signal.{same_pdu}
use Rattle.fd_length.specs.Size.{fd_size_of}
use Rattle.frame_ticks.specs.Worst.{worst_ticks_of}
use Rattle.ipdu_layout.specs.declared.place.Place.{Place}
use Rattle.ipdu_layout.specs.Layout.{IsApart, bytes_of}
use Rattle.container_pdu.specs.declared.header.Header.TheVariants.{NoHeader}
use Rattle.container_pdu.specs.Bytes.{header_bytes}
use Rattle.class_frame.specs.Frame.{header_of_items, bytes_of_item, bytes_of_items}
use Rattle.matrix_rows.specs.declared.matrix.MatrixRow.{MatrixRow}
use Rattle.placed_matrix.specs.Items.{is_named, at_of_item, items_in_frame}

-- the row says what the signal list says of the signal
pub record RowOf (signal : Signal) (row : MatrixRow) : Type 0 where
  pub name : row.signal ≡ signal.name
  pub sender : row.sender ≡ signal.sender
  pub pdu : row.pdu ≡ signal.pdu
  pub bits : row.bits ≡ signal.bits

-- each signal has exactly one row, and each row is of a signal
pub record OneRow (signals : List Signal) (rows : List MatrixRow) : Type 0 where
  pub each : All (λ signal. count_by (is_named signal.name) rows ≡ 1) signals
  pub no_other : All (λ row. Any (λ signal. RowOf signal row) signals) rows

-- the rows say the same of their frame
pub record SameFrame (row other : MatrixRow) : Type 0 where
  pub sender : row.sender ≡ other.sender
  pub size : row.size ≡ other.size
  pub ticks : row.ticks ≡ other.ticks
  pub header : row.header ≡ other.header

-- rows of one frame are all of free signals or all of I-PDUs, and those of one I-PDU stand in one part of one
-- frame
pub record OneKind (row other : MatrixRow) : Type 0 where
  pub kind : row.id ≡ other.id → is_some row.pdu ≡ is_some other.pdu
  pub part : IsSome row.pdu → row.pdu ≡ other.pdu → (row.id ≡ other.id) × (row.at ≡ other.at)

-- the bytes of the parts of a container that begin before a byte, each with its header
abbrev pub bytes_before : Parts → List MatrixRow → ℕ → ℕ → ℕ
bytes_before problem rows id at =
    sum_by (λ item. header_bytes (header_of_items (items_in_frame problem rows id)) + bytes_of_item item)
    (filter (λ item. nat_lt (at_of_item problem rows item) at) (items_in_frame problem rows id))

-- a part begins at 0 where its frame has no header; in a container it begins after its header, which follows
-- the parts that begin before it
pub record InARow (problem : Parts) (rows : List MatrixRow) (row : MatrixRow) : Type 0 where
  pub alone : row.header ≡ NoHeader → row.at ≡ 0
  pub among : row.header ≢ NoHeader
      → row.at ≡ header_bytes row.header + bytes_before problem rows row.id row.at

-- different parts of a container begin at different bytes
abbrev pub BeginApart : MatrixRow → MatrixRow → Type 0
BeginApart row other = row.id ≡ other.id → row.header ≢ NoHeader → row.at ≡ other.at → row.pdu ≡ other.pdu

-- the row's frame has the least data length for its bytes, which are at most 64, and the greatest length of a
-- frame of that size
pub record FrameFits (problem : Parts) (rows : List MatrixRow) (row : MatrixRow) : Type 0 where
  pub size : fd_size_of (bytes_of_items (items_in_frame problem rows row.id)) ≡ Some row.size
  pub ticks : row.ticks ≡ worst_ticks_of problem.network row.size

-- the bytes of an I-PDU: its signals' bits, rounded up
abbrev pub bytes_of_pdu : List Signal → ℕ → ℕ
bytes_of_pdu signals id =
    bytes_of (sum_by (λ signal. signal.bits) (filter (λ signal. same_pdu (Some id) signal.pdu) signals))

-- the bytes of the part of a signal in a frame: for a free signal those of the frame, else those of its I-PDU
abbrev pub part_bytes : Parts → List MatrixRow → ℕ → Option ℕ → ℕ
part_bytes problem rows id None = bytes_of_items (items_in_frame problem rows id)
part_bytes problem rows id (Some pdu) = bytes_of_pdu problem.signals pdu

-- the signal lies in its part
pub record InsidePart (problem : Parts) (rows : List MatrixRow) (row : MatrixRow) : Type 0 where
  pub from : 8 * row.at ≤ row.start
  pub below : row.start + row.bits ≤ 8 * (row.at + part_bytes problem rows row.id row.pdu)

-- the positions of a row's signal
abbrev pub place_of : MatrixRow → Place
place_of row = record { start = row.start; bits = row.bits }

-- the rows are a communication matrix of the problem
pub record Placed (problem : Parts) (rows : List MatrixRow) : Type 0 where
  pub one_row : OneRow problem.signals rows
  pub frames_agree : AllPairs (λ row other. row.id ≡ other.id → SameFrame row other) rows
  pub one_kind : AllPairs OneKind rows
  pub header_kind : All (λ row. row.header ≡ header_of_items (items_in_frame problem rows row.id)) rows
  pub parts_in_a_row : All (InARow problem rows) rows
  pub parts_begin_apart : AllPairs BeginApart rows
  pub size_and_ticks : All (FrameFits problem rows) rows
  pub inside_the_part : All (InsidePart problem rows) rows
  pub no_overlap : AllPairs (λ row other. row.id ≡ other.id → IsApart (place_of row) (place_of other)) rows
