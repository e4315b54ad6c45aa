-- Tables by identifier and by signal, which the checks of a matrix fill in one pass over its rows.
use Rattle.std.specs.Prelude.{ℕ, ◌≡◌, ◌≢◌, ◌==◌, ◌+◌, ◌*◌, ◌<◌, ◌≤◌, nat_eq, nat_lt, List, [], filter, not, Option, Some, None, is_some, IsSome, slice_index, slice_index_or, length, sum_by, All, if◌then◌else◌}
use Rattle.std.specs.List.{list_any, position_or_len}
use Rattle.frame_ticks.specs.declared.bits.TheConstants.{IDENTIFIERS}
use Rattle.pack_model.specs.declared.problem.TheConstants.{MAX_SIGNALS}
use Rattle.pack_model.specs.declared.item.Item.{Item}
use Rattle.pack_model.specs.declared.signal.Signal.{Signal}
use Rattle.pack_model.specs.Problem.{Parts, names_of}
use Rattle.pack_model.specs.declared.network.Network.{Network}
use Rattle.fd_length.specs.Size.{fd_size_of}
use Rattle.frame_ticks.specs.Worst.{worst_ticks_of}
use Rattle.ipdu_layout.specs.declared.place.Place.{Place}
use Rattle.container_pdu.specs.declared.header.Header.{Header}
use Rattle.container_pdu.specs.declared.header.Header.TheVariants.{NoHeader}
use Rattle.container_pdu.specs.Bytes.{header_bytes}
use Rattle.class_frame.specs.Frame.{header_of_items, bytes_of_item}
use Rattle.matrix_rows.specs.declared.matrix.MatrixRow.{MatrixRow}
use Rattle.placed_matrix.specs.declared.fits.PartFigures.{PartFigures}
use Rattle.placed_matrix.specs.Items.{is_named, frame_of_item, at_of_item, items_in_frame}
use Rattle.placed_matrix.specs.Placed.{SameFrame, BeginApart, InARow, FrameFits, InsidePart, bytes_of_pdu}
use Rattle.placed_matrix.specs.Frames.{label_in}

-- a row number that no matrix has, and a label that no frame has
abbrev pub no_row : ℕ
no_row = 18446744073709551615

abbrev pub no_label : ℕ
no_label = 4294967295

-- each signal's place has the number of its first row
abbrev pub HasRows : List Signal → List MatrixRow → List ℕ → Type 0
HasRows signals rows row_of = (place : ℕ) → place < length signals →
    (slice_index row_of place < length rows)
    × (position_or_len (is_named (slice_index_or (names_of signals) place [])) rows
    ≡ slice_index row_of place)

-- the label of an identifier in use
abbrev pub label_or_none : List ℕ → ℕ → ℕ
label_or_none firsts id = if list_any (nat_eq id) firsts then label_in firsts id else no_label

-- each identifier in use has its label, and no other has one
abbrev pub HasLabels : List ℕ → List ℕ → Type 0
HasLabels firsts label_of = (id : ℕ) → id < IDENTIFIERS →
    slice_index label_of id ≡ label_or_none firsts id

-- the positions of a row's signal among those of all frames, by the frame's label
abbrev pub place_among : List ℕ → MatrixRow → Place
place_among label_of row = record { start = 512 * slice_index label_of row.id + row.start; bits = row.bits }

-- the table's labels are below 128 and tell the frames of the rows apart
pub record LabelsApart (label_of : List ℕ) (rows : List MatrixRow) : Type 0 where
  pub low : (k : ℕ) (d : MatrixRow) → k < length rows
      → slice_index label_of (slice_index_or rows k d).id < 128
  pub apart : (i j : ℕ) (d : MatrixRow) → i < length rows → j < length rows
      → slice_index label_of (slice_index_or rows i d).id ≡ slice_index label_of (slice_index_or rows j d).id
      → (slice_index_or rows i d).id ≡ (slice_index_or rows j d).id

-- the item's first signal has a row in the table
pub record FirstFound (rows : List MatrixRow) (row_of : List ℕ) (item : Item) : Type 0 where
  pub some : 0 < length item.members
  pub low : slice_index item.members 0 < MAX_SIGNALS
  pub within : slice_index row_of (slice_index item.members 0) < length rows

-- the signals of these places have rows in the table
abbrev pub AllFound : List MatrixRow → List ℕ → List ℕ → Type 0
AllFound rows row_of places =
    All (λ place. (place < MAX_SIGNALS) × (slice_index row_of place < length rows)) places

-- it holds of the rows of the signals of these places
abbrev pub RowsOf : (MatrixRow → Type 0) → List MatrixRow → List ℕ → List ℕ → Type 0
RowsOf holds rows row_of places =
    All (λ place. (d : MatrixRow) → holds (slice_index_or rows (slice_index row_of place) d)) places

-- the rows stand in one part of one frame
pub record AtOnePlace (row other : MatrixRow) : Type 0 where
  pub id : row.id ≡ other.id
  pub at : row.at ≡ other.at

-- the rows say the same of their frame, and are both of free signals or both of I-PDUs
pub record SameFrameAndKind (row other : MatrixRow) : Type 0 where
  pub frame : SameFrame row other
  pub kind : is_some row.pdu ≡ is_some other.pdu

-- rows of one frame are all of free signals or all of I-PDUs
abbrev pub SameKind : MatrixRow → MatrixRow → Type 0
SameKind row other = row.id ≡ other.id → is_some row.pdu ≡ is_some other.pdu

-- rows of one I-PDU stand in one part of one frame
abbrev pub SamePart : MatrixRow → MatrixRow → Type 0
SamePart row other = IsSome row.pdu → row.pdu ≡ other.pdu → (row.id ≡ other.id) × (row.at ≡ other.at)

-- what two rows say of their parts can be so in one matrix
pub record StandTogether (row other : MatrixRow) : Type 0 where
  pub part : SamePart row other
  pub apart : BeginApart row other

-- those of the items that are in the frame and whose part begins before a byte
abbrev pub parts_before : Parts → List MatrixRow → ℕ → ℕ → List Item → List Item
parts_before problem rows id at items =
    filter (λ item. nat_lt (at_of_item problem rows item) at)
    (filter (λ item. frame_of_item problem rows item == id) items)

-- the bytes of parts, each with this header
abbrev pub bytes_under : Header → List Item → ℕ
bytes_under header items = sum_by (λ item. header_bytes header + bytes_of_item item) items

-- the bytes of the part of a signal: for a free signal those of its frame, else those of its I-PDU
abbrev pub bytes_of_part : List Signal → ℕ → Option ℕ → ℕ
bytes_of_part signals frame_bytes None = frame_bytes
bytes_of_part signals frame_bytes (Some pdu) = bytes_of_pdu signals pdu

-- the signal lies in a part of so many bytes
pub record InPart (row : MatrixRow) (bytes : ℕ) : Type 0 where
  pub from : 8 * row.at ≤ row.start
  pub below : row.start + row.bits ≤ 8 * (row.at + bytes)

-- the part begins at 0 where there are no headers, and else after its header, which follows so many bytes
pub record BeginsAfter (row : MatrixRow) (before : ℕ) : Type 0 where
  pub alone : row.header ≡ NoHeader → row.at ≡ 0
  pub among : row.header ≢ NoHeader → row.at ≡ header_bytes row.header + before

-- the row's frame has the size and the ticks of so many bytes, and its signal lies in its part, which follows
-- its header and so many bytes
pub record RowMeets (network : Network) (row : MatrixRow) (bytes part before : ℕ) : Type 0 where
  pub size : fd_size_of bytes ≡ Some row.size
  pub ticks : row.ticks ≡ worst_ticks_of network row.size
  pub inside : InPart row part
  pub begins : BeginsAfter row before

-- the row agrees with the figures of its part
pub record MeetsFigures (network : Network) (row : MatrixRow) (figures : PartFigures) : Type 0 where
  pub header : row.header ≡ figures.header
  pub meets : RowMeets network row figures.frame figures.part figures.before

-- the row has the header, the place, the size and the ticks that the items of its frame give, and its signal
-- lies in its part
pub record RowFits (problem : Parts) (rows : List MatrixRow) (row : MatrixRow) : Type 0 where
  pub header : row.header ≡ header_of_items (items_in_frame problem rows row.id)
  pub in_a_row : InARow problem rows row
  pub frame : FrameFits problem rows row
  pub inside : InsidePart problem rows row

-- the labels of a table that are in use, by ascending identifier
abbrev pub in_use : List ℕ → List ℕ
in_use label_of = filter (λ label. not (nat_eq label no_label)) label_of
