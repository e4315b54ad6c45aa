-- The communication matrix of a grouping: each class becomes one frame, by the order of the classes. In a
-- container the I-PDUs follow each other under their headers, as AUTOSAR IpduM has them; signals stand one
-- after another as AUTOSAR COM counts bits.
use Rattle.std.specs.Prelude.{ℕ, ◌+◌, ◌*◌, List, [], ◌∷◌, length, map, unwrap_or, slice_get}
use Rattle.std.specs.List.{enumerate_from, filter_map, flat_map, range_with_len}
use Rattle.pack_model.specs.declared.network.Network.{Network}
use Rattle.pack_model.specs.declared.signal.Signal.{Signal}
use Rattle.pack_model.specs.declared.item.Item.{Item}
use Rattle.pack_model.specs.Problem.{Parts}
use Rattle.class_frame.specs.Grouping.{class_of}
use Rattle.frame_ticks.specs.Worst.{worst_ticks_of}
use Rattle.ipdu_layout.specs.Layout.{start_of}
use Rattle.container_pdu.specs.declared.header.Header.{Header}
use Rattle.container_pdu.specs.declared.header.Header.TheVariants.{NoHeader, Short, Long}
use Rattle.container_pdu.specs.Bytes.{header_bytes}
use Rattle.class_frame.specs.Frame.{header_of_items, bytes_of_item, size_of_items}
use Rattle.matrix_rows.specs.declared.matrix.MatrixRow.{MatrixRow}

-- the signals at these list places
abbrev pub signals_at : List Signal → List ℕ → List Signal
signals_at signals places = filter_map (slice_get signals) places

-- how many bits each signal has
abbrev pub widths_of : List Signal → List ℕ
widths_of signals = map (λ signal. signal.bits) signals

-- What the rows of one frame share beside the sender.
pub record FrameFigures : Type 0 where
  pub id : ℕ
  pub size : ℕ
  pub ticks : ℕ
  pub header : Header

-- the figures of the frame of items with an identifier
abbrev pub figures_of : Network → ℕ → List Item → FrameFigures
figures_of network id items = record {
  id = id;
  size = unwrap_or (size_of_items items) 0;
  ticks = worst_ticks_of network (unwrap_or (size_of_items items) 0);
  header = header_of_items items;
}

-- A part of a frame: the byte at which it begins, and the list places of its signals.
pub record FramePart : Type 0 where
  pub at : ℕ
  pub places : List ℕ

-- the parts of a container from a byte on, each after its header
abbrev pub parts_from : Header → ℕ → List Item → List FramePart
parts_from kind next [] = []
parts_from kind next (item ∷ items) =
    record { at = next + header_bytes kind; places = item.members } ∷ parts_from kind
    (next + header_bytes kind + bytes_of_item item) items

-- the parts of a frame by its header: one where it has none
abbrev pub parts_with : Header → List Item → List FramePart
parts_with NoHeader items = record { at = 0; places = flat_map (λ item. item.members) items } ∷ []
parts_with Short items = parts_from Short 0 items
parts_with Long items = parts_from Long 0 items

-- the parts of the frame of items
abbrev pub parts_of_items : List Item → List FramePart
parts_of_items items = parts_with (header_of_items items) items

-- the row of a signal that starts at a position, in a part of a frame that begins at a byte
abbrev pub row_with : FrameFigures → ℕ → ℕ → Signal → MatrixRow
row_with frame at start signal = record {
  id = frame.id;
  sender = signal.sender;
  size = frame.size;
  ticks = frame.ticks;
  header = frame.header;
  pdu = signal.pdu;
  at = at;
  signal = signal.name;
  start = start;
  bits = signal.bits;
}

-- the row of the signal of a number among the signals of a part, which stands after those before it
abbrev pub row_in_part : FrameFigures → ℕ → List Signal → ℕ × Signal → MatrixRow
row_in_part frame at signals e = row_with frame at (8 * at + start_of (widths_of signals) e.0) e.1

-- the rows of a part of a frame
abbrev pub rows_of_part : FrameFigures → List Signal → FramePart → List MatrixRow
rows_of_part frame signals part =
    map (row_in_part frame part.at (signals_at signals part.places))
    (enumerate_from 0 (signals_at signals part.places))

-- the rows of the frame of items with an identifier
abbrev pub rows_of_items : Network → ℕ → List Signal → List Item → List MatrixRow
rows_of_items network id signals items =
    flat_map (rows_of_part (figures_of network id items) signals) (parts_of_items items)

-- the rows of the class that the order names at a place
abbrev pub rows_of_class : Parts → List ℕ → ℕ × ℕ → List MatrixRow
rows_of_class problem labels e =
    rows_of_items problem.network (problem.network.first_id + e.0) problem.signals
    (class_of e.1 labels problem.items)

-- the rows by identifier, then by item, and then by list place
abbrev pub rows_of : Parts → List ℕ → List ℕ → List MatrixRow
rows_of problem labels order = flat_map (rows_of_class problem labels) (enumerate_from 0 order)

-- the rows of one frame for each item: the item of a number has the identifier so far above the first
abbrev pub rows_one_each : Parts → List MatrixRow
rows_one_each problem =
    rows_of problem (range_with_len 0 (length problem.items)) (range_with_len 0 (length problem.items))
