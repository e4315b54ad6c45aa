-- The items of classes by their numbers, and what the items of one class are together.
use Rattle.std.specs.Prelude.{ℕ, ◌+◌, List, length, sum_by, slice_get}
use Rattle.std.specs.List.{filter_map, flat_map, range_with_len}
use Rattle.pack_model.specs.declared.item.Item.{Item}
use Rattle.class_frame.specs.Grouping.{class_of}
use Rattle.container_pdu.specs.declared.header.Header.{Header}
use Rattle.container_pdu.specs.Bytes.{header_bytes}
use Rattle.class_frame.specs.Frame.{bytes_of_item}
use Rattle.matrix_layout.specs.declared.frame.Frame.{Frame}
use Rattle.matrix_layout.specs.LaidOut.{FrameFigures}

-- the numbers of the items that have the label, ascending
abbrev pub numbers_of_class : List ℕ → ℕ → List ℕ
numbers_of_class labels label = class_of label labels (range_with_len 0 (length labels))

-- the items with these numbers
abbrev pub items_at : List Item → List ℕ → List Item
items_at items numbers = filter_map (slice_get items) numbers

-- the list places of the signals of items, item by item
abbrev pub places_of_items : List Item → List ℕ
places_of_items items = flat_map (λ item. item.members) items

-- the bits of items together
abbrev pub bits_of_items : List Item → ℕ
bits_of_items items = sum_by (λ item. item.bits) items

-- the bytes of items that each stand after a header
abbrev pub bytes_with : Header → List Item → ℕ
bytes_with kind items = sum_by (λ item. header_bytes kind + bytes_of_item item) items

-- the figures of a frame
abbrev pub figures : Frame → FrameFigures
figures frame = record { id = frame.id; size = frame.size; ticks = frame.ticks; header = frame.header }
