-- The frames of a placed matrix on a bus, and what runs of that bus are to meet.
use Rattle.std.specs.Prelude.{ℕ, List, map, filter, nat_eq, unwrap_or}
use Rattle.std.specs.List.{list_any}
use Rattle.pack_model.specs.declared.item.Item.{Item}
use Rattle.pack_model.specs.Problem.{Parts}
use Rattle.class_frame.specs.Frame.{size_of_items, timed_of_items}
use Rattle.class_frame.specs.Grouping.{class_of}
use Rattle.matrix_rows.specs.declared.matrix.MatrixRow.{MatrixRow}
use Rattle.matrix_text.specs.Frames.{frame_identifiers, grouping_of, identifiers, label_in}
use Rattle.bus_run.specs.declared.run.BusFrame.{BusFrame}
use Rattle.bus_run.specs.Late.{IsLate}
use Rattle.bus_run.specs.Rules.{RunStands}
use Rattle.bus_run.specs.Run.{Course}

-- the identifiers of the frames, ascending
abbrev pub ascending_identifiers : Parts → List MatrixRow → List ℕ
ascending_identifiers problem rows =
    filter (λ id. list_any (nat_eq id) (frame_identifiers problem rows)) identifiers

-- the items in the frame of an identifier
abbrev pub items_of_frame : Parts → List MatrixRow → ℕ → List Item
items_of_frame problem rows id =
    class_of (label_in (frame_identifiers problem rows) id) (grouping_of problem rows) problem.items

-- the frame of some items under an identifier: their data length, and their times
abbrev pub bus_frame_of : Parts → ℕ → List Item → BusFrame
bus_frame_of problem id items =
    record { id = id; size = unwrap_or (size_of_items items) 0; timed = timed_of_items problem items }

-- the frames of the matrix by ascending identifier
abbrev pub bus_frames_of : Parts → List MatrixRow → List BusFrame
bus_frames_of problem rows =
    map (λ id. bus_frame_of problem id (items_of_frame problem rows id)) (ascending_identifiers problem rows)

-- no release is late in any run of the bus that stands
abbrev pub NeverLate : Parts → List MatrixRow → Type 0
NeverLate problem rows = (run : Course) → RunStands problem.network (bus_frames_of problem rows) run
    → (release : ℕ) → ¬ IsLate (bus_frames_of problem rows) run release
