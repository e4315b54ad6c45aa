-- The classes of a grouping as frames of the response-time test, and the load of a grouping.
use Rattle.std.specs.Prelude.{ℕ, List, map, sum_by}
use Rattle.std.specs.List.{range_with_len}
use Rattle.pack_model.specs.declared.item.Item.{Item}
use Rattle.pack_model.specs.Problem.{Parts}
use Rattle.class_frame.specs.Grouping.{classes_of, class_of}
use Rattle.class_frame.specs.Frame.{timed_of_items, load_of_items}
use Rattle.busy_period.specs.declared.timed.Timed.{Timed}

-- the classes as frames, by label
abbrev pub frames_of_classes : Parts → List Item → List ℕ → List Timed
frames_of_classes problem items labels = map (λ label. timed_of_items problem (class_of label labels items)) (range_with_len 0 (classes_of labels))

-- the load of a grouping: that of its classes together
abbrev pub load_of : Parts → List Item → List ℕ → ℕ
load_of problem items labels = sum_by (λ label. load_of_items problem (class_of label labels items)) (range_with_len 0 (classes_of labels))
