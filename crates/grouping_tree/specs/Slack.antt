-- What the frames of the sender in work have to spare, in eighths of ticks a common period: the project's own.
use Rattle.std.specs.Prelude.{ℕ, ◌-◌, ◌*◌, ◌/◌, ◌==◌, List, [], ◌∷◌, length, take, sum_by, unwrap_or, Option, None, Some, if◌then◌else◌}
use Rattle.std.specs.List.{range_with_len}
use Rattle.pack_model.specs.declared.item.Item.{Item}
use Rattle.pack_model.specs.Problem.{Parts}
use Rattle.class_frame.specs.Frame.{period_of_items, size_of_items, weight_of_items}
use Rattle.class_frame.specs.Grouping.{class_of, classes_of}

-- the bits of a frame's data that its items leave free
abbrev pub free_bits_of : List Item → ℕ
free_bits_of items = 8 * unwrap_or (size_of_items items) 0 - weight_of_items items

-- the slack of a class: what its free bits would cost, at the period of the class
abbrev pub slack_of : Parts → List Item → ℕ
slack_of problem items =
    10 * problem.network.data_ticks * free_bits_of items * (problem.hyper / period_of_items problem items)

-- the sum of a figure over the classes of a grouping
abbrev pub over_classes : (List Item → ℕ) → List Item → List ℕ → ℕ
over_classes figure items labels =
    sum_by (λ label. figure (class_of label labels items)) (range_with_len 0 (classes_of labels))

-- a figure of a class of one sender, 0 of the other classes
abbrev pub at_sender : ℕ → (List Item → ℕ) → List Item → ℕ
at_sender sender figure [] = 0
at_sender sender figure (item ∷ items) = if item.sender == sender then figure (item ∷ items) else 0

-- the slacks of the classes of a sender
abbrev pub slacks_of : Parts → ℕ → List Item → List ℕ → ℕ
slacks_of problem sender items labels = over_classes (at_sender sender (slack_of problem)) items labels

-- the sender of the last of some items
abbrev pub last_sender : List Item → Option ℕ
last_sender [] = None
last_sender (item ∷ []) = Some item.sender
last_sender (item ∷ next ∷ items) = last_sender (next ∷ items)

-- the sender in work: that of the last item placed
abbrev pub sender_in_work : List Item → List ℕ → Option ℕ
sender_in_work items labels = last_sender (take (length labels) items)

-- the slacks of the classes of the sender in work, 0 where no item is placed
abbrev pub slack_in_work : Parts → List Item → List ℕ → Option ℕ → ℕ
slack_in_work problem items labels None = 0
slack_in_work problem items labels (Some sender) = slacks_of problem sender items labels
