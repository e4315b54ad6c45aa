-- Running sums of a partial grouping of a range of items: the project's own.
use Rattle.std.specs.Prelude.{ℕ, ◌≡◌, ◌<◌, ◌≤◌, ◌+◌, ◌-◌, unwrap_or, List, [], ◌∷◌, length, take, drop, slice_index, slice_index_or, Option, None, Some}
use Rattle.pack_model.specs.declared.item.Item.{Item}
use Rattle.pack_model.specs.Problem.{Parts, IsProblem, sent_by}
use Rattle.class_frame.specs.Grouping.{class_of, classes_of}
use Rattle.fd_length.specs.Size.{fd_size_of}
use Rattle.frame_ticks.specs.Worst.{worst_ticks_of}
use Rattle.pack_model.specs.declared.network.Network.{Network}
use Rattle.busy_period.specs.declared.timed.Timed.{Timed}
use Rattle.class_frame.specs.Classes.{load_of}
use Rattle.class_frame.specs.Frame.{timed_of_items}
use Rattle.grouping_tree.specs.Partial.{IsPartial}
use Rattle.grouping_tree.specs.declared.partial.Partial.{Partial}
use Rattle.grouping_tree.specs.declared.frame_length.FrameLength.{FrameLength}
use Rattle.grouping_tree.specs.declared.kept.State.{State}
use Rattle.grouping_tree.specs.declared.class.Class.{Class}
use Rattle.grouping_tree.specs.Class.{IsClass}
use Rattle.grouping_tree.specs.Slack.{sender_in_work, slack_in_work}

-- the number of items that the memory was taken for
abbrev pub room_of : Partial → ℕ
room_of p = length p.labels.items

-- the items of a sender; where none is given, all
abbrev pub items_in : List Item → Option ℕ → List Item
items_in items None = items
items_in items (Some sender) = sent_by items sender

-- the sender whose items the range has; none over all items
abbrev pub sender_of : Partial → Option ℕ
sender_of p = p.sender

-- the items of the range
abbrev pub range_of : Parts → Partial → List Item
range_of problem p = take p.many (drop p.first problem.items)

-- the labels of the first items of the range
abbrev pub labels_of : Partial → List ℕ
labels_of p = take p.count p.labels.items

-- the items of a label
abbrev pub items_with : Parts → Partial → ℕ → List Item
items_with problem p label = class_of label (labels_of p) (range_of problem p)

-- some item has the label
abbrev pub IsUsed : Partial → ℕ → Type 0
IsUsed p label = label < classes_of (labels_of p)

-- what is kept of each of some items as a class of its own
abbrev pub AreEach : Parts → List Item → List Class → Type 0
AreEach problem items alone = (i : ℕ) (d : Class) (item : Item) → i < length items → IsClass problem (slice_index_or items i item ∷ []) (slice_index_or alone i d)

-- the slacks of the classes of the sender in work together
abbrev pub slack_at : Parts → List Item → List ℕ → ℕ
slack_at problem items labels = slack_in_work problem items labels (sender_in_work items labels)

-- a label is that of an item before the last one with a label, of an earlier sender
pub record IsEarlier (range : List Item) (labels : List ℕ) (label : ℕ) : Type 0 where
  pub place : ℕ
  pub low : place + 1 < length labels
  pub has : slice_index labels place ≡ label
  pub before : (d e : Item)
      → (slice_index_or range place d).sender < (slice_index_or range (length labels - 1) e).sender

-- so is each label below one
abbrev pub AreEarlier : List Item → List ℕ → ℕ → Type 0
AreEarlier range labels first = (label : ℕ) → label < first → IsEarlier range labels label

-- how many numbers of bytes the items of a frame can have: 0 to 64
abbrev pub lengths_room : ℕ
lengths_room = 65

-- the data length and the ticks of the frame of items of so many bytes
pub record IsFrameLength (network : Network) (bytes : ℕ) (long : FrameLength) : Type 0 where
  pub size : long.size ≡ unwrap_or (fd_size_of bytes) 0
  pub ticks : long.ticks ≡ worst_ticks_of network (unwrap_or (fd_size_of bytes) 0)

-- what is kept of all classes: how many there are, how many there were when the sender in work began, the load and the slack
pub record AreKept (problem : Parts) (range : List Item) (labels : List ℕ) (state : State) : Type 0 where
  pub classes : state.classes ≡ classes_of labels
  pub first : AreEarlier range labels state.first_label
  pub load : state.load ≡ load_of problem range labels
  pub slack : state.slack ≡ slack_at problem range labels

-- what is kept of the class of a label and of all, with some labels put
pub record IsState (problem : Parts) (range : List Item) (labels : List ℕ) (label : ℕ) (state : State)
    : Type 0 where
  pub own : IsClass problem (class_of label labels range) state.own
  pub all : AreKept problem range labels state

-- the problem stands, the range is there in it, has the sender's items and has room, the labels are a partial grouping of it, and what is kept is that of the labels: of all, and before each
pub record Belongs (problem : Parts) (p : Partial) : Type 0 where
  pub stands : IsProblem problem
  pub network : problem.network ≡ p.network
  pub hyper : problem.hyper ≡ p.hyper
  pub inside : p.first + p.many ≤ length problem.items
  pub range : range_of problem p ≡ items_in problem.items p.sender
  pub within : p.count ≤ p.many
  pub enough : p.many ≤ room_of p
  pub items_room : length p.items.items ≡ room_of p
  pub frames_room : length p.frames.items ≡ room_of p
  pub sizes_room : length p.lengths.items ≡ lengths_room
  pub held_room : length p.held.items ≡ room_of p
  pub before_room : length p.before.items ≡ room_of p
  pub legal : IsPartial (range_of problem p) (labels_of p)
  pub low : (i : ℕ) → i < p.count → slice_index p.labels.items i < room_of p
  pub classes : p.classes ≡ classes_of (labels_of p)
  pub first : AreEarlier (range_of problem p) (labels_of p) p.first_label
  pub load : p.load ≡ load_of problem (range_of problem p) (labels_of p)
  pub slack : p.slack ≡ slack_at problem (range_of problem p) (labels_of p)
  pub items : AreEach problem (range_of problem p) p.items.items
  pub frames : (label : ℕ) (d : Timed) → label < room_of p → slice_index_or p.frames.items label d ≡ timed_of_items problem (items_with problem p label)
  pub lengths : (bytes : ℕ) (d : FrameLength) → bytes < lengths_room → IsFrameLength problem.network bytes (slice_index_or p.lengths.items bytes d)
  pub kept : (label : ℕ) (d : Class) → label < room_of p → IsClass problem (items_with problem p label) (slice_index_or p.held.items label d)
  pub before : (i : ℕ) (d : State) → i < p.count → IsState problem (range_of problem p) (take i p.labels.items) (slice_index p.labels.items i) (slice_index_or p.before.items i d)

-- an item is left, and this is what is kept of it as a class of its own
pub record IsNext (problem : Parts) (p : Partial) (next : Class) : Type 0 where
  pub some : length (labels_of p) < length (range_of problem p)
  pub alone : (d : Item) → IsClass problem (slice_index_or (range_of problem p) (length (labels_of p)) d ∷ []) next
