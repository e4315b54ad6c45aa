-- What a walk is to show, and where it is.
use Rattle.std.specs.Prelude.{◌≡◌, ◌≤◌, List, [], ◌∷◌, ℕ, length, false, Option, None, Some, if◌then◌else◌}
use Rattle.pack_model.specs.declared.item.Item.{Item}
use Rattle.pack_model.specs.Problem.{Parts}
use Rattle.grouping_tree.specs.Grouped.{items_in, room_of, sender_of}
use Rattle.grouping_tree.specs.Walk.{places_left}
use Rattle.bandwidth_bound.specs.Floors.{AreFloors, HasTables, floors_room}
use Rattle.bandwidth_bound.specs.Goals.{range_goal}
use Rattle.bandwidth_bound.specs.Trees.{Goal}
use Rattle.cert_check.specs.Nodes.{Node, NodeStands, Takes, Way}
use Rattle.cert_check.specs.Places.{IsPlace, labels_at}
use Rattle.cert_check.specs.declared.walk.Aim.{Aim}
use Rattle.cert_check.specs.declared.walk.Walk.{Walk}

-- what a tree is to show by bounds with these values of lemmas
abbrev pub goal_of : Parts → List ℕ → Aim → Goal
goal_of problem values aim = range_goal problem aim.range values aim.value aim.may_leave

-- the values of lemmas that bounds use: over one sender's items none
abbrev pub values_in : Option ℕ → List ℕ → List ℕ
values_in None values = values
values_in (Some sender) values = []

-- those that the bounds of a walk's tree use
abbrev pub values_used : Walk → List ℕ
values_used walk = values_in walk.aim.range walk.values.items

-- what the tree of a walk is to show
abbrev pub goal_in : Parts → Walk → Goal
goal_in problem walk = goal_of problem (values_used walk) walk.aim

-- the items that the tree is over
abbrev pub items_of : Parts → Walk → List Item
items_of problem walk = items_in problem.items walk.aim.range

-- the walk has the memory for each tree of the problem
pub record IsReady (problem : Parts) (walk : Walk) : Type 0 where
  pub place : IsPlace problem walk.place
  pub room : length problem.items ≤ room_of walk.place.partial
  pub tables : HasTables walk.floors
  pub tables_room : length problem.items ≤ floors_room walk.floors
  pub senders : length walk.values.items ≡ length problem.senders

-- the walk is over a tree's range, with the tables for its bounds
pub record IsWalk (problem : Parts) (walk : Walk) : Type 0 where
  pub ready : IsReady problem walk
  pub sender : sender_of walk.place.partial ≡ walk.aim.range
  pub floors : AreFloors problem walk.aim.range (values_used walk) walk.floors

-- the walk is over the same tree, with the same values
pub record Keeps (before after : Walk) : Type 0 where
  pub aim : after.aim ≡ before.aim
  pub values : after.values.items ≡ before.values.items

-- the walk is at the same place, whose labels are all put
pub record Settles (before after : Walk) : Type 0 where
  pub keeps : Keeps before after
  pub failed : after.failed ≡ before.failed
  pub over : after.over ≡ before.over
  pub least : after.least ≡ before.least
  pub labels : labels_at after.place ≡ labels_at before.place

-- the next node has a place
abbrev pub HasPlace : Walk → Type 0
HasPlace walk = (walk.failed ≡ false) × (walk.over ≡ false)

-- the places to come
abbrev pub places_to_come : Parts → Walk → List (List ℕ)
places_to_come problem walk =
    if walk.over then []
    else labels_at walk.place ∷ places_left (items_of problem walk) 0 (labels_at walk.place)

-- where the walk is
abbrev pub way_of : Parts → Walk → Way
way_of problem walk =
    record { failed = walk.failed; places = places_to_come problem walk; least = walk.least }

-- where it begins
abbrev pub start : Way
start = record { failed = false; places = [] ∷ []; least = None }

-- where it begins at a partial grouping of some items
abbrev pub start_at : List Item → List ℕ → Way
start_at items place =
    record { failed = false; places = place ∷ places_left items 0 place; least = None }

-- the walk went on from a place
pub record Passes (problem : Parts) (before after : Walk) : Type 0 where
  pub failed : after.failed ≡ before.failed
  pub least : after.least ≡ before.least
  pub places : places_to_come problem after
      ≡ places_left (items_of problem before) 0 (labels_at before.place)

-- a node stands at the next place
abbrev pub StandsNext : Parts → Walk → Node → Type 0
StandsNext problem walk node =
    HasPlace walk × NodeStands (goal_in problem walk) (labels_at walk.place) node

-- one node took the walk from the one to the other
abbrev pub TakesOne : Parts → Walk → Walk → Node → Type 0
TakesOne problem before after node =
    Takes (goal_in problem before) (way_of problem before) (way_of problem after) (node ∷ [])
