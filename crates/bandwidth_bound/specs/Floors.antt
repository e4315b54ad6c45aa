-- What the items that are not placed cost at least, by the number of items placed: a table for the lower bound.
use Rattle.std.specs.Prelude.{ℕ, ◌≡◌, ◌≤◌, ◌<◌, ◌-◌, ◌^◌, min, List, length, take, drop, slice_index_or, Option, None, Some}
use Rattle.pack_model.specs.declared.item.Item.{Item}
use Rattle.pack_model.specs.Problem.{Parts, sent_by}
use Rattle.grouping_tree.specs.Grouped.{items_in}
use Rattle.grouping_tree.specs.Slack.{last_sender}
use Rattle.bandwidth_bound.specs.Prices.{later8_of, next_sender, prices_of}
use Rattle.bandwidth_bound.specs.declared.floors.Floors.{Floors}
use Rattle.bandwidth_bound.specs.declared.floors.Rest.{Rest}

-- the items are all of the problem, or those of a sender
abbrev pub AreInRange : Parts → List Item → Type 0
AreInRange problem items = (range : Option ℕ) × (items ≡ items_in problem.items range)

-- the prices of the items of a sender among those that are left
abbrev pub prices_left : Parts → List Item → Option ℕ → ℕ
prices_left problem items None = 0
prices_left problem items (Some sender) = prices_of problem (sent_by items sender)

-- after so many items placed: the prices of what the sender in work has left, and what the senders without an
-- item placed cost at least with these values of lemmas, at most 2 to the power of 128 less 1
pub record IsRest (problem : Parts) (values : List ℕ) (items : List Item) (placed : ℕ) (rest : Rest) : Type 0 where
  pub left : rest.left ≡ prices_left problem (drop placed items) (last_sender (take placed items))
  pub later : rest.later
      ≡ min (later8_of problem values items (next_sender (last_sender (take placed items)))) (2 ^ 128 - 1)

-- the table is that of the items of a range, for each number of items placed
pub record AreFloors (problem : Parts) (range : Option ℕ) (values : List ℕ) (floors : Floors) : Type 0 where
  pub within : length (items_in problem.items range) < length floors.rests.items
  pub each : (placed : ℕ) (d : Rest) → placed ≤ length (items_in problem.items range)
      → IsRest problem values (items_in problem.items range) placed (slice_index_or floors.rests.items placed d)

-- the number of items that the memory was taken for
abbrev pub floors_room : Floors → ℕ
floors_room floors = length floors.rests.items - 1

-- the table has an entry for no item placed, and for each number up to the room
abbrev pub HasTables : Floors → Type 0
HasTables floors = 1 ≤ length floors.rests.items
