-- The judge of a search, and what it judges.
use Rattle.std.specs.Prelude.{ℕ, ◌≡◌, List, [], length, take, Option, None, Some}
use Rattle.pack_model.specs.declared.item.Item.{Item}
use Rattle.pack_model.specs.Problem.{Parts}
use Rattle.grouping_tree.specs.Grouped.{items_in}
use Rattle.bandwidth_bound.specs.Floors.{AreFloors}
use Rattle.search_judge.specs.declared.judge.SearchJudge.{SearchJudge}

-- the judge is one over the items of a range, with these values of lemmas
pub record IsJudge (problem : Parts) (range : Option ℕ) (values : List ℕ) (judge : SearchJudge) : Type 0 where
  pub range_is : judge.range ≡ range
  pub values_are : judge.values.items ≡ values
  pub floors : AreFloors problem range values judge.floors
  pub room : length judge.order.items ≡ 128

-- the judge judges places over these items
pub record JudgesOver (problem : Parts) (items : List Item) (judge : SearchJudge) : Type 0 where
  pub judge_is : IsJudge problem judge.range judge.values.items judge
  pub items_are : items ≡ items_in problem.items judge.range

-- a judge is as before but for the room
pub record KeepsJudge (old new : SearchJudge) : Type 0 where
  pub range_is : new.range ≡ old.range
  pub values_are : new.values.items ≡ old.values.items
  pub floors_are : new.floors ≡ old.floors
  pub room : length new.order.items ≡ length old.order.items

-- the order of so many classes that is kept in the room; over one sender's items there is none
abbrev pub order_kept : Option ℕ → ℕ → List ℕ → List ℕ
order_kept None count order = take count order
order_kept (Some sender) count order = []
