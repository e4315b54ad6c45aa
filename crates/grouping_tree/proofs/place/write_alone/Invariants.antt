use Rattle.std.proofs.Common.{ℕ, ◌≡◌, ◌<◌, [], ◌∷◌, get_or, length, take, drop}
use Rattle.pack_model.specs.declared.item.Item.{Item}
use Rattle.grouping_tree.specs.Class.{IsClass}
use Rattle.grouping_tree.specs.declared.class.Class.{Class}
use Rattle.grouping_tree.proofs.place.write_alone.Given as goal

-- what is kept of the items so far is written
abbrev pub invariant-loop-number : goal.invariant-loop-number
invariant-loop-number l = record {
  room : length l.alone.items ≡ length l.initial.alone.items;
  each : (i : ℕ) (d : Class) (item : Item) → i < l.number → IsClass l.problem (get_or (take l.place.many (drop l.place.first l.problem.items)) i item ∷ []) (get_or l.alone.items i d);
}
