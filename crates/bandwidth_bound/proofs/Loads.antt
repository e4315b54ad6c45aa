-- How great loads are.
use Rattle.std.proofs.Common.{ℕ, ◌<◌, ◌≤◌, ◌^◌, List, length, Contains, arith}
use Rattle.std.proofs.lemmas.List.Elements.{All-contains_itself}
use Rattle.pack_model.specs.declared.item.Item.{Item}
use Rattle.pack_model.specs.Problem.{Parts, IsProblem}
use Rattle.grouping_tree.specs.Grouped.{Belongs, labels_of, range_of}
use Rattle.grouping_tree.specs.Partial.{IsPartial}
use Rattle.grouping_tree.specs.declared.partial.Partial.{Partial}
use Rattle.grouping_tree.proofs.Loads.{loads_low}
use Rattle.grouping_tree.proofs.Used.{classes_low, few, in_range, long}
use Rattle.bandwidth_bound.specs.Bounds.{load8_of}
use Rattle.bandwidth_bound.specs.Laws.{AreOf}
use Rattle.bandwidth_bound.proofs.Extend.{class_signal}

-- a load in eighths fits 128 bits
pub loads_fit : (problem : Parts) → IsProblem problem → (items : List Item) → AreOf problem items
    → (p : List ℕ) → IsPartial items p → length p ≤ 128 → load8_of problem items p < 2 ^ 128
loads_fit problem stands items of p partial small =
    omega (
      arith,
      loads_low problem items p stands (λ k low. class_signal problem stands items of p partial k low),
      classes_low items p partial,
      small,
    )

-- and so does 8 times the load of other labels of a partial grouping's items
pub range_fits : (problem : Parts) (partial : Partial) (labels : List ℕ) → Belongs problem partial
    → IsPartial (range_of problem partial) labels
    → load8_of problem (range_of problem partial) labels < 2 ^ 128
range_fits problem partial labels belongs legal =
    loads_fit problem belongs.stands (range_of problem partial)
    (in_range (Contains problem.items) partial.first partial.many problem.items belongs.inside
    (All-contains_itself problem.items))
    labels legal (omega (arith, legal.within, long problem partial belongs, few problem partial belongs))

-- and of its own
pub kept_fits : (problem : Parts) (partial : Partial) → Belongs problem partial
    → load8_of problem (range_of problem partial) (labels_of partial) < 2 ^ 128
kept_fits problem partial belongs = range_fits problem partial (labels_of partial) belongs belongs.legal
