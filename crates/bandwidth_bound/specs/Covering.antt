-- What trees that stand show of groupings: the project's own.
use Rattle.std.specs.Prelude.{◌≡◌, ◌<◌, ◌*◌, ◌⊎◌, ℕ, Bool, true, false, List, [], count_by, Contains, Option, None, Some}
use Rattle.std.specs.List.{list_any}
use Rattle.pack_model.specs.declared.item.Item.{Item}
use Rattle.pack_model.specs.Problem.{Parts, IsProblem}
use Rattle.class_frame.specs.Classes.{load_of}
use Rattle.class_frame.specs.Grouping.{IsOrder}
use Rattle.class_frame.specs.Legal.{IsLegal}
use Rattle.response_test.specs.declared.evidence.Evidence.{Evidence}
use Rattle.grouping_tree.specs.Partial.{begins}
use Rattle.matrix_text.specs.Frames.{grouping_of, order_of}
use Rattle.cert_text.specs.Trees.{Plain, fail}
use Rattle.cert_text.specs.declared.parts.Kind.TheVariants.{KindBetween, KindBest, KindNoSolution}
use Rattle.bandwidth_bound.specs.Bounds.{Reaches}
use Rattle.bandwidth_bound.specs.Follows.{EachReaches, HasTiming, NoneIsBetter, NoneIsSolvable}
use Rattle.bandwidth_bound.specs.Lemmas.{LemmasHold}
use Rattle.bandwidth_bound.specs.Goals.{ClassesFail, eighths, main_goal}
use Rattle.bandwidth_bound.specs.Rule.{Judged, RuleHolds, load_in, lower_in}
use Rattle.bandwidth_bound.specs.Solvable.{Solvable}
use Rattle.bandwidth_bound.specs.Timing.{AllPass}
use Rattle.bandwidth_bound.specs.Trees.{Goal, Leaf, TreeStands, leaves, open_places}

-- a grouping extends the place of exactly one leaf
abbrev pub ExtendsOneLeaf : List Item → List ℕ → Plain → List ℕ → Type 0
ExtendsOneLeaf items p tree labels = count_by (λ leaf. begins leaf.place labels) (leaves items p tree) ≡ 1

-- a grouping extends some of the places
abbrev pub extends_some : List (List ℕ) → List ℕ → Bool
extends_some places labels = list_any (λ place. begins place labels) places

-- what a tree is to show by a bound, a value and a test of what its fail leaves name
abbrev pub goal_by : List Item → (List ℕ → ℕ) → Option ℕ → Bool → (List ℕ → List (ℕ × Evidence) → Bool) → Goal
goal_by items lower8 value may_leave are_failing = record {
  items = items;
  lower8 = lower8;
  value = value;
  may_leave = may_leave;
  AreFailing = λ p named. are_failing p named ≡ true;
}

-- each legal grouping that extends the place of a standing tree extends the place of exactly one leaf
abbrev pub LeavesCover : Type 0
LeavesCover = (items : List Item) (lower8 : List ℕ → ℕ) (value : Option ℕ) (may_leave : Bool)
    (are_failing : List ℕ → List (ℕ × Evidence) → Bool) (p q : List ℕ) (tree : Plain) → IsLegal items q
    → TreeStands (goal_by items lower8 value may_leave are_failing) p tree → begins p q ≡ true
    → ExtendsOneLeaf items p tree q

-- the same of a part of a main tree
abbrev pub MainLeavesCover : Type 0
MainLeavesCover = (problem : Parts) (values : List ℕ) (best : Option ℕ) (may_leave : Bool) (p q : List ℕ)
    (tree : Plain) → IsLegal problem.items q
    → TreeStands (main_goal problem values best may_leave) p tree → begins p q ≡ true
    → ExtendsOneLeaf problem.items p tree q

-- a grouping has at least the best's load, if there is a best
abbrev pub ReachesBest : Parts → Option ℕ → List ℕ → Type 0
ReachesBest problem best labels =
    Reaches (eighths best) (8 * load_of problem problem.items labels)

-- each grouping that extends the place of a standing part of a main tree and can meet all deadlines has at
-- least the best's load or extends the place of an open leaf, where the values of the lemmas hold
abbrev pub TreesClaim : Type 0
TreesClaim = (problem : Parts) (values : List ℕ) (best : Option ℕ) (may_leave : Bool) (p q : List ℕ)
    (tree : Plain) → IsProblem problem → LemmasHold problem values
    → TreeStands (main_goal problem values best may_leave) p tree → Solvable problem q
    → begins p q ≡ true
    → ReachesBest problem best q ⊎ (extends_some (open_places problem.items p tree) q ≡ true)

-- where no leaf may be left open, none is
abbrev pub NoneIsOpen : Type 0
NoneIsOpen = (problem : Parts) (values : List ℕ) (best : Option ℕ) (p : List ℕ) (tree : Plain)
    → TreeStands (main_goal problem values best false) p tree → open_places problem.items p tree ≡ []

-- what the trees of a certificate show: of the kind `best` no grouping that can meet all deadlines has a
-- smaller load, of `none` there is no such grouping, and of `open` each has at least the bound
pub record TreesShow (judged : Judged) : Type 0 where
  pub best : judged.cert.kind ≡ KindBest → NoneIsBetter judged.problem (load_in judged)
  pub no_solution : judged.cert.kind ≡ KindNoSolution → NoneIsSolvable judged.problem
  pub between : judged.cert.kind ≡ KindBetween → EachReaches judged.problem (lower_in judged)

-- they show it where the rule holds
abbrev pub StandingTreesHold : Type 0
StandingTreesHold = (judged : Judged) → IsProblem judged.problem → RuleHolds judged → TreesShow judged

-- the leaves of the main tree, in order
abbrev pub leaves_of : Parts → Option Plain → List Leaf
leaves_of problem None = []
leaves_of problem (Some tree) = leaves problem.items [] tree

-- a grouping extends the place of a fail leaf, and the classes that this names are refuted there
pub record ExtendsFailLeaf (problem : Parts) (tree : Option Plain) (labels : List ℕ) : Type 0 where
  pub place : List ℕ
  pub named : List (ℕ × Evidence)
  pub is_leaf : Contains (leaves_of problem tree) (record { place = place; sign = fail named })
  pub extends : begins place labels ≡ true
  pub refuted : ClassesFail problem place named

-- of the kind `best` each legal grouping of a smaller load extends a fail leaf, and of `none` each legal
-- grouping
pub record FailLeavesRefuse (judged : Judged) : Type 0 where
  pub best : judged.cert.kind ≡ KindBest → (labels : List ℕ) → IsLegal judged.problem.items labels
      → load_of judged.problem judged.problem.items labels < load_in judged
      → ExtendsFailLeaf judged.problem judged.cert.main_tree labels
  pub no_solution : judged.cert.kind ≡ KindNoSolution → (labels : List ℕ)
      → IsLegal judged.problem.items labels
      → ExtendsFailLeaf judged.problem judged.cert.main_tree labels

-- they do where the rule holds
abbrev pub FailLeavesHold : Type 0
FailLeavesHold = (judged : Judged) → IsProblem judged.problem → RuleHolds judged → FailLeavesRefuse judged

-- where the rule holds of a kind that speaks of times, each frame passes, and the matrix's grouping, where it
-- is legal and its classes are in order, can meet all deadlines
abbrev pub ShownIsSolvable : Type 0
ShownIsSolvable = (judged : Judged) → RuleHolds judged → HasTiming judged.cert.kind judged.matrix
    → IsLegal judged.problem.items (grouping_of judged.problem judged.matrix)
    → IsOrder (grouping_of judged.problem judged.matrix) (order_of judged.problem judged.matrix)
    → AllPass judged.problem judged.matrix
    × Solvable judged.problem (grouping_of judged.problem judged.matrix)
