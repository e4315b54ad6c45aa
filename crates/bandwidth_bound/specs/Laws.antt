-- Laws of partial groupings as items are put: no load falls, and a failing set stays one. The project's own.
use Rattle.std.specs.Prelude.{◌≡◌, ◌≤◌, ◌++◌, ℕ, true, List, length, All, Contains}
use Rattle.pack_model.specs.declared.item.Item.{Item}
use Rattle.pack_model.specs.Problem.{Parts, IsProblem}
use Rattle.busy_period.specs.declared.timed.Timed.{Timed}
use Rattle.busy_period.specs.Timed.{IsInRange}
use Rattle.response_test.specs.declared.evidence.Evidence.{Evidence}
use Rattle.response_test.specs.Order.{FailSet}
use Rattle.response_test.specs.Refuted.{IsCommon}
use Rattle.class_frame.specs.Classes.{frames_of_classes, load_of}
use Rattle.class_frame.specs.Grouping.{class_of, classes_of}
use Rattle.class_frame.specs.Legal.{IsLegal}
use Rattle.grouping_tree.specs.Partial.{IsPartial, begins}
use Rattle.bandwidth_bound.specs.Failing.{AreRefuted, numbers_of}
use Rattle.bandwidth_bound.specs.Goals.{ClassesFail}
use Rattle.bandwidth_bound.specs.Solvable.{Solvable}

-- the items are among those of the problem: all, or one sender's
abbrev pub AreOf : Parts → List Item → Type 0
AreOf problem items = All (Contains problem.items) items

-- with more labels a class has its items and perhaps more
abbrev pub ClassesExtend : Type 0
ClassesExtend = (items : List Item) (p q : List ℕ) → begins p q ≡ true
    → (label : ℕ) → (more : List Item) × (class_of label q items ≡ class_of label p items ++ more)

-- and there are no fewer classes
abbrev pub ClassesStay : Type 0
ClassesStay = (p q : List ℕ) → begins p q ≡ true → classes_of p ≤ classes_of q

-- the load of the classes so far never falls as items are put
abbrev pub LoadsNeverFall : Type 0
LoadsNeverFall = (problem : Parts) → IsProblem problem → (items : List Item) → AreOf problem items
    → (p q : List ℕ) → IsPartial items p → IsPartial items q → begins p q ≡ true
    → load_of problem items p ≤ load_of problem items q

-- frames that are refuted below each other are a failing set
abbrev pub RefutedIsFailing : Type 0
RefutedIsFailing = (frames : List Timed) (bit hyper : ℕ) (named : List (ℕ × Evidence)) → length frames ≤ 128
    → All IsInRange frames → IsCommon frames hyper → AreRefuted frames bit hyper named
    → FailSet frames bit (numbers_of named)

-- a failing set of classes stays one as items are put
abbrev pub FailingSetsGrow : Type 0
FailingSetsGrow = (problem : Parts) → IsProblem problem → (items : List Item) → AreOf problem items
    → (p q : List ℕ) → IsPartial items p → IsPartial items q → begins p q ≡ true → (members : List ℕ)
    → FailSet (frames_of_classes problem items p) problem.network.nominal_ticks members
    → FailSet (frames_of_classes problem items q) problem.network.nominal_ticks members

-- no legal grouping that extends a partial one with a failing set can meet all deadlines
abbrev pub FailSetIsFinal : Type 0
FailSetIsFinal = (problem : Parts) → IsProblem problem → (p q : List ℕ) (members : List ℕ)
    → IsPartial problem.items p → IsLegal problem.items q → begins p q ≡ true
    → FailSet (frames_of_classes problem problem.items p) problem.network.nominal_ticks members
    → ¬ (Solvable problem q)

-- nor can one that extends a partial one with classes that are refuted
abbrev pub FailingIsFinal : Type 0
FailingIsFinal = (problem : Parts) → IsProblem problem → (p q : List ℕ) (named : List (ℕ × Evidence))
    → IsPartial problem.items p → IsLegal problem.items q → begins p q ≡ true
    → ClassesFail problem p named → ¬ (Solvable problem q)
