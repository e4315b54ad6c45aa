-- The laws of partial groupings: the project's own.
use Rattle.std.specs.Prelude.{ℕ, ◌≡◌, ◌<◌, ◌≤◌, true, List, [], ◌∷◌, ◌++◌, length, count_by, slice_index_or, nat_eq, All, AllPairs}
use Rattle.pack_model.specs.declared.item.Item.{Item}
use Rattle.class_frame.specs.Grouping.{class_of, classes_of}
use Rattle.class_frame.specs.Legal.{ClassStands, IsLegal}
use Rattle.grouping_tree.specs.Partial.{IsPartial, begins, options_of}

-- a front of a partial grouping is one
abbrev pub FrontsAreLegal : Type 0
FrontsAreLegal = (items : List Item) (p q : List ℕ) → begins p q ≡ true → IsPartial items q → IsPartial items p

-- a legal grouping is a partial grouping of as many items as there are
abbrev pub LegalIsPartial : Type 0
LegalIsPartial = (items : List Item) (q : List ℕ) → IsLegal items q → IsPartial items q

-- and a partial grouping of as many is legal
abbrev pub FullIsLegal : Type 0
FullIsLegal = (items : List Item) (q : List ℕ) → length q ≡ length items → IsPartial items q → IsLegal items q

-- the next label of a partial grouping is an option, exactly once
abbrev pub NextIsOption : Type 0
NextIsOption = (items : List Item) (p : List ℕ) (label : ℕ) → IsPartial items (p ++ label ∷ []) → count_by (λ x. nat_eq x label) (options_of items p) ≡ 1

-- each option may be put
abbrev pub OptionsAreLegal : Type 0
OptionsAreLegal = (items : List Item) (p : List ℕ) → IsPartial items p → All (λ label. IsPartial items (p ++ label ∷ [])) (options_of items p)

-- the options are ascending
abbrev pub OptionsAscend : Type 0
OptionsAscend = (items : List Item) (p : List ℕ) → AllPairs (λ label other. label < other) (options_of items p)

-- where a list of labels begins with another, each class begins with that of the other
abbrev pub ClassesExtend : Type 0
ClassesExtend = (items : List Item) (p q : List ℕ) → begins p q ≡ true
    → (label : ℕ) → (more : List Item) × (class_of label q items ≡ class_of label p items ++ more)

-- and it has no fewer classes
abbrev pub ClassesGrow : Type 0
ClassesGrow = (p q : List ℕ) → begins p q ≡ true → classes_of p ≤ classes_of q

-- the first unused label is an option, where the next item alone can be a frame
abbrev pub NewIsOption : Type 0
NewIsOption = (items : List Item) (p : List ℕ) (d : Item) → IsPartial items p → length p < length items → ClassStands (slice_index_or items (length p) d ∷ [])
    → count_by (λ x. nat_eq x (classes_of p)) (options_of items p) ≡ 1
