-- As items are put, classes only extend: each is a harder frame, and no load falls.
use Rattle.std.proofs.Common.{◌≡◌, ℕ, zero, suc, ◌+◌, ◌*◌, ◌/◌, ◌<◌, ◌≤◌, inl, inr, true, List, ◌++◌, length, drop, get_or, sum_by, All, Contains, sym, ap, subst, ◌∙◌, arith}
use Rattle.std.specs.List.{range_with_len}
use Rattle.std.proofs.Math.Nat.{mul-le-mul}
use Rattle.std.proofs.lemmas.Bool.{cases_lt}
use Rattle.std.proofs.lemmas.List.Elements.{All-contains, All-weaker}
use Rattle.std.proofs.lemmas.List.FromFn.{get_or-map-range_with_len, length-map-range_with_len}
use Rattle.std.proofs.lemmas.List.Sorted.{IsPermutation-refl}
use Rattle.std.proofs.lemmas.List.Sums.{sum_by-cons}
use Rattle.pack_model.specs.declared.item.Item.{Item}
use Rattle.pack_model.specs.Problem.{Parts, IsProblem, items_in_order}
use Rattle.pack_model.proofs.ItemFacts.{IsItemOf, items_of_signals}
use Rattle.pack_model.proofs.ProblemItems.{of_problem}
use Rattle.busy_period.specs.declared.timed.Timed.{Timed}
use Rattle.busy_period.specs.Timed.{IsInRange}
use Rattle.busy_period.specs.Harder.{IsHarder}
use Rattle.class_frame.specs.Classes.{frames_of_classes, load_of}
use Rattle.class_frame.specs.Frame.{bytes_of_items, timed_of_items, load_of_items}
use Rattle.class_frame.specs.Grouping.{AreFirstLabels, class_of, classes_of}
use Rattle.class_frame.specs.Laws.{HasSignal}
use Rattle.class_frame.proofs.Harder.{more_is_harder}
use Rattle.class_frame.proofs.Ranges.{frame_in_range}
use Rattle.class_frame.proofs.Used.{front_has_signal}
use Rattle.grouping_tree.specs.Partial.{IsPartial, begins}
use Rattle.grouping_tree.proofs.Classes.{class-append}
use Rattle.grouping_tree.proofs.Fronts.{begins-is}
use Rattle.bandwidth_bound.specs.Laws.{AreOf}
use Rattle.bandwidth_bound.proofs.PriceSplits.{classes-append}

-- with more labels a class has its items and those of the further labels
pub classes_extend : (items : List Item) (p q : List ℕ) → begins p q ≡ true
    → (label : ℕ) → (more : List Item) × (class_of label q items ≡ class_of label p items ++ more)
classes_extend items p q e label = (
  class_of label (drop (length p) q) (drop (length p) items),
  ap (λ t. class_of label t items) (begins-is p q e) ∙ class-append label p (drop (length p) q) items,
)

-- and there are no fewer classes
pub classes_stay : (p q : List ℕ) → begins p q ≡ true → classes_of p ≤ classes_of q
classes_stay p q e =
    omega (arith, classes-append p (drop (length p) q), ap classes_of (begins-is p q e))

-- items of a problem have signals
pub are_items : (problem : Parts) → IsProblem problem → (items : List Item) → AreOf problem items
    → All (IsItemOf problem.signals) items
are_items problem stands items of =
    let order : List Item = items_in_order problem.signals in
    let all : All (IsItemOf problem.signals) problem.items =
    of_problem problem stands (IsItemOf problem.signals)
    (items_of_signals problem.signals order (IsPermutation-refl order)) in
    All-weaker (Contains problem.items) (IsItemOf problem.signals)
    (λ item in'. All-contains (IsItemOf problem.signals) problem.items item all in') items of

-- a partial grouping's labels are those of the first items
pub first_labels : (items : List Item) (p : List ℕ) → IsPartial items p → AreFirstLabels items p
first_labels items p partial = record { within = partial.within; by_first_use = partial.by_first_use }

-- and so has each class of a partial grouping of them
pub class_signal : (problem : Parts) → IsProblem problem → (items : List Item) → AreOf problem items
    → (p : List ℕ) → IsPartial items p → (label : ℕ) → label < classes_of p
    → HasSignal problem (class_of label p items)
class_signal problem stands items of p partial label low =
    front_has_signal problem items p label (are_items problem stands items of)
    (first_labels items p partial) low

-- the frame of a label
pub frame-class : (problem : Parts) (items : List Item) (p : List ℕ) (label : ℕ) (d : Timed)
    → label < classes_of p
    → get_or (frames_of_classes problem items p) label d ≡ timed_of_items problem (class_of label p items)
frame-class problem items p label d low =
    get_or-map-range_with_len (λ k. timed_of_items problem (class_of k p items))
    0 (classes_of p) label label d low (omega arith)

-- there are as many frames as classes
pub length-frames : (problem : Parts) (items : List Item) (p : List ℕ)
    → length (frames_of_classes problem items p) ≡ classes_of p
length-frames problem items p =
    length-map-range_with_len (λ k. timed_of_items problem (class_of k p items)) 0 (classes_of p)

-- a class of a partial grouping is a frame in range
pub class_in_range : (problem : Parts) → IsProblem problem → (items : List Item) → AreOf problem items
    → (p : List ℕ) → IsPartial items p → (label : ℕ) → label < classes_of p
    → IsInRange (timed_of_items problem (class_of label p items))
class_in_range problem stands items of p partial label low =
    frame_in_range problem (class_of label p items) stands
    (class_signal problem stands items of p partial label low)

-- with more labels a class is a harder frame
pub class_harder : (problem : Parts) → IsProblem problem → (items : List Item) → AreOf problem items
    → (p q : List ℕ) → IsPartial items p → IsPartial items q → begins p q ≡ true
    → (label : ℕ) → label < classes_of p
    → IsHarder (timed_of_items problem (class_of label p items))
    (timed_of_items problem (class_of label q items))
class_harder problem stands items of p q partial further e label low =
    let (more, is) = classes_extend items p q e label in
    let here : List Item = class_of label p items in
    let small : bytes_of_items (here ++ more) ≤ 64 =
    subst (λ ys. bytes_of_items ys ≤ 64) is (further.classes label).small in
    let it : IsHarder (timed_of_items problem here) (timed_of_items problem (here ++ more)) =
    more_is_harder problem here more stands (class_signal problem stands items of p partial label low)
    small in
    subst (λ ys. IsHarder (timed_of_items problem here) (timed_of_items problem ys)) (sym is) it

-- a quotient never falls as the divisor falls
pub div-rises : (a b c : ℕ) → 1 ≤ c → c ≤ b → a / b ≤ a / c
div-rises a b c some le =
    elim (cases_lt (a / c) (a / b)) [
      | inl above ↦
          let most : c * (a / c + 1) ≤ b * (a / b) = mul-le-mul le (omega (arith, above)) in
          absurd (omega (arith, most))
      | inr below ↦ below
    ]

-- the load of a class never falls as items are put
load-class : (problem : Parts) → IsProblem problem → (items : List Item) → AreOf problem items
    → (p q : List ℕ) → IsPartial items p → IsPartial items q → begins p q ≡ true
    → (label : ℕ) → label < classes_of p
    → load_of_items problem (class_of label p items) ≤ load_of_items problem (class_of label q items)
load-class problem stands items of p q partial further e label low =
    let it = class_harder problem stands items of p q partial further e label low in
    mul-le-mul it.ticks (div-rises problem.hyper _ _ it.some_period it.period)

-- a sum over more numbers, with no term less
sum_by-range : (f g : ℕ → ℕ) (a n m : ℕ) → n ≤ m → ((x : ℕ) → x < a + n → f x ≤ g x)
    → sum_by f (range_with_len a n) ≤ sum_by g (range_with_len a m)
sum_by-range f g a zero m le each = omega arith
sum_by-range f g a (suc n) zero le each = absurd (omega arith)
sum_by-range f g a (suc n) (suc m) le each =
    omega (
      arith,
      each a (omega arith),
      sum_by-range f g (a + 1) n m (omega arith) (λ x low. each x (omega arith)),
      sum_by-cons f a (range_with_len (a + 1) n),
      sum_by-cons g a (range_with_len (a + 1) m),
    )

-- the load of the classes so far never falls as items are put
pub loads_never_fall : (problem : Parts) → IsProblem problem → (items : List Item) → AreOf problem items
    → (p q : List ℕ) → IsPartial items p → IsPartial items q → begins p q ≡ true
    → load_of problem items p ≤ load_of problem items q
loads_never_fall problem stands items of p q partial further e =
    sum_by-range (λ label. load_of_items problem (class_of label p items))
    (λ label. load_of_items problem (class_of label q items))
    0 (classes_of p) (classes_of q) (classes_stay p q e)
    (λ label low. load-class problem stands items of p q partial further e label (omega arith))
