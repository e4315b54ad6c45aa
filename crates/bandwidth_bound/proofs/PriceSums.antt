-- What is summed over classes rises as a grouping is extended, by the prices of the items that are put, less
-- the slacks of the classes.
use Rattle.std.proofs.Common.{◌≡◌, ℕ, ◌+◌, ◌-◌, ◌≤◌, true, List, [], ◌∷◌, ◌++◌, length, drop, nat_eq, sum_by, count_by, All, refl, sym, ap, subst, ◌∙◌, arith, length-append}
use Rattle.std.specs.List.{range_with_len}
use Rattle.std.proofs.lemmas.List.{length-drop}
use Rattle.std.proofs.lemmas.List.Elements.{All-nil, All-cons}
use Rattle.std.proofs.lemmas.List.Sums.{sum_by-append, sum_by-cons, sum_by-le-sum_by}
use Rattle.pack_model.specs.declared.item.Item.{Item}
use Rattle.class_frame.specs.Grouping.{class_of, classes_of}
use Rattle.class_frame.specs.Legal.{ClassStands, IsLegal}
use Rattle.class_frame.proofs.GroupingLaws.{All-class_of, sum_by-classes}
use Rattle.bus_run.proofs.Numbers.{sum_by-plus}
use Rattle.grouping_tree.specs.Partial.{begins}
use Rattle.grouping_tree.specs.Slack.{over_classes}
use Rattle.grouping_tree.proofs.Classes.{class-append}
use Rattle.grouping_tree.proofs.Fronts.{begins-is}
use Rattle.grouping_tree.proofs.Options.{range-once}
use Rattle.grouping_tree.proofs.Puts.{class-unused}
use Rattle.bandwidth_bound.proofs.PriceSplits.{classes-append, range-split, sum-shift}

-- as items that are right join a class, it costs no less than it did and their prices, less its slack
abbrev pub IsPriced : (Item → Type 0) → (List Item → ℕ) → (List Item → ℕ) → (Item → ℕ) → Type 0
IsPriced Right cost slack price = (xs ys : List Item) → ClassStands (xs ++ ys) → All Right (xs ++ ys)
    → cost xs + sum_by price ys ≤ cost (xs ++ ys) + slack xs

pub sum-zero : {X : Type 0} (xs : List X) → sum_by (λ (x : X). 0) xs ≡ 0
sum-zero [] = refl
sum-zero {X} (x ∷ xs) = omega (arith, sum_by-cons (λ (x : X). 0) x xs, sum-zero xs)

all-once : (n : ℕ) (r : List ℕ) → classes_of r ≤ n
    → All (λ label. count_by (λ x. nat_eq x label) (range_with_len 0 n) ≡ 1) r
all-once n [] le = All-nil (λ label. count_by (λ x. nat_eq x label) (range_with_len 0 n) ≡ 1)
all-once n (l ∷ r) le =
    All-cons (λ label. count_by (λ x. nat_eq x label) (range_with_len 0 n) ≡ 1) l r
    (range-once l 0 n (omega arith) (omega arith)) (all-once n r (omega arith))

-- over the first labels, and more of them
over-more : (f : List Item → ℕ) (items : List Item) (p : List ℕ) (m : ℕ)
    → sum_by (λ label. f (class_of label p items)) (range_with_len 0 (classes_of p + m))
    ≡ over_classes f items p + sum_by (λ (label : ℕ). f []) (range_with_len 0 m)
over-more f items p m =
    let g = λ (label : ℕ). f (class_of label p items) in
    let c = classes_of p in
    let rest : sum_by (λ label. f (class_of label p items)) (range_with_len (0 + c) m)
    ≡ sum_by (λ (label : ℕ). f []) (range_with_len 0 m) =
    sum-shift g (λ (label : ℕ). f []) (0 + c) 0 m
    (λ k lt. ap f (class-unused p items (0 + c + k) (omega arith)))
    in
    ap (sum_by (λ label. f (class_of label p items))) (range-split 0 c m)
    ∙ sum_by-append g (range_with_len 0 c) (range_with_len (0 + c) m)
    ∙ ap (λ n. over_classes f items p + n) rest

-- a class that is completed costs at least what it did and the prices of what joins it, less its slack: then
-- so do the classes together
pub prices-within : (Right : Item → Type 0) (cost slack : List Item → ℕ) (price : Item → ℕ)
    → IsPriced Right cost slack price → slack [] ≡ 0
    → (items : List Item) (p q : List ℕ) → All Right items → IsLegal items q → begins p q ≡ true
    → over_classes cost items p + sum_by price (drop (length p) items)
    ≤ over_classes cost items q + over_classes slack items p
prices-within Right cost slack price one none items p q right whole e =
    by (drop (length p) q) (begins-is p q e)
  where
    by : (r : List ℕ) → q ≡ p ++ r → over_classes cost items p + sum_by price (drop (length p) items)
        ≤ over_classes cost items q + over_classes slack items p
    by r is =
        let m = classes_of q - classes_of p in
        let rest = drop (length p) items in
        let total : classes_of q ≡ classes_of p + m =
        omega (arith, ap classes_of is, classes-append p r) in
        let order = range_with_len 0 (classes_of q) in
        let split = λ (label : ℕ).
        ap (λ labels. class_of label labels items) is ∙ class-append label p r items in
        let each : (label : ℕ) → cost (class_of label p items) + sum_by price (class_of label r rest)
        ≤ cost (class_of label q items) + slack (class_of label p items) =
        λ label.
        subst (λ c. cost (class_of label p items) + sum_by price (class_of label r rest)
        ≤ cost c + slack (class_of label p items)) (sym (split label))
        (one (class_of label p items) (class_of label r rest)
        (subst ClassStands (split label) (whole.classes label))
        (subst (All Right) (split label) (All-class_of Right label q items right)))
        in
        let same : length r ≡ length rest =
        omega (
          arith,
          length-drop (length p) items,
          whole.grouping.each,
          ap length is,
          length-append p r,
        ) in
        let prices : sum_by (λ label. sum_by price (class_of label r rest)) order ≡ sum_by price rest =
        sum_by-classes price order r rest same
        (all-once (classes_of q) r (omega (arith, ap classes_of is, classes-append p r)))
        in
        let costs : sum_by (λ label. cost (class_of label p items)) order
        ≡ over_classes cost items p + sum_by (λ (label : ℕ). cost []) (range_with_len 0 m) =
        ap (λ n. sum_by (λ label. cost (class_of label p items)) (range_with_len 0 n)) total
        ∙ over-more cost items p m
        in
        let slacks : sum_by (λ label. slack (class_of label p items)) order ≡ over_classes slack items p =
        ap (λ n. sum_by (λ label. slack (class_of label p items)) (range_with_len 0 n)) total
        ∙ over-more slack items p m
        ∙ ap (λ n. over_classes slack items p + sum_by (λ (label : ℕ). n) (range_with_len 0 m)) none
        ∙ omega (arith, sum-zero (range_with_len 0 m))
        in
        omega (
          arith,
          sum_by-le-sum_by (λ label. cost (class_of label p items) + sum_by price (class_of label r rest))
              (λ label. cost (class_of label q items) + slack (class_of label p items)) order each,
          sum_by-plus (λ label. cost (class_of label p items))
              (λ label. sum_by price (class_of label r rest)) order,
          sum_by-plus (λ label. cost (class_of label q items))
              (λ label. slack (class_of label p items)) order,
          prices,
          costs,
          slacks,
        )
