-- Laws of groupings and of their classes.
use Rattle.std.proofs.Common.{◌≡◌, ℕ, ◌+◌, ◌<◌, ◌≤◌, ◌⊎◌, Bool, true, false, cond, List, [], ◌∷◌, ◌++◌, length, map, filter, take, get_or, max, nat_eq, All, suc, zero, ◌*◌, inl, inr, count_by, sum_by, ◌||◌, Any, true≢false, refl, sym, ap, ◌∙◌, arith, length-take-le, add-one}
use Rattle.std.specs.List.{zip, list_any, IsDistinct}
use Rattle.std.proofs.lemmas.Bool.{cases_eq, cases_lt, ne_eqb, eq-eqb, eqb-true}
use Rattle.std.proofs.lemmas.List.Sums.{sum_by-cons}
use Rattle.std.proofs.lemmas.List.Folds.{list_any_at, Any-from_list_any}
use Rattle.std.proofs.lemmas.Map.Keys.{IsDistinct-cons, IsDistinct-from_apart}
use Rattle.std.proofs.lemmas.Map.Steps.{length-le_from_distinct_below, le-length_from_below}
use Rattle.std.proofs.lemmas.List.{map-append, take_more, take_all, get_or_default}
use Rattle.std.proofs.lemmas.List.Elements.{filter-append, All-nil, All-cons, All-head, All-tail, recursion_from_All}
use Rattle.pack_model.specs.declared.item.Item.{Item}
use Rattle.class_frame.specs.Grouping.{classes_of, class_of, AreFirstLabels, IsGrouping, IsOrder}

-- one more pair
pub zip-push : {X : Type 0} (labels : List ℕ) (xs : List X) (label : ℕ) (x : X) → length labels ≡ length xs → zip (labels ++ label ∷ []) (xs ++ x ∷ []) ≡ zip labels xs ++ (label, x) ∷ []
zip-push [] [] label x same = refl
zip-push [] (y ∷ ys) label x same = absurd (omega arith)
zip-push (l ∷ ls) [] label x same = absurd (omega arith)
zip-push (l ∷ ls) (y ∷ ys) label x same = ap (λ es. (l, y) ∷ es) (zip-push ls ys label x (omega arith))

-- one more element comes to its class alone
pub class_of-push : {X : Type 0} (k : ℕ) (labels : List ℕ) (xs : List X) (label : ℕ) (x : X) → length labels ≡ length xs → class_of k (labels ++ label ∷ []) (xs ++ x ∷ []) ≡ class_of k labels xs ++ cond (nat_eq label k) (x ∷ []) []
class_of-push {X} k labels xs label x same =
    ap (λ es. map (λ (e : ℕ × X). e.1) (filter (λ e. nat_eq e.0 k) es)) (zip-push labels xs label x same)
    ∙ ap (map (λ (e : ℕ × X). e.1)) (filter-append (λ (e : ℕ × X). nat_eq e.0 k) (zip labels xs) ((label, x) ∷ []))
    ∙ map-append (λ (e : ℕ × X). e.1) (filter (λ e. nat_eq e.0 k) (zip labels xs)) (cond (nat_eq label k) ((label, x) ∷ []) [])
    ∙ ap (λ ys. class_of k labels xs ++ ys) (by (nat_eq label k))
  where
    by : (b : Bool) → map (λ (e : ℕ × X). e.1) (cond b ((label, x) ∷ []) []) ≡ cond b (x ∷ []) []
    by true = refl
    by false = refl

-- one more element of a list
pub class_of-more : {X : Type 0} (k : ℕ) (labels : List ℕ) (xs : List X) (i : ℕ) (x : X) → length labels ≡ length xs → i < length xs → x ≡ get_or xs i x → class_of k (take (i + 1) labels) (take (i + 1) xs) ≡ class_of k (take i labels) (take i xs) ++ cond (nat_eq (get_or labels i 0) k) (x ∷ []) []
class_of-more k labels xs i x same lt at =
    ap (λ ls. class_of k ls (take (i + 1) xs)) (take_more labels i 0 (omega arith))
    ∙ ap (class_of k (take i labels ++ get_or labels i 0 ∷ [])) (take_more xs i x lt ∙ ap (λ y. take i xs ++ y ∷ []) (sym at))
    ∙ class_of-push k (take i labels) (take i xs) (get_or labels i 0) x (length-take-le i labels (omega arith) ∙ sym (length-take-le i xs (omega arith)))

-- each label is below the number of classes
pub label-lt-classes_of : (labels : List ℕ) (k : ℕ) → k < length labels → get_or labels k 0 < classes_of labels
label-lt-classes_of [] k lt = absurd (omega arith)
label-lt-classes_of (label ∷ labels) zero lt = omega arith
label-lt-classes_of (label ∷ labels) (suc k) lt = omega (arith, label-lt-classes_of labels k (omega arith))

-- one more label
pub classes_of-push : (labels : List ℕ) (label : ℕ) → classes_of (labels ++ label ∷ []) ≡ max (classes_of labels) (label + 1)
classes_of-push [] label = omega arith
classes_of-push (l ∷ ls) label = omega (arith, classes_of-push ls label)

-- the first labels have at most as many classes as there are
front_classes : (labels : List ℕ) → ((k : ℕ) → k < length labels → get_or labels k 0 ≤ classes_of (take k labels)) → (n : ℕ) → n ≤ length labels → classes_of (take n labels) ≤ n
front_classes labels first zero le = omega arith
front_classes labels first (suc n) le =
    let step : classes_of (take (n + 1) labels) ≡ max (classes_of (take n labels)) (get_or labels n 0 + 1) = ap classes_of (take_more labels n 0 (omega arith)) ∙ classes_of-push (take n labels) (get_or labels n 0) in
    let before = front_classes labels first n (omega arith) in
    let here = first n (omega arith) in
    rw (← add-one n) (omega (arith, step, before, here))

-- a grouping's labels are labels of the first items, all of them
pub front_of : (items : List Item) (labels : List ℕ) → IsGrouping items labels → AreFirstLabels items labels
front_of items labels grouping = record { within = omega (arith, grouping.each); by_first_use = grouping.by_first_use }

-- there are at most as many classes as items
pub front-le-length : (items : List Item) (labels : List ℕ) → AreFirstLabels items labels → classes_of labels ≤ length items
front-le-length items labels front =
    let all = front_classes labels front.by_first_use (length labels) (omega arith) in
    omega (arith, ap classes_of (take_all (length labels) labels (omega arith)), front.within)

pub classes_of-le-length : (items : List Item) (labels : List ℕ) → IsGrouping items labels → classes_of labels ≤ length items
classes_of-le-length items labels grouping = front-le-length items labels (front_of items labels grouping)

-- classes are those of as many elements as there are labels
pub class_of-take : {X : Type 0} (k : ℕ) (labels : List ℕ) (xs : List X) → class_of k labels (take (length labels) xs) ≡ class_of k labels xs
class_of-take {X} k labels xs = ap (λ es. map (λ (e : ℕ × X). e.1) (filter (λ e. nat_eq e.0 k) es)) (zipped labels xs)
  where
    zipped : (ls : List ℕ) (ys : List X) → zip ls (take (length ls) ys) ≡ zip ls ys
    zipped [] ys = refl
    zipped (l ∷ ls) [] = refl
    zipped (l ∷ ls) (y ∷ ys) = ap (λ es. (l, y) ∷ es) (zipped ls ys)

-- the class of the first element and the others
pub class_of-cons : {X : Type 0} (k label : ℕ) (labels : List ℕ) (x : X) (xs : List X) → class_of k (label ∷ labels) (x ∷ xs) ≡ cond (nat_eq label k) (x ∷ class_of k labels xs) (class_of k labels xs)
class_of-cons {X} k label labels x xs = by (nat_eq label k)
  where
    by : (b : Bool) → map (λ (e : ℕ × X). e.1) (cond b ((label, x) ∷ filter (λ e. nat_eq e.0 k) (zip labels xs)) (filter (λ e. nat_eq e.0 k) (zip labels xs))) ≡ cond b (x ∷ class_of k labels xs) (class_of k labels xs)
    by true = refl
    by false = refl

-- what holds of each element holds of those of a class
pub All-class_of : {X : Type 0} (P : X → Type 0) (k : ℕ) (labels : List ℕ) (xs : List X) → All P xs → All P (class_of k labels xs)
All-class_of P k [] xs all = All-nil P
All-class_of P k (label ∷ labels) [] all = All-nil P
All-class_of {X} P k (label ∷ labels) (x ∷ xs) all = by (nat_eq label k) (All-class_of P k labels xs (All-tail P x xs all))
  where
    by : (b : Bool) → All P (class_of k labels xs) → All P (map (λ (e : ℕ × X). e.1) (cond b ((label, x) ∷ filter (λ e. nat_eq e.0 k) (zip labels xs)) (filter (λ e. nat_eq e.0 k) (zip labels xs))))
    by true rest = All-cons P x (class_of k labels xs) (All-head P x xs all) rest
    by false rest = rest

-- a sum of zeros
sum_by-nothing : {X : Type 0} (xs : List X) → sum_by (λ _. 0) xs ≡ 0
sum_by-nothing [] = refl
sum_by-nothing {X} (x ∷ xs) = omega (arith, sum_by-cons (λ (y : X). 0) x xs, sum_by-nothing xs)

-- one more place of a number that is counted
counted_step : (k label n c total rest : ℕ) (b e : Bool) → b ≡ e → total ≡ n * c + rest → (m : ℕ) → (cond b n 0 + m) + total ≡ n * (cond e 1 0 + c) + (m + rest)
counted_step k label n c total rest true true same ih m = omega arith
counted_step k label n c total rest false false same ih m = omega arith
counted_step k label n c total rest true false same ih m = absurd (cc)
counted_step k label n c total rest false true same ih m = absurd (cc)

-- tests of numbers go both ways
both_ways : (a b : ℕ) → nat_eq a b ≡ nat_eq b a
both_ways a b = by (cases_eq a b)
  where
    by : (a ≡ b) ⊎ (a ≡ b → ⊥) → nat_eq a b ≡ nat_eq b a
    by (inl e) = eq-eqb a b e ∙ sym (eq-eqb b a (sym e))
    by (inr ne) = ne_eqb a b ne ∙ sym (ne_eqb b a (λ e. ne (sym e)))

-- what is added wherever a number stands is added as often as it is counted
counted_at : (order : List ℕ) (label n : ℕ) (f : ℕ → ℕ) → sum_by (λ k. cond (nat_eq label k) n 0 + f k) order ≡ n * count_by (λ x. nat_eq x label) order + sum_by f order
counted_at [] label n f = omega arith
counted_at (k ∷ order) label n f =
    sum_by-cons (λ j. cond (nat_eq label j) n 0 + f j) k order
    ∙ counted_step k label n (count_by (λ x. nat_eq x label) order) _ (sum_by f order) (nat_eq label k) (nat_eq k label) (both_ways label k) (counted_at order label n f) (f k)
    ∙ ap (λ m. n * m + (f k + sum_by f order)) (sym (sum_by-cons (λ x. cond (nat_eq x label) 1 0) k order))
    ∙ ap (λ m. n * count_by (λ x. nat_eq x label) (k ∷ order) + m) (sym (sum_by-cons f k order))

-- sums over the classes of an order are sums over all elements
pub sum_by-classes : {X : Type 0} (w : X → ℕ) (order labels : List ℕ) (xs : List X) → length labels ≡ length xs → All (λ label. count_by (λ x. nat_eq x label) order ≡ 1) labels → sum_by (λ k. sum_by w (class_of k labels xs)) order ≡ sum_by w xs
sum_by-classes w order [] [] same once = sum_by-nothing order
sum_by-classes w order [] (x ∷ xs) same once = absurd (omega arith)
sum_by-classes w order (label ∷ labels) [] same once = absurd (omega arith)
sum_by-classes w order (label ∷ labels) (x ∷ xs) same once =
    ap (λ f. sum_by f order) (λ i k. one_class k i)
    ∙ counted_at order label (w x) (λ k. sum_by w (class_of k labels xs))
    ∙ omega (arith, ap (λ c. w x * c) (All-head (λ label. count_by (λ x. nat_eq x label) order ≡ 1) label labels once), sum_by-classes w order labels xs (omega arith) (All-tail (λ label. count_by (λ x. nat_eq x label) order ≡ 1) label labels once), sum_by-cons w x xs)
  where
    one_class : (k : ℕ) → sum_by w (class_of k (label ∷ labels) (x ∷ xs)) ≡ cond (nat_eq label k) (w x) 0 + sum_by w (class_of k labels xs)
    one_class k = ap (sum_by w) (class_of-cons k label labels x xs) ∙ by (nat_eq label k)
      where
        by : (b : Bool) → sum_by w (cond b (x ∷ class_of k labels xs) (class_of k labels xs)) ≡ cond b (w x) 0 + sum_by w (class_of k labels xs)
        by true = sum_by-cons w x (class_of k labels xs)
        by false = omega arith

-- a number that is counted is found
pub found_from_count : (order : List ℕ) (label : ℕ) → 1 ≤ count_by (λ x. nat_eq x label) order → list_any (nat_eq label) order ≡ true
found_from_count [] label some = absurd (omega arith)
found_from_count (k ∷ order) label some = by (cases_eq label k) (found_from_count order label)
  where
    by : (label ≡ k) ⊎ (label ≡ k → ⊥) → (1 ≤ count_by (λ x. nat_eq x label) order → list_any (nat_eq label) order ≡ true) → (nat_eq label k || list_any (nat_eq label) order) ≡ true
    by (inl e) rest = ap (λ b. b || list_any (nat_eq label) order) (eq-eqb label k e)
    by (inr ne) rest =
        ap (λ b. b || list_any (nat_eq label) order) (ne_eqb label k ne)
        ∙ rest (omega (arith, some, sum_by-cons (λ x. cond (nat_eq x label) 1 0) k order, ap {B = ℕ} (λ b. cond b 1 0) (ne_eqb k label (λ e. ne (sym e)))))

-- and one that is found is counted
pub count_from_found : (order : List ℕ) (label : ℕ) → list_any (nat_eq label) order ≡ true → 1 ≤ count_by (λ x. nat_eq x label) order
count_from_found [] label found = absurd (true≢false (sym found))
count_from_found (k ∷ order) label found = by (cases_eq label k) (count_from_found order label)
  where
    by : (label ≡ k) ⊎ (label ≡ k → ⊥) → (list_any (nat_eq label) order ≡ true → 1 ≤ count_by (λ x. nat_eq x label) order) → 1 ≤ count_by (λ x. nat_eq x label) (k ∷ order)
    by (inl e) rest = omega (arith, sum_by-cons (λ x. cond (nat_eq x label) 1 0) k order, ap {B = ℕ} (λ b. cond b 1 0) (eq-eqb k label (sym e)))
    by (inr ne) rest =
        let later = rest (sym (ap (λ b. b || list_any (nat_eq label) order) (ne_eqb label k ne)) ∙ found) in
        omega (arith, sum_by-cons (λ x. cond (nat_eq x label) 1 0) k order, later)

-- numbers that are counted at most once are distinct
distinct_from_counts : (order : List ℕ) → ((label : ℕ) → count_by (λ x. nat_eq x label) order ≤ 1) → IsDistinct nat_eq order
distinct_from_counts [] few = IsDistinct-from_apart nat_eq [] (λ i j d before lt. absurd (omega arith))
distinct_from_counts (k ∷ order) few =
    IsDistinct-cons nat_eq k order (recursion_from_All (λ y. nat_eq k y ≡ false) order (λ i d lt. apart i d lt))
    (distinct_from_counts order (λ label. omega (arith, few label, sum_by-cons (λ x. cond (nat_eq x label) 1 0) k order)))
  where
    none_left : count_by (λ x. nat_eq x k) order ≡ 0
    none_left = omega (arith, few k, sum_by-cons (λ x. cond (nat_eq x k) 1 0) k order, ap {B = ℕ} (λ b. cond b 1 0) (eq-eqb k k refl))

    by : (b : Bool) (i d : ℕ) → i < length order → nat_eq k (get_or order i d) ≡ b → nat_eq k (get_or order i d) ≡ false
    by false i d lt e = e
    by true i d lt e =
        let found : list_any (nat_eq k) order ≡ true = list_any_at (nat_eq k) order i d lt e in
        absurd (omega (arith, none_left, count_from_found order k found))

    apart : (i d : ℕ) → i < length order → nat_eq k (get_or order i d) ≡ false
    apart i d lt = by (nat_eq k (get_or order i d)) i d lt refl

-- what an order names is below the number of classes
order_below : (labels order : List ℕ) → IsOrder labels order → (q : ℕ) → list_any (nat_eq q) order ≡ true → q < classes_of labels
order_below labels order stands q found = by (Any-from_list_any (nat_eq q) order found)
  where
    by : Any (λ x. nat_eq q x ≡ true) order → q < classes_of labels
    by (i, x, lt, at, e) =
        let same : q ≡ x = eqb-true q x e in
        omega (arith, stands.only i x lt, at)

-- an order names each number at most once
named_at_most_once : (labels order : List ℕ) → IsOrder labels order → (q : ℕ) → count_by (λ x. nat_eq x q) order ≤ 1
named_at_most_once labels order stands q = by (cases_lt q (classes_of labels)) (cases_lt 0 (count_by (λ x. nat_eq x q) order))
  where
    by : (q < classes_of labels) ⊎ (classes_of labels ≤ q) → (0 < count_by (λ x. nat_eq x q) order) ⊎ (count_by (λ x. nat_eq x q) order ≤ 0) → count_by (λ x. nat_eq x q) order ≤ 1
    by (inl lt) _ = omega (arith, stands.once q lt)
    by (inr ge) (inr none) = omega arith
    by (inr ge) (inl some) = absurd (omega (arith, order_below labels order stands q (found_from_count order q (omega arith))))

-- an order names different labels
pub distinct-order : (labels order : List ℕ) → IsOrder labels order → IsDistinct nat_eq order
distinct-order labels order stands = distinct_from_counts order (named_at_most_once labels order stands)

-- an order has as many labels as there are classes
pub length-order : (labels order : List ℕ) → IsOrder labels order → length order ≡ classes_of labels
length-order labels order stands =
    let most = length-le_from_distinct_below order (classes_of labels) (distinct-order labels order stands) (order_below labels order stands) in
    let least = le-length_from_below order (classes_of labels) (λ q lt. found_from_count order q (omega (arith, stands.once q lt))) in
    omega arith

-- each label is counted once in an order
pub labels_once : (labels order : List ℕ) → IsOrder labels order → All (λ label. count_by (λ x. nat_eq x label) order ≡ 1) labels
labels_once labels order stands = λ k d lt. stands.once (get_or labels k d) (rw (get_or_default labels k d 0 lt) (label-lt-classes_of labels k lt))

-- labels by first use below the number of classes of the first ones are used by these
used_in_front : (labels : List ℕ) → ((k : ℕ) → k < length labels → get_or labels k 0 ≤ classes_of (take k labels)) → (n : ℕ) → n ≤ length labels → (label : ℕ) → label < classes_of (take n labels) → (k : ℕ) × (k < n) × (get_or labels k 0 ≡ label)
used_in_front labels first zero within label low = absurd (omega arith)
used_in_front labels first (suc n) within label low = by (cases_lt label (classes_of (take n labels))) (λ before. used_in_front labels first n (omega arith) label before)
  where
    step : classes_of (take (suc n) labels) ≡ max (classes_of (take n labels)) (get_or labels n 0 + 1)
    step = ap (λ m. classes_of (take m labels)) (sym (add-one n)) ∙ ap classes_of (take_more labels n 0 (omega arith)) ∙ classes_of-push (take n labels) (get_or labels n 0)

    by : (label < classes_of (take n labels)) ⊎ (classes_of (take n labels) ≤ label) → (label < classes_of (take n labels) → (k : ℕ) × (k < n) × (get_or labels k 0 ≡ label)) → (k : ℕ) × (k < suc n) × (get_or labels k 0 ≡ label)
    by (inl before) earlier = let (k, lt, at) = earlier before in (k, omega arith, at)
    by (inr new) earlier = (n, omega arith, omega (arith, first n (omega arith), step, low, new))

-- each label below the number of classes is used
pub used : (labels : List ℕ) → ((k : ℕ) → k < length labels → get_or labels k 0 ≤ classes_of (take k labels)) → (label : ℕ) → label < classes_of labels → (k : ℕ) × (k < length labels) × (get_or labels k 0 ≡ label)
used labels first label low = used_in_front labels first (length labels) (omega arith) label (omega (arith, low, ap classes_of (take_all (length labels) labels (omega arith))))

-- a label that is used has an element
pub class_of-some : {X : Type 0} (label : ℕ) (labels : List ℕ) (xs : List X) (k : ℕ) → k < length labels → k < length xs → get_or labels k 0 ≡ label → 1 ≤ length (class_of label labels xs)
class_of-some label [] xs k lt within at = absurd (omega arith)
class_of-some label (l ∷ ls) [] k lt within at = absurd (omega arith)
class_of-some label (l ∷ ls) (x ∷ xs) zero lt within at =
    omega (arith, ap length (class_of-cons label l ls x xs ∙ ap (λ b. cond b (x ∷ class_of label ls xs) (class_of label ls xs)) (eq-eqb l label at)))
class_of-some {X} label (l ∷ ls) (x ∷ xs) (suc k) lt within at = by (nat_eq l label) (class_of-some label ls xs k (omega arith) (omega arith) at)
  where
    by : (b : Bool) → 1 ≤ length (class_of label ls xs) → 1 ≤ length (map (λ (e : ℕ × X). e.1) (cond b ((l, x) ∷ filter (λ e. nat_eq e.0 label) (zip ls xs)) (filter (λ e. nat_eq e.0 label) (zip ls xs))))
    by true rest = omega arith
    by false rest = rest

-- there are no more elements in a class than in all
pub length-class_of : {X : Type 0} (k : ℕ) (labels : List ℕ) (xs : List X) → length (class_of k labels xs) ≤ length xs
length-class_of k [] xs = omega arith
length-class_of k (label ∷ labels) [] = omega arith
length-class_of {X} k (label ∷ labels) (x ∷ xs) = by (nat_eq label k) (length-class_of k labels xs)
  where
    by : (b : Bool) → length (class_of k labels xs) ≤ length xs → length (map (λ (e : ℕ × X). e.1) (cond b ((label, x) ∷ filter (λ e. nat_eq e.0 k) (zip labels xs)) (filter (λ e. nat_eq e.0 k) (zip labels xs)))) ≤ length (x ∷ xs)
    by true rest = omega arith
    by false rest = omega arith
