-- The items of each class by their numbers, and the steps of the loop over the classes.
use Rattle.std.proofs.Common.{◌≡◌, ℕ, ◌+◌, ◌<◌, Bool, true, false, cond, List, [], ◌∷◌, ◌++◌, length, map, take, get_or, nat_eq, suc, All, Option, Some, refl, sym, ap, subst, ◌∙◌, arith, zero-add, append-nil}
use Rattle.std.specs.List.{cons_option, flat_map, filter_map, enumerate_from, range_with_len, slice_get}
use Rattle.std.proofs.lemmas.Grind.{flat_map-append}
use Rattle.std.proofs.lemmas.List.{get_or-map, take_more}
use Rattle.std.proofs.lemmas.List.FromFn.{get_or-map-range_with_len, get_or-range_with_len, length-enumerate_from, length-range_with_len, get_or-enumerate_from}
use Rattle.std.proofs.lemmas.Option.{slice_get-get_or}
use Rattle.pack_model.specs.declared.item.Item.{Item}
use Rattle.pack_model.specs.Problem.{Parts}
use Rattle.class_frame.specs.Grouping.{class_of, IsOrder}
use Rattle.class_frame.proofs.GroupingLaws.{All-class_of, class_of-cons, length-order}
use Rattle.class_frame.specs.Legal.{ClassStands, IsLegal}
use Rattle.matrix_layout.specs.ClassItems.{items_at, numbers_of_class}
use Rattle.matrix_layout.specs.LaidOut.{rows_of_class}
use Rattle.matrix_layout.proofs.LaidSteps.{length_of_classes}

module _ {X : Type 0} where
  -- the elements of a class, by their numbers
  pick-class : (k a : ℕ) (labels : List ℕ) (xs : List X) (h : ℕ → Option X) → length labels ≡ length xs
      → ((i : ℕ) (x : X) → i < length xs → x ≡ get_or xs i x → h (a + i) ≡ Some x)
      → filter_map h (class_of k labels (range_with_len a (length labels))) ≡ class_of k labels xs
  pick-class k a [] [] h same at = refl
  pick-class k a [] (x ∷ xs) h same at = absurd (omega arith)
  pick-class k a (label ∷ labels) [] h same at = absurd (omega arith)
  pick-class k a (label ∷ labels) (x ∷ xs) h same at =
      ap (filter_map h) (class_of-cons k label labels a (range_with_len (a + 1) (length labels)))
      ∙ by (nat_eq label k) (pick-class k (a + 1) labels xs h (omega arith)
      (λ i y lt is. ap h (shifted i) ∙ at (suc i) y (omega arith) is))
      ∙ sym (class_of-cons k label labels x xs)
    where
      shifted : (i : ℕ) → (a + 1) + i ≡ a + suc i
      shifted i = omega arith

      here : a + 0 ≡ a
      here = omega arith

      by : (b : Bool) → filter_map h (class_of k labels (range_with_len (a + 1) (length labels)))
          ≡ class_of k labels xs → filter_map h
          (cond b (a ∷ class_of k labels (range_with_len (a + 1) (length labels)))
          (class_of k labels (range_with_len (a + 1) (length labels))))
          ≡ cond b (x ∷ class_of k labels xs) (class_of k labels xs)
      by true rest =
          ap (λ o. cons_option o (filter_map h (class_of k labels (range_with_len (a + 1) (length labels)))))
          (ap h (sym here) ∙ at 0 x (omega arith) refl)
          ∙ ap (λ ys. x ∷ ys) rest
      by false rest = rest

-- the items with the numbers of a class are the class
pub items_at-class : (items : List Item) (labels : List ℕ) (k : ℕ) → length labels ≡ length items
    → items_at items (numbers_of_class labels k) ≡ class_of k labels items
items_at-class items labels k same =
    pick-class k 0 labels items (slice_get items) same
    (λ i item lt at. ap (slice_get items) (zero-add i) ∙ slice_get-get_or items i item lt
    ∙ ap (λ y. Some y) (sym at))

-- the numbers of a class are those of elements
pub numbers_inside : (labels : List ℕ) (k n : ℕ) → length labels ≡ n
    → All (λ number. number < n) (numbers_of_class labels k)
numbers_inside labels k n same =
    All-class_of (λ number. number < n) k labels (range_with_len 0 (length labels)) (λ i d lt.
    let within : i < length labels = simp length-range_with_len at lt in
    omega (arith, get_or-range_with_len 0 (length labels) i d within))

-- the list of a class
pub list_of_class : {X Y : Type 0} (vecs : List X) (f : X → List Y) (g : ℕ → List Y) (classes k : ℕ) (v : X)
    → map f vecs ≡ map g (range_with_len 0 classes) → k < classes → k < length vecs → v ≡ get_or vecs k v
    → f v ≡ g k
list_of_class vecs f g classes k v same lt within at =
    ap f at ∙ sym (get_or-map f vecs k v [] within) ∙ ap (λ ps. get_or ps k []) same
    ∙ get_or-map-range_with_len g 0 classes k k [] lt (omega arith)

-- what the numbers of a class are
pub record ClassNumbers (problem : Parts) (labels : List ℕ) (label : ℕ) (numbers : List ℕ) : Type 0 where
  pub is : items_at problem.items numbers ≡ class_of label labels problem.items
  pub inside : All (λ number. number < length problem.items) numbers
  pub stands : ClassStands (items_at problem.items numbers)

-- so are those of the class that the order names at a place, as they are read from the lists of all classes
pub class_numbers : {X : Type 0} (problem : Parts) (labels order : List ℕ) (vecs : List X) (f : X → List ℕ)
    (number : ℕ) (v : X) (numbers : List ℕ) → IsLegal problem.items labels → IsOrder labels order
    → map f vecs ≡ map (numbers_of_class labels) (range_with_len 0 (length order)) → number < length order
    → v ≡ get_or vecs (get_or order number 0) v → numbers ≡ f v
    → ClassNumbers problem labels (get_or order number 0) numbers
class_numbers problem labels order vecs f number v numbers legal named lists lt at read =
    let long = length-order labels order named in
    let below : get_or order number 0 < length order = omega (arith, named.only number 0 lt) in
    let within : get_or order number 0 < length vecs =
    omega (arith, length_of_classes vecs f (numbers_of_class labels) (length order) lists) in
    let here : numbers_of_class labels (get_or order number 0) ≡ numbers =
    sym (read ∙ list_of_class vecs f (numbers_of_class labels) (length order)
    (get_or order number 0) v lists below within at) in
    let class = items_at-class problem.items labels (get_or order number 0) legal.grouping.each in
    subst (ClassNumbers problem labels (get_or order number 0)) here (record {
      is = class;
      inside = numbers_inside labels (get_or order number 0) (length problem.items) legal.grouping.each;
      stands = subst ClassStands (sym class) (legal.classes (get_or order number 0));
    })

-- the rows of one more class
pub rows_more : (problem : Parts) (labels order : List ℕ) (number : ℕ) → number < length order
    → flat_map (rows_of_class problem labels) (take (number + 1) (enumerate_from 0 order))
    ≡ flat_map (rows_of_class problem labels) (take number (enumerate_from 0 order))
    ++ rows_of_class problem labels (number, get_or order number 0)
rows_more problem labels order number lt =
    let within : number < length (enumerate_from 0 order) = simp length-enumerate_from lt in
    ap (flat_map (rows_of_class problem labels)) (take_more (enumerate_from 0 order) number (0, 0) within)
    ∙ flat_map-append (rows_of_class problem labels) (take number (enumerate_from 0 order))
    (get_or (enumerate_from 0 order) number (0, 0) ∷ [])
    ∙ ap (λ rows. flat_map (rows_of_class problem labels) (take number (enumerate_from 0 order)) ++ rows)
    (append-nil (rows_of_class problem labels (get_or (enumerate_from 0 order) number (0, 0)))
    ∙ ap (rows_of_class problem labels)
    (get_or-enumerate_from 0 order number (0, 0) lt ∙ (λ i. (zero-add number i, get_or order number 0))))
