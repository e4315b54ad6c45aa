-- No label of a class of an earlier sender may be put next.
use Rattle.std.proofs.Common.{◌≡◌, ℕ, zero, suc, ◌+◌, ◌-◌, ◌<◌, ◌≤◌, ◌⊎◌, inl, inr, Bool, true, false, cond, nat_eq, List, [], ◌∷◌, ◌++◌, length, get_or, max, refl, sym, ap, subst, ◌∙◌, arith, length-append}
use Rattle.std.proofs.lemmas.Bool.{cases_lt, eq-eqb}
use Rattle.pack_model.specs.declared.item.Item.{Item}
use Rattle.class_frame.specs.Grouping.{class_of, classes_of}
use Rattle.class_frame.specs.Legal.{ClassStands}
use Rattle.class_frame.proofs.GroupingLaws.{class_of-cons, label-lt-classes_of}
use Rattle.grouping_tree.specs.Grouped.{AreEarlier, IsEarlier}
use Rattle.grouping_tree.specs.Partial.{keeps_legal, options_of}
use Rattle.grouping_tree.specs.Walk.{options_from}
use Rattle.grouping_tree.proofs.Classes.{get_or-front}
use Rattle.grouping_tree.proofs.Options.{get_or-next, is_class-to}
use Rattle.grouping_tree.proofs.Steps.{class_next, element}
use Rattle.grouping_tree.proofs.Walks.{from-all, from-next}

-- an element is at some place of a list
abbrev IsThere : {X : Type 0} → List X → X → X → Type 0
IsThere xs d x = (j : ℕ) × (j < length xs) × (get_or xs j d ≡ x)

-- an element with a label is in the label's class
in_class : {X : Type 0} (label : ℕ) (labels : List ℕ) (xs : List X) (i : ℕ) (d : X)
    → i < length labels → i < length xs → get_or labels i 0 ≡ label
    → IsThere (class_of label labels xs) d (get_or xs i d)
in_class label [] xs i d low within is = absurd (omega arith)
in_class label (l ∷ ls) [] i d low within is = absurd (omega arith)
in_class label (l ∷ ls) (x ∷ xs) zero d low within is =
    let rest = class_of label ls xs in
    subst (λ zs. IsThere zs d x)
    (sym (class_of-cons label l ls x xs ∙ ap (λ b. cond b (x ∷ rest) rest) (eq-eqb l label is)))
    (0, omega arith, refl)
in_class {X} label (l ∷ ls) (x ∷ xs) (suc i) d low within is =
    subst (λ zs. IsThere zs d (get_or xs i d)) (sym (class_of-cons label l ls x xs))
    (by (nat_eq l label) (class_of label ls xs) (in_class label ls xs i d (omega arith) (omega arith) is))
  where
    by : (b : Bool) (rest : List X) → IsThere rest d (get_or xs i d)
        → IsThere (cond b (x ∷ rest) rest) d (get_or xs i d)
    by true rest (j, inside, same) = (suc j, omega arith, same)
    by false rest there = there

-- a label with an item of an earlier sender than the next item's may not be put
earlier_fails : (items : List Item) (labels : List ℕ) (label i : ℕ) (x : Item)
    → i < length labels → length labels < length items → get_or labels i 0 ≡ label
    → x ≡ get_or items (length labels) x → (get_or items i x).sender < x.sender
    → keeps_legal items labels label ≡ false
earlier_fails items labels label i x low room has at before = by (keeps_legal items labels label) refl
  where
    by : (b : Bool) → keeps_legal items labels label ≡ b → b ≡ false
    by false e = refl
    by true e =
        let xs = class_of label labels items in
        let (j, inside, same) = in_class label labels items i x low (omega arith) has in
        let class : ClassStands (xs ++ x ∷ []) =
        subst ClassStands (class_next label labels items x room at)
        (is_class-to (class_of label (labels ++ label ∷ []) items) e) in
        let one : (get_or (xs ++ x ∷ []) j x).sender ≡ (get_or (xs ++ x ∷ []) (length xs) x).sender =
        class.one_sender j (length xs) x inside (omega (arith, length-append xs (x ∷ []))) in
        let first : (get_or (xs ++ x ∷ []) j x).sender ≡ (get_or items i x).sender =
        ap (λ (y : Item). y.sender) (get_or-front xs (x ∷ []) j x inside ∙ same) in
        let last : (get_or (xs ++ x ∷ []) (length xs) x).sender ≡ x.sender =
        ap (λ (y : Item). y.sender) (get_or-next xs [] x x) in
        absurd (omega (arith, before, one, first, last))

-- such a label is used before the last item
earlier_place : (items : List Item) (labels : List ℕ) (l label : ℕ)
    → (is : IsEarlier items (labels ++ l ∷ []) label)
    → (is.place < length labels) × (get_or labels is.place 0 ≡ label)
earlier_place items labels l label is =
    let low : is.place < length labels = omega (arith, is.low, length-append labels (l ∷ [])) in
    (low, sym (get_or-front labels (l ∷ []) is.place 0 low) ∙ is.has)

-- so those below one end at the first unused one
pub earlier_low : (items : List Item) (labels : List ℕ) (l first : ℕ)
    → AreEarlier items (labels ++ l ∷ []) first → first ≤ classes_of labels
earlier_low items labels l first are = by (cases_lt (classes_of labels) first)
  where
    by : (classes_of labels < first) ⊎ (first ≤ classes_of labels) → first ≤ classes_of labels
    by (inr low) = low
    by (inl past) =
        let is = are (classes_of labels) past in
        let (low, has) = earlier_place items labels l (classes_of labels) is in
        absurd (omega (arith, label-lt-classes_of labels is.place low, has))

-- and none of them may be put
earlier_none : (items : List Item) (labels : List ℕ) (l first : ℕ)
    → AreEarlier items (labels ++ l ∷ []) first → length labels < length items
    → (label : ℕ) → label < first → keeps_legal items labels label ≡ false
earlier_none items labels l first are room label lt =
    let is = are label lt in
    let (low, has) = earlier_place items labels l label is in
    let (x, at) = element items (length labels) room in
    let last : length (labels ++ l ∷ []) - 1 ≡ length labels = omega (arith, length-append labels (l ∷ [])) in
    let here : (get_or items (length (labels ++ l ∷ []) - 1) x).sender ≡ x.sender =
    ap (λ n. (get_or items n x).sender) last ∙ ap (λ (y : Item). y.sender) (sym at) in
    earlier_fails items labels label is.place x low room has at (omega (arith, is.before x x, here))

-- the options are the same from the first label on that may be put
from-past_none : (items : List Item) (p : List ℕ) (from l : ℕ) → length p < length items → l ≤ classes_of p + 1
    → ((k : ℕ) → k < l → keeps_legal items p k ≡ false)
    → options_from items p from ≡ options_from items p (max from l)
from-past_none items p from zero room le none =
    ap (options_from items p) (let e : from ≡ max from 0 = omega arith in e)
from-past_none items p from (suc l) room le none =
    from-past_none items p from l room (omega arith) (λ k lt. none k (omega arith)) ∙ by (cases_lt l from)
  where
    by : (l < from) ⊎ (from ≤ l) → options_from items p (max from l) ≡ options_from items p (max from (suc l))
    by (inl past) = ap (options_from items p) (let e : max from l ≡ max from (suc l) = omega arith in e)
    by (inr here) =
        ap (options_from items p) (let e : max from l ≡ l = omega arith in e)
        ∙ from-next items p l room (omega arith) (none l (omega arith))
        ∙ ap (options_from items p) (let e : l + 1 ≡ max from (suc l) = omega arith in e)

-- so they begin after the classes of earlier senders
pub from-earlier : (items : List Item) (p : List ℕ) (from l first : ℕ) → length p < length items
    → AreEarlier items (p ++ l ∷ []) first
    → options_from items p from ≡ options_from items p (max from first)
from-earlier items p from l first room are =
    from-past_none items p from first room (omega (arith, earlier_low items p l first are))
    (earlier_none items p l first are room)

-- as all options do
pub all-earlier : (items : List Item) (p : List ℕ) (l first : ℕ) → length p < length items
    → AreEarlier items (p ++ l ∷ []) first → options_of items p ≡ options_from items p first
all-earlier items p l first room are =
    sym (from-all items p) ∙ from-earlier items p 0 l first room are
    ∙ ap (options_from items p) (let e : max 0 first ≡ first = omega arith in e)
