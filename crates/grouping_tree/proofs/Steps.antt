-- What putting and taking back a label leave of what is kept of each label.
use Rattle.std.proofs.Common.{◌≡◌, ℕ, ◌+◌, ◌<◌, ◌≤◌, ◌⊎◌, inl, inr, zero, suc, Bool, true, false, cond, nat_eq, List, [], ◌∷◌, ◌++◌, length, map, filter, get_or, take, drop, set, refl, sym, ap, subst, ◌∙◌, arith, length-take-le}
use Rattle.std.specs.List.{zip}
use Rattle.std.proofs.lemmas.Bool.{cases_eq, eq-eqb, ne_eqb}
use Rattle.std.proofs.lemmas.Grind.{get_or-set_at}
use Rattle.std.proofs.lemmas.List.{take_more, take_more_set, take-set, take-set-le, get_or-set_other, get_or-take, get_or-drop, length-drop}
use Rattle.pack_model.specs.declared.item.Item.{Item}
use Rattle.class_frame.specs.Grouping.{class_of}
use Rattle.class_frame.proofs.GroupingLaws.{class_of-cons}
use Rattle.grouping_tree.proofs.Classes.{class-stays}

-- one more label puts the next item into its class alone
pub class_put : {X : Type 0} (k label : ℕ) (labels : List ℕ) (xs : List X) (x : X) → length labels < length xs → x ≡ get_or xs (length labels) x → class_of k (labels ++ label ∷ []) xs ≡ class_of k labels xs ++ cond (nat_eq label k) (x ∷ []) []
class_put k label labels [] x lt at = absurd (omega arith)
class_put {X} k label [] (y ∷ ys) x lt at = class_of-cons k label [] y ys ∙ by (nat_eq label k)
  where
    by : (b : Bool) → cond b (y ∷ class_of k [] ys) (class_of k [] ys) ≡ class_of k [] (y ∷ ys) ++ cond b (x ∷ []) []
    by true = ap (λ (z : X). z ∷ []) (sym at)
    by false = refl
class_put {X} k label (l ∷ ls) (y ∷ ys) x lt at =
    class_of-cons k l (ls ++ label ∷ []) y ys ∙ by (nat_eq l k) (class_put k label ls ys x (omega arith) at) ∙ ap (λ zs. zs ++ cond (nat_eq label k) (x ∷ []) []) (sym (class_of-cons k l ls y ys))
  where
    by : (b : Bool) → class_of k (ls ++ label ∷ []) ys ≡ class_of k ls ys ++ cond (nat_eq label k) (x ∷ []) [] → cond b (y ∷ class_of k (ls ++ label ∷ []) ys) (class_of k (ls ++ label ∷ []) ys) ≡ cond b (y ∷ class_of k ls ys) (class_of k ls ys) ++ cond (nat_eq label k) (x ∷ []) []
    by true rest = ap (λ zs. y ∷ zs) rest
    by false rest = rest

-- and so its own class has it last
pub class_next : {X : Type 0} (label : ℕ) (labels : List ℕ) (xs : List X) (x : X) → length labels < length xs → x ≡ get_or xs (length labels) x → class_of label (labels ++ label ∷ []) xs ≡ class_of label labels xs ++ x ∷ []
class_next label labels xs x lt at = class_put label label labels xs x lt at ∙ ap (λ b. class_of label labels xs ++ cond b (x ∷ []) []) (eq-eqb label label refl)

-- no more items in a class than labels
pub length-class_labels : {X : Type 0} (k : ℕ) (labels : List ℕ) (xs : List X) → length (class_of k labels xs) ≤ length labels
length-class_labels k [] xs = omega arith
length-class_labels k (label ∷ labels) [] = omega arith
length-class_labels {X} k (label ∷ labels) (x ∷ xs) = by (nat_eq label k) (length-class_labels k labels xs)
  where
    by : (b : Bool) → length (class_of k labels xs) ≤ length labels → length (map (λ (e : ℕ × X). e.1) (cond b ((label, x) ∷ filter (λ e. nat_eq e.0 k) (zip labels xs)) (filter (λ e. nat_eq e.0 k) (zip labels xs)))) ≤ length (label ∷ labels)
    by true rest = omega arith
    by false rest = omega arith

-- what a label that is put leaves of a table by label
pub label_put : {U : Type 0} (P : List Item → U → Type 0) (range : List Item) (labels : List ℕ) (table : List U) (count label : ℕ) (value : U) → count < length labels → label < length table
    → ((k : ℕ) (d : U) → k < length table → P (class_of k (take count labels) range) (get_or table k d))
    → P (class_of label (take count labels ++ label ∷ []) range) value
    → (k : ℕ) (d : U) → k < length table → P (class_of k (take (count + 1) (set labels count label)) range) (get_or (set table label value) k d)
label_put {U} P range labels table count label value some low are is k d lt = by (cases_eq k label)
  where
    step : take (count + 1) (set labels count label) ≡ take count labels ++ label ∷ []
    step = take_more_set labels count label some

    by : (k ≡ label) ⊎ (k ≡ label → ⊥) → P (class_of k (take (count + 1) (set labels count label)) range) (get_or (set table label value) k d)
    by (inl same) =
        subst (λ ls. P (class_of k ls range) (get_or (set table label value) k d)) (sym step)
        (subst (P (class_of k (take count labels ++ label ∷ []) range)) (sym (get_or-set_at table label k value d same low))
        (subst (λ m. P (class_of m (take count labels ++ label ∷ []) range) value) (sym same) is))
    by (inr other) =
        subst (λ ls. P (class_of k ls range) (get_or (set table label value) k d)) (sym step)
        (subst (P (class_of k (take count labels ++ label ∷ []) range)) (sym (get_or-set_other table label k value d other))
        (subst (λ items. P items (get_or table k d)) (sym (class-stays k (take count labels) label range (ne_eqb label k (λ e. other (sym e))))) (are k d lt)))

-- what a label that is taken back leaves of such a table
pub label_back : {U : Type 0} (P : List Item → U → Type 0) (range : List Item) (labels : List ℕ) (table : List U) (n label : ℕ) (value : U) → n < length labels → label < length table → get_or labels n 0 ≡ label
    → ((k : ℕ) (d : U) → k < length table → P (class_of k (take (n + 1) labels) range) (get_or table k d))
    → P (class_of label (take n labels) range) value
    → (k : ℕ) (d : U) → k < length table → P (class_of k (take n labels) range) (get_or (set table label value) k d)
label_back {U} P range labels table n label value some low here are is k d lt = by (cases_eq k label)
  where
    step : take (n + 1) labels ≡ take n labels ++ label ∷ []
    step = take_more labels n 0 some ∙ ap (λ m. take n labels ++ m ∷ []) here

    by : (k ≡ label) ⊎ (k ≡ label → ⊥) → P (class_of k (take n labels) range) (get_or (set table label value) k d)
    by (inl same) =
        subst (P (class_of k (take n labels) range)) (sym (get_or-set_at table label k value d same low))
        (subst (λ m. P (class_of m (take n labels) range) value) (sym same) is)
    by (inr other) =
        subst (P (class_of k (take n labels) range)) (sym (get_or-set_other table label k value d other))
        (subst (λ items. P items (get_or table k d)) (ap (λ ls. class_of k ls range) step ∙ class-stays k (take n labels) label range (ne_eqb label k (λ e. other (sym e)))) (are k d lt))

-- what a label that is put leaves of a table by item, of what was before each got its label
pub before_put : {U : Type 0} (P : List ℕ → ℕ → U → Type 0) (labels : List ℕ) (table : List U) (count label : ℕ) (value : U)
    → count < length labels → count < length table → P (take count labels) label value
    → ((i : ℕ) (d : U) → i < count → P (take i labels) (get_or labels i 0) (get_or table i d))
    → (i : ℕ) (d : U) → i < count + 1
    → P (take i (set labels count label)) (get_or (set labels count label) i 0) (get_or (set table count value) i d)
before_put {U} P labels table count label value some room is are i d lt = by (cases_eq i count)
  where
    move : (ls ms : List ℕ) (k l : ℕ) (u v : U) → ls ≡ ms → k ≡ l → u ≡ v → P ms l v → P ls k u
    move ls ms k l u v front number at is =
        subst (λ xs. P xs k u) (sym front) (subst (λ m. P ms m u) (sym number) (subst (P ms l) (sym at) is))

    by : (i ≡ count) ⊎ (i ≡ count → ⊥)
        → P (take i (set labels count label)) (get_or (set labels count label) i 0) (get_or (set table count value) i d)
    by (inl same) =
        move (take i (set labels count label)) (take count labels) (get_or (set labels count label) i 0) label
        (get_or (set table count value) i d) value
        (ap (λ n. take n (set labels count label)) same ∙ take-set labels count label)
        (get_or-set_at labels count i label 0 same some)
        (get_or-set_at table count i value d same room)
        is
    by (inr other) =
        let within : i < count = omega (arith, lt, other) in
        move (take i (set labels count label)) (take i labels) (get_or (set labels count label) i 0) (get_or labels i 0)
        (get_or (set table count value) i d) (get_or table i d)
        (take-set-le i labels count label (omega (arith, within)))
        (get_or-set_other labels count i label 0 other)
        (get_or-set_other table count i value d other)
        (are i d within)

-- an item of the range
pub range_at : {X : Type 0} (first room : ℕ) (xs : List X) (i : ℕ) (d : X) → i < room → get_or (take room (drop first xs)) i d ≡ get_or xs (first + i) d
range_at first room xs i d lt = get_or-take room (drop first xs) i d lt ∙ get_or-drop first xs i d

pub length-range : {X : Type 0} (first room : ℕ) (xs : List X) → first + room ≤ length xs → length (take room (drop first xs)) ≡ room
length-range first room xs inside = length-take-le room (drop first xs) (omega (arith, length-drop first xs, inside))

-- a place has an element
pub element : {X : Type 0} (xs : List X) (i : ℕ) → i < length xs → (x : X) × (x ≡ get_or xs i x)
element [] i lt = absurd (omega arith)
element (x ∷ xs) zero lt = (x, refl)
element (x ∷ xs) (suc i) lt = element xs i (omega arith)

-- a table that is written up to a place, and one more
pub set_more : {U : Type 0} (P : ℕ → U → Type 0) (xs : List U) (n : ℕ) (v : U) → n < length xs → P n v
    → ((k : ℕ) (d : U) → k < n → P k (get_or xs k d)) → (k : ℕ) (d : U) → k < n + 1 → P k (get_or (set xs n v) k d)
set_more {U} P xs n v low is before k d lt = by (cases_eq k n)
  where
    by : (k ≡ n) ⊎ (k ≡ n → ⊥) → P k (get_or (set xs n v) k d)
    by (inl same) =
        subst (P k) (sym (get_or-set_at xs n k v d same low)) (subst (λ m. P m v) (sym same) is)
    by (inr ne) = subst (P k) (sym (get_or-set_other xs n k v d ne)) (before k d (omega (arith, lt, ne)))
