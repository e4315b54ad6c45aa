-- The class of a label in a front of labels is a front of its class, and a front of a class is one.
use Rattle.std.proofs.Common.{◌≡◌, ℕ, zero, suc, ◌<◌, Bool, true, false, cond, List, [], ◌∷◌, ◌++◌, length, map, filter, drop, get_or, nat_eq, AllPairs, refl, ap, subst, ◌∙◌, arith, append-nil, length-append}
use Rattle.std.specs.List.{zip}
use Rattle.pack_model.specs.declared.item.Item.{Item}
use Rattle.class_frame.specs.Grouping.{class_of}
use Rattle.class_frame.specs.Frame.{is_pdu}
use Rattle.class_frame.specs.Legal.{ClassStands}
use Rattle.class_frame.proofs.Bytes.{bytes-front}

pub class-append : {X : Type 0} (k : ℕ) (p r : List ℕ) (xs : List X) → class_of k (p ++ r) xs ≡ class_of k p xs ++ class_of k r (drop (length p) xs)
class-append k [] r [] = refl
class-append k [] r (x ∷ xs) = refl
class-append k (l ∷ p) [] [] = refl
class-append k (l ∷ p) (m ∷ r) [] = refl
class-append {X} k (l ∷ p) r (x ∷ xs) = by (nat_eq l k) (class-append k p r xs)
  where
    by : (b : Bool) → class_of k (p ++ r) xs ≡ class_of k p xs ++ class_of k r (drop (length p) xs)
        → map (λ (e : ℕ × X). e.1) (cond b ((l, x) ∷ filter (λ e. nat_eq e.0 k) (zip (p ++ r) xs)) (filter (λ e. nat_eq e.0 k) (zip (p ++ r) xs)))
        ≡ map (λ (e : ℕ × X). e.1) (cond b ((l, x) ∷ filter (λ e. nat_eq e.0 k) (zip p xs)) (filter (λ e. nat_eq e.0 k) (zip p xs))) ++ class_of k r (drop (length p) xs)
    by true ih = ap (λ ys. x ∷ ys) ih
    by false ih = ih

class-other : {X : Type 0} (k l : ℕ) (xs : List X) → nat_eq l k ≡ false → class_of k (l ∷ []) xs ≡ []
class-other k l [] e = refl
class-other k l (x ∷ xs) e = rw e refl

-- the class of another label stays
pub class-stays : (k : ℕ) (p : List ℕ) (l : ℕ) (items : List Item) → nat_eq l k ≡ false → class_of k (p ++ l ∷ []) items ≡ class_of k p items
class-stays k p l items e = class-append k p (l ∷ []) items ∙ ap (λ ys. class_of k p items ++ ys) (class-other k l (drop (length p) items) e) ∙ append-nil (class_of k p items)

pub get_or-front : {X : Type 0} (xs ys : List X) (i : ℕ) (d : X) → i < length xs → get_or (xs ++ ys) i d ≡ get_or xs i d
get_or-front [] ys i d lt = absurd (omega arith)
get_or-front (x ∷ xs) ys zero d lt = refl
get_or-front (x ∷ xs) ys (suc i) d lt = get_or-front xs ys i d (omega arith)

pairs-front : {X : Type 0} (R : X → X → Type 0) (xs ys : List X) → AllPairs R (xs ++ ys) → AllPairs R xs
pairs-front R xs ys h i j d before lt =
    let within : j < length (xs ++ ys) = omega (arith, length-append xs ys) in
    let here : R (get_or (xs ++ ys) i d) (get_or (xs ++ ys) j d) = h i j d before within in
    subst (λ x. R x (get_or xs j d)) (get_or-front xs ys i d (omega arith)) (subst (λ y. R (get_or (xs ++ ys) i d) y) (get_or-front xs ys j d lt) here)

pub stands-front : (xs ys : List Item) → ClassStands (xs ++ ys) → ClassStands xs
stands-front xs ys h =
    record {
      one_sender = pairs-front (λ (item other : Item). item.sender ≡ other.sender) xs ys h.one_sender;
      one_kind = pairs-front (λ (item other : Item). is_pdu item ≡ is_pdu other) xs ys h.one_kind;
      small = omega (arith, bytes-front xs ys, h.small);
    }
