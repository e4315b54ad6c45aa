-- A legal grouping of items of different senders is one of each: the labels of the later are those of a
-- grouping of its own, after those of the earlier.
use Rattle.std.proofs.Common.{◌≡◌, ◌≢◌, ℕ, zero, suc, ◌+◌, ◌-◌, ◌<◌, ◌≤◌, ◌⊎◌, inl, inr, Bool, true, false, cond, List, [], ◌∷◌, ◌++◌, length, take, get_or, map, filter, nat_eq, max, sum_by, refl, sym, ap, subst, ◌∙◌, arith, length-append, append-nil}
use Rattle.std.specs.List.{range_with_len, zip}
use Rattle.std.proofs.lemmas.Bool.{eqb-true, eq-eqb, ne_eqb, cases_lt, eqb-false}
use Rattle.std.proofs.lemmas.List.{take-append-le, get_or-append-add, get_or-take, length-take, take-map, get_or-map, length-map}
use Rattle.std.proofs.lemmas.List.Sums.{sum_by-append, sum_by-cons}
use Rattle.pack_model.specs.declared.item.Item.{Item}
use Rattle.class_frame.specs.Grouping.{class_of, classes_of}
use Rattle.class_frame.specs.Legal.{ClassStands, IsLegal}
use Rattle.class_frame.proofs.GroupingLaws.{used}
use Rattle.grouping_tree.specs.Slack.{over_classes}
use Rattle.grouping_tree.proofs.Classes.{stands-front, get_or-front}
use Rattle.grouping_tree.proofs.Puts.{class-unused}

-- no item of the one has the sender of one of the other
abbrev pub AreApart : List Item → List Item → Type 0
AreApart xs ys = (i j : ℕ) (d : Item) → i < length xs → j < length ys
    → (get_or xs i d).sender ≢ (get_or ys j d).sender

-- the class of a label in two lists of items is that of the one and then that of the other
pub class-both : {X : Type 0} (k : ℕ) (p r : List ℕ) (xs ys : List X) → length p ≡ length xs
    → class_of k (p ++ r) (xs ++ ys) ≡ class_of k p xs ++ class_of k r ys
class-both k [] r [] ys e = refl
class-both k [] r (x ∷ xs) ys e = absurd (omega arith)
class-both k (l ∷ p) r [] ys e = absurd (omega arith)
class-both {X} k (l ∷ p) r (x ∷ xs) ys e = by (nat_eq l k) (class-both k p r xs ys (omega arith))
  where
    by : (b : Bool) → class_of k (p ++ r) (xs ++ ys) ≡ class_of k p xs ++ class_of k r ys
        → map (λ (e : ℕ × X). e.1) (cond b ((l, x) ∷ filter (λ e. nat_eq e.0 k) (zip (p ++ r) (xs ++ ys)))
        (filter (λ e. nat_eq e.0 k) (zip (p ++ r) (xs ++ ys))))
        ≡ map (λ (e : ℕ × X). e.1) (cond b ((l, x) ∷ filter (λ e. nat_eq e.0 k) (zip p xs))
        (filter (λ e. nat_eq e.0 k) (zip p xs))) ++ class_of k r ys
    by true ih = ap (λ zs. x ∷ zs) ih
    by false ih = ih

-- an item is in the class of its label
in-class : (k : ℕ) (p : List ℕ) (xs : List Item) (i : ℕ) → length p ≡ length xs → i < length p
    → get_or p i 0 ≡ k
    → (m : ℕ) × (m < length (class_of k p xs)) × ((d : Item) → get_or (class_of k p xs) m d ≡ get_or xs i d)
in-class k [] xs i e lt is = absurd (omega arith)
in-class k (l ∷ p) [] i e lt is = absurd (omega arith)
in-class k (l ∷ p) (x ∷ xs) zero e lt is = rw (eq-eqb l k is) (0, omega arith, λ d. refl)
in-class k (l ∷ p) (x ∷ xs) (suc i) e lt is =
    by (nat_eq l k) (in-class k p xs i (omega arith) (omega arith) is)
  where
    by : (b : Bool)
        → (m : ℕ) × (m < length (class_of k p xs))
        × ((d : Item) → get_or (class_of k p xs) m d ≡ get_or xs i d)
        → (m : ℕ)
        × (m < length (map (λ (e : ℕ × Item). e.1) (cond b ((l, x) ∷ filter (λ e. nat_eq e.0 k) (zip p xs))
        (filter (λ e. nat_eq e.0 k) (zip p xs)))))
        × ((d : Item) → get_or (map (λ (e : ℕ × Item). e.1)
        (cond b ((l, x) ∷ filter (λ e. nat_eq e.0 k) (zip p xs)) (filter (λ e. nat_eq e.0 k) (zip p xs)))) m d
        ≡ get_or xs i d)
    by true ih = (suc ih.0, omega (arith, ih.1), λ d. ih.2 d)
    by false ih = (ih.0, ih.1, λ d. ih.2 d)

-- the number of classes of two lists of labels is the greater
pub classes-append : (p r : List ℕ) → classes_of (p ++ r) ≡ max (classes_of p) (classes_of r)
classes-append [] r = omega arith
classes-append (l ∷ p) r = omega (arith, classes-append p r)

-- labels from a number on
abbrev pub IsFrom : ℕ → List ℕ → Type 0
IsFrom c r = (j : ℕ) → j < length r → c ≤ get_or r j 0

from-tail : (c l : ℕ) (r : List ℕ) → IsFrom c (l ∷ r) → IsFrom c r
from-tail c l r h j lt = h (suc j) (omega arith)

from-take : (c n : ℕ) (r : List ℕ) → IsFrom c r → IsFrom c (take n r)
from-take c n r h j lt =
    rw (get_or-take n r j 0 (omega (arith, length-take n r))) (h j (omega (arith, length-take n r)))

classes-shift : (c : ℕ) (r : List ℕ) → IsFrom c r → classes_of (map (λ l. l - c) r) ≡ classes_of r - c
classes-shift c [] h = omega arith
classes-shift c (l ∷ r) h = omega (arith, h 0 (omega arith), classes-shift c r (from-tail c l r h))

class-shift : (c k : ℕ) (r : List ℕ) (ys : List Item) → IsFrom c r
    → class_of k (map (λ l. l - c) r) ys ≡ class_of (k + c) r ys
class-shift c k [] ys h = refl
class-shift c k (l ∷ r) [] h = refl
class-shift c k (l ∷ r) (y ∷ ys) h =
    by (nat_eq l (k + c)) refl (class-shift c k r ys (from-tail c l r h))
  where
    by : (b : Bool) → nat_eq l (k + c) ≡ b → class_of k (map (λ l. l - c) r) ys ≡ class_of (k + c) r ys
        → class_of k ((l - c) ∷ map (λ l. l - c) r) (y ∷ ys) ≡ class_of (k + c) (l ∷ r) (y ∷ ys)
    by true e ih =
        let is : l ≡ k + c = eqb-true l (k + c) e in
        rw (e, eq-eqb (l - c) k (omega arith)) (ap (λ zs. y ∷ zs) ih)
    by false e ih =
        let low : c ≤ l = h 0 (omega arith) in
        rw (e, ne_eqb (l - c) k (λ same. eqb-false l (k + c) e (omega arith))) ih

class-low : (c k : ℕ) (r : List ℕ) (ys : List Item) → IsFrom c r → k < c → class_of k r ys ≡ []
class-low c k [] ys h lt = refl
class-low c k (l ∷ r) [] h lt = refl
class-low c k (l ∷ r) (y ∷ ys) h lt =
    let low : c ≤ l = h 0 (omega arith) in
    rw (ne_eqb l k (λ same. omega arith)) (class-low c k r ys (from-tail c l r h) lt)

take-both : (p : List ℕ) (k : ℕ) (r : List ℕ) → take (length p + k) (p ++ r) ≡ p ++ take k r
take-both [] k r = let e : 0 + k ≡ k = omega arith in ap (λ n. take n r) e
take-both (l ∷ p) k r =
    let e : length (l ∷ p) + k ≡ suc (length p + k) = omega arith in
    ap (λ n. take n (l ∷ (p ++ r))) e ∙ ap (λ (t : List ℕ). l ∷ t) (take-both p k r)

-- numbers in order, cut in two
pub range-split : (a n m : ℕ)
    → range_with_len a (n + m) ≡ range_with_len a n ++ range_with_len (a + n) m
range-split a zero m =
    let e : 0 + m ≡ m = omega arith in
    let f : a + 0 ≡ a = omega arith in
    ap (range_with_len a) e ∙ ap (λ b. range_with_len b m) (sym f)
range-split a (suc n) m =
    let e : suc n + m ≡ suc (n + m) = omega arith in
    let f : a + 1 + n ≡ a + suc n = omega arith in
    ap (range_with_len a) e
    ∙ ap (λ (t : List ℕ). a ∷ t)
    (range-split (a + 1) n m ∙ ap (λ b. range_with_len (a + 1) n ++ range_with_len b m) f)

-- a sum over numbers from another start
pub sum-shift : (g h : ℕ → ℕ) (a b n : ℕ) → ((k : ℕ) → k < n → g (a + k) ≡ h (b + k))
    → sum_by g (range_with_len a n) ≡ sum_by h (range_with_len b n)
sum-shift g h a b zero e = refl
sum-shift g h a b (suc n) e =
    let a0 : a ≡ a + 0 = omega arith in
    let b0 : b + 0 ≡ b = omega arith in
    let first : g a ≡ h b = ap g a0 ∙ e 0 (omega arith) ∙ ap h b0 in
    let rest : sum_by g (range_with_len (a + 1) n) ≡ sum_by h (range_with_len (b + 1) n) =
    sum-shift g h (a + 1) (b + 1) n (λ k lt.
    let ak : a + 1 + k ≡ a + suc k = omega arith in
    let bk : b + suc k ≡ b + 1 + k = omega arith in
    ap g ak ∙ e (suc k) (omega arith) ∙ ap h bk)
    in
    omega (
      arith,
      sum_by-cons g a (range_with_len (a + 1) n),
      sum_by-cons h b (range_with_len (b + 1) n),
      first,
      rest,
    )

module _ (xs ys : List Item) (p r : List ℕ) (here : length p ≡ length xs)
    (whole : IsLegal (xs ++ ys) (p ++ r)) where
  there : length r ≡ length ys
  there = omega (arith, length-append p r, length-append xs ys, whole.grouping.each, here)

  front-first_use : (k : ℕ) → k < length p → get_or p k 0 ≤ classes_of (take k p)
  front-first_use k lt =
      let first : get_or (p ++ r) k 0 ≤ classes_of (take k (p ++ r)) =
      whole.grouping.by_first_use k (omega (arith, length-append p r)) in
      subst (λ n. n ≤ classes_of (take k p)) (get_or-front p r k 0 lt)
      (subst (λ t. get_or (p ++ r) k 0 ≤ classes_of t) (take-append-le k p r (omega arith)) first)

  -- the earlier's items alone
  pub first-whole : IsLegal xs p
  first-whole =
      record {
        grouping = record { each = here; by_first_use = front-first_use };
        classes = λ label.
            stands-front (class_of label p xs) (class_of label r ys)
            (subst ClassStands (class-both label p r xs ys here) (whole.classes label));
      }

  module _ (apart : AreApart xs ys) where
    -- no label of the earlier is one of the later
    rest-from-at : Item → IsFrom (classes_of p) r
    rest-from-at d j lt = by (cases_lt (get_or r j 0) (classes_of p))
      where
        shared : (i : ℕ) → i < length p → get_or p i 0 ≡ get_or r j 0 → ⊥
        shared i lt2 same =
            let k = get_or r j 0 in
            let one = in-class k p xs i here lt2 same in
            let two = in-class k r ys j there lt refl in
            let front = class_of k p xs in
            let back = class_of k r ys in
            let stands : ClassStands (front ++ back) =
            subst ClassStands (class-both k p r xs ys here) (whole.classes k) in
            let senders : (get_or (front ++ back) one.0 d).sender
            ≡ (get_or (front ++ back) (length front + two.0) d).sender =
            stands.one_sender one.0 (length front + two.0) d (omega (arith, one.1))
            (omega (arith, length-append front back, two.1))
            in
            let left' : (get_or (front ++ back) one.0 d).sender ≡ (get_or xs i d).sender =
            ap (λ (x : Item). x.sender) (get_or-front front back one.0 d one.1 ∙ one.2 d) in
            let right' : (get_or (front ++ back) (length front + two.0) d).sender ≡ (get_or ys j d).sender =
            ap (λ (x : Item). x.sender) (get_or-append-add front back two.0 d ∙ two.2 d) in
            apart i j d (omega (arith, here)) (omega (arith, there)) (sym left' ∙ senders ∙ right')

        by : (get_or r j 0 < classes_of p) ⊎ (classes_of p ≤ get_or r j 0) → classes_of p ≤ get_or r j 0
        by (inl low) =
            let found = used p front-first_use (get_or r j 0) low in
            absurd (shared found.0 found.1 found.2)
        by (inr high) = high

    rest-from : IsFrom (classes_of p) r
    rest-from j lt = rest-from-at (some ys (omega (arith, there))) j lt
      where
        some : (zs : List Item) → j < length zs → Item
        some [] lt = absurd (omega arith)
        some (z ∷ zs) lt = z

    -- the later's items alone
    pub rest-whole : IsLegal ys (map (λ l. l - classes_of p) r)
    rest-whole =
        record {
          grouping = record { each = length-map r (λ l. l - classes_of p) ∙ there; by_first_use = first };
          classes = λ label.
              let c = classes_of p in
              let none : class_of (label + c) p xs ≡ [] = class-unused p xs (label + c) (omega arith) in
              let same : class_of (label + c) (p ++ r) (xs ++ ys) ≡ class_of label (map (λ l. l - c) r) ys =
              class-both (label + c) p r xs ys here
              ∙ ap (λ zs. zs ++ class_of (label + c) r ys) none ∙ sym (class-shift c label r ys rest-from)
              in
              subst ClassStands same (whole.classes (label + c));
        }
      where
        first : (k : ℕ) → k < length (map (λ l. l - classes_of p) r)
            → get_or (map (λ l. l - classes_of p) r) k 0
            ≤ classes_of (take k (map (λ l. l - classes_of p) r))
        first k lt =
            let c = classes_of p in
            let within : k < length r = omega (arith, length-map r (λ l. l - classes_of p)) in
            let all : get_or (p ++ r) (length p + k) 0 ≤ classes_of (take (length p + k) (p ++ r)) =
            whole.grouping.by_first_use (length p + k) (omega (arith, length-append p r)) in
            let before : classes_of (take (length p + k) (p ++ r)) ≡ max c (classes_of (take k r)) =
            ap classes_of (take-both p k r) ∙ classes-append p (take k r) in
            let after : classes_of (take k (map (λ l. l - classes_of p) r)) ≡ classes_of (take k r) - c =
            ap classes_of (take-map (λ l. l - classes_of p) k r)
            ∙ classes-shift c (take k r) (from-take c k r rest-from) in
            omega (
              arith,
              all,
              before,
              after,
              get_or-append-add p r k 0,
              get_or-map (λ l. l - classes_of p) r k 0 0 within,
            )

    -- what is summed over the classes is the sum of both
    pub over-both : (f : List Item → ℕ) → over_classes f (xs ++ ys) (p ++ r)
        ≡ over_classes f xs p + over_classes f ys (map (λ l. l - classes_of p) r)
    over-both f =
        let c = classes_of p in
        let n = classes_of (map (λ l. l - classes_of p) r) in
        let g = λ (label : ℕ). f (class_of label (p ++ r) (xs ++ ys)) in
        let total : classes_of (p ++ r) ≡ c + n =
        omega (arith, classes-append p r, classes-shift c r rest-from) in
        let low : sum_by (λ label. f (class_of label (p ++ r) (xs ++ ys))) (range_with_len 0 c)
        ≡ over_classes f xs p =
        sum-shift g (λ label. f (class_of label p xs)) 0 0 c (λ k lt.
        let e : 0 + k ≡ k = omega arith in
        ap f (class-both (0 + k) p r xs ys here
        ∙ ap (λ zs. class_of (0 + k) p xs ++ zs) (class-low c (0 + k) r ys rest-from (omega arith))
        ∙ append-nil (class_of (0 + k) p xs)))
        in
        let high : sum_by (λ label. f (class_of label (p ++ r) (xs ++ ys))) (range_with_len (0 + c) n)
        ≡ over_classes f ys (map (λ l. l - classes_of p) r) =
        sum-shift g (λ label. f (class_of label (map (λ l. l - classes_of p) r) ys)) (0 + c) 0 n (λ k lt.
        let e : 0 + c + k ≡ 0 + k + c = omega arith in
        ap f (class-both (0 + c + k) p r xs ys here
        ∙ ap (λ zs. zs ++ class_of (0 + c + k) r ys) (class-unused p xs (0 + c + k) (omega arith))
        ∙ ap (λ label. class_of label r ys) e ∙ sym (class-shift c (0 + k) r ys rest-from)))
        in
        ap (λ m. sum_by (λ label. f (class_of label (p ++ r) (xs ++ ys))) (range_with_len 0 m)) total
        ∙ ap (sum_by (λ label. f (class_of label (p ++ r) (xs ++ ys)))) (range-split 0 c n)
        ∙ sum_by-append g (range_with_len 0 c) (range_with_len (0 + c) n)
        ∙ ap (λ m. m + sum_by (λ label. f (class_of label (p ++ r) (xs ++ ys))) (range_with_len (0 + c) n))
        low
        ∙ ap (λ m. over_classes f xs p + m) high
