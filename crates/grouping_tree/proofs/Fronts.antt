-- A front of a legal grouping is legal.
use Rattle.std.proofs.Common.{◌≡◌, ℕ, ◌≤◌, true, List, [], ◌∷◌, ◌++◌, length, drop, take, get_or, nat_eq, refl, sym, ap, subst, ◌∙◌, arith, length-append}
use Rattle.std.proofs.lemmas.List.{take-append-le}
use Rattle.std.proofs.lemmas.Bool.{and_parts, eqb-true, eq-eqb}
use Rattle.pack_model.specs.declared.item.Item.{Item}
use Rattle.class_frame.specs.Grouping.{class_of, classes_of}
use Rattle.class_frame.specs.Legal.{ClassStands, IsLegal}
use Rattle.grouping_tree.specs.Partial.{IsPartial, begins}
use Rattle.grouping_tree.proofs.Classes.{class-append, stands-front, get_or-front}

-- a list that begins with another is that and a rest
pub begins-is : (p q : List ℕ) → begins p q ≡ true → q ≡ p ++ drop (length p) q
begins-is [] [] e = refl
begins-is [] (b ∷ q) e = refl
begins-is (a ∷ p) [] e = absurd cc
begins-is (a ∷ p) (b ∷ q) e =
    let parts = and_parts (nat_eq a b) (begins p q) e in
    ap (λ (x : ℕ). x ∷ q) (sym (eqb-true a b parts.0)) ∙ ap (λ (t : List ℕ). a ∷ t) (begins-is p q parts.1)

-- a list and a rest begin with the list
pub begins-append : (p r : List ℕ) → begins p (p ++ r) ≡ true
begins-append [] r = refl
begins-append (a ∷ p) r = rw (eq-eqb a a refl) (begins-append p r)

-- the first labels of a partial grouping are one
pub partial-append : (items : List Item) (p r : List ℕ) → IsPartial items (p ++ r) → IsPartial items p
partial-append items p r h =
    record {
      within = omega (arith, length-append p r, h.within);
      by_first_use = λ k lt.
          let here : get_or (p ++ r) k 0 ≤ classes_of (take k (p ++ r)) = h.by_first_use k (omega (arith, length-append p r)) in
          subst (λ n. n ≤ classes_of (take k p)) (get_or-front p r k 0 lt) (subst (λ t. get_or (p ++ r) k 0 ≤ classes_of t) (take-append-le k p r (omega arith)) here);
      classes = λ label. stands-front (class_of label p items) (class_of label r (drop (length p) items)) (subst ClassStands (class-append label p r items) (h.classes label));
    }

-- and so is each list that it begins with
pub front-legal : (items : List Item) (p q : List ℕ) → begins p q ≡ true → IsPartial items q → IsPartial items p
front-legal items p q e h = partial-append items p (drop (length p) q) (subst (IsPartial items) (begins-is p q e) h)

-- a legal grouping is a partial one
pub legal-partial : (items : List Item) (q : List ℕ) → IsLegal items q → IsPartial items q
legal-partial items q h =
    record {
      within = omega (arith, h.grouping.each);
      by_first_use = h.grouping.by_first_use;
      classes = h.classes;
    }

-- a partial grouping of all items is legal
pub full-legal : (items : List Item) (q : List ℕ) → length q ≡ length items → IsPartial items q → IsLegal items q
full-legal items q all h =
    record {
      grouping = record { each = all; by_first_use = h.by_first_use };
      classes = h.classes;
    }

-- with more labels a class only gets more items
pub classes-extend : (items : List Item) (p q : List ℕ) → begins p q ≡ true → (label : ℕ) → (more : List Item) × (class_of label q items ≡ class_of label p items ++ more)
classes-extend items p q e label =
    let r = drop (length p) q in
    (class_of label r (drop (length p) items), ap (λ ls. class_of label ls items) (begins-is p q e) ∙ class-append label p r items)

classes-append : (p r : List ℕ) → classes_of p ≤ classes_of (p ++ r)
classes-append [] r = omega arith
classes-append (l ∷ p) r = omega (arith, classes-append p r)

-- and there are no fewer classes
pub classes-grow : (p q : List ℕ) → begins p q ≡ true → classes_of p ≤ classes_of q
classes-grow p q e = omega (arith, ap classes_of (begins-is p q e), classes-append p (drop (length p) q))
