-- Groupings of the items of senders put together are a grouping of all items.
use Rattle.std.proofs.Common.{◌≡◌, ℕ, zero, suc, ◌+◌, ◌-◌, ◌<◌, ◌≤◌, ◌⊎◌, inl, inr, Bool, true, false, cond, List, [], ◌∷◌, ◌++◌, length, take, drop, get_or, map, filter, nat_eq, max, sum_by, refl, sym, ap, subst, ◌∙◌, arith, length-append, append-nil, append_assoc}
use Rattle.std.specs.List.{range_with_len, flat_map, zip}
use Rattle.std.proofs.lemmas.Bool.{eq-eqb, ne_eqb, cases_lt, cases_eq}
use Rattle.std.proofs.lemmas.List.{take-append-le, get_or-append-add, take-map, get_or-map, length-map, map-append, take_more, take-append-drop}
use Rattle.std.proofs.lemmas.List.Elements.{filter-append}
use Rattle.std.proofs.lemmas.List.Sums.{sum_by-append, sum_by-cons}
use Rattle.pack_model.specs.declared.item.Item.{Item}
use Rattle.pack_model.specs.Problem.{Parts, IsProblem, sent_by, items_in_order}
use Rattle.pack_model.proofs.Laws.{tests}
use Rattle.class_frame.specs.Grouping.{class_of, classes_of}
use Rattle.class_frame.specs.Legal.{ClassStands, IsLegal}
use Rattle.class_frame.proofs.GroupingLaws.{class_of-cons, classes_of-push}
use Rattle.grouping_tree.proofs.Classes.{get_or-front}
use Rattle.grouping_tree.proofs.Fronts.{full-legal}
use Rattle.grouping_tree.proofs.Puts.{class-unused}
use Rattle.grouping_tree.proofs.Used.{partial-none}
use Rattle.bandwidth_bound.proofs.PriceSplits.{class-both, classes-append}
use Rattle.plan_search.specs.Begin.{put_together}

-- ---- labels that follow others

-- labels that follow those of so many classes
abbrev pub after : ℕ → List ℕ → List ℕ
after c labels = map (λ label. c + label) labels

-- the classes of labels that follow come after those before
classes-after : (c : ℕ) (r : List ℕ) → max c (classes_of (after c r)) ≡ c + classes_of r
classes-after c [] = omega arith
classes-after c (l ∷ r) = omega (arith, classes-after c r)

-- the class of a label that follows is that of the label
class-after : {X : Type 0} (c k : ℕ) (q : List ℕ) (ys : List X)
    → class_of (c + k) (after c q) ys ≡ class_of k q ys
class-after c k [] ys = refl
class-after c k (l ∷ q) [] = refl
class-after {X} c k (l ∷ q) (y ∷ ys) =
    class_of-cons (c + k) (c + l) (after c q) y ys
    ∙ ap (λ b. cond b (y ∷ class_of (c + k) (after c q) ys) (class_of (c + k) (after c q) ys))
    (same (cases_eq l k))
    ∙ ap (λ (zs : List X). cond (nat_eq l k) (y ∷ zs) zs) (class-after c k q ys)
    ∙ sym (class_of-cons k l q y ys)
  where
    same : (l ≡ k) ⊎ (l ≡ k → ⊥) → nat_eq (c + l) (c + k) ≡ nat_eq l k
    same (inl e) = eq-eqb (c + l) (c + k) (omega arith) ∙ sym (eq-eqb l k e)
    same (inr ne) = ne_eqb (c + l) (c + k) (λ e. ne (omega arith)) ∙ sym (ne_eqb l k ne)

-- and no such label is one of those before
class-before : {X : Type 0} (c k : ℕ) (q : List ℕ) (ys : List X) → k < c → class_of k (after c q) ys ≡ []
class-before c k [] ys lt = refl
class-before c k (l ∷ q) [] lt = refl
class-before {X} c k (l ∷ q) (y ∷ ys) lt =
    class_of-cons k (c + l) (after c q) y ys
    ∙ ap (λ b. cond b (y ∷ class_of k (after c q) ys) (class_of k (after c q) ys))
    (ne_eqb (c + l) k (λ e. omega arith))
    ∙ class-before c k q ys lt

take-both : (p : List ℕ) (k : ℕ) (r : List ℕ) → take (length p + k) (p ++ r) ≡ p ++ take k r
take-both [] k r = let e : 0 + k ≡ k = omega arith in ap (λ n. take n r) e
take-both (l ∷ p) k r =
    let e : length (l ∷ p) + k ≡ suc (length p + k) = omega arith in
    ap (λ n. take n (l ∷ (p ++ r))) e ∙ ap (λ (t : List ℕ). l ∷ t) (take-both p k r)

-- ---- two groupings

-- a legal grouping of some items and one of others, whose labels follow, are one of all
module _ (xs ys : List Item) (p q : List ℕ) (first : IsLegal xs p) (rest : IsLegal ys q) where
  abbrev both : List ℕ
  both = p ++ after (classes_of p) q

  in-first : (k : ℕ) → k < length p → get_or both k 0 ≤ classes_of (take k both)
  in-first k lt =
      omega (
        arith,
        get_or-front p (after (classes_of p) q) k 0 lt,
        ap classes_of (take-append-le k p (after (classes_of p) q) (omega arith)),
        first.grouping.by_first_use k lt,
      )

  in-rest : (k : ℕ) → k < length q → get_or both (length p + k) 0 ≤ classes_of (take (length p + k) both)
  in-rest k lt =
      let c = classes_of p in
      omega (
        arith,
        get_or-append-add p (after c q) k 0,
        get_or-map (λ l. c + l) q k 0 0 lt,
        ap classes_of (take-both p k (after c q)),
        classes-append p (take k (after c q)),
        ap classes_of (take-map (λ l. c + l) k q),
        classes-after c (take k q),
        rest.grouping.by_first_use k lt,
      )

  by_first : (k : ℕ) → (k < length p) ⊎ (length p ≤ k) → k < length both
      → get_or both k 0 ≤ classes_of (take k both)
  by_first k (inl lt) within = in-first k lt
  by_first k (inr le) within =
      let e : length p + (k - length p) ≡ k = omega arith in
      subst (λ m. get_or both m 0 ≤ classes_of (take m both)) e
      (in-rest (k - length p) (omega (
        arith,
        length-append p (after (classes_of p) q),
        length-map q (λ l. classes_of p + l),
      )))

  class-stands : (label : ℕ) → (label < classes_of p) ⊎ (classes_of p ≤ label)
      → ClassStands (class_of label both (xs ++ ys))
  class-stands label (inl lt) =
      subst ClassStands (sym (class-both label p (after (classes_of p) q) xs ys first.grouping.each
      ∙ ap (λ zs. class_of label p xs ++ zs) (class-before (classes_of p) label q ys lt)
      ∙ append-nil (class_of label p xs))) (first.classes label)
  class-stands label (inr le) =
      let c = classes_of p in
      let e : c + (label - c) ≡ label = omega arith in
      subst ClassStands (sym (class-both label p (after c q) xs ys first.grouping.each
      ∙ ap (λ zs. zs ++ class_of label (after c q) ys) (class-unused p xs label le)
      ∙ ap (λ m. class_of m (after c q) ys) (sym e) ∙ class-after c (label - c) q ys))
      (rest.classes (label - c))

  legal-both : IsLegal (xs ++ ys) both
  legal-both =
      record {
        grouping = record {
          each = omega (
            arith,
            length-append p (after (classes_of p) q),
            length-map q (λ l. classes_of p + l),
            length-append xs ys,
            first.grouping.each,
            rest.grouping.each,
          );
          by_first_use = λ k lt. by_first k (cases_lt k (length p)) lt;
        };
        classes = λ label. class-stands label (cases_lt label (classes_of p));
      }

-- ---- the groupings of all senders

after-after : (c d : ℕ) (labels : List ℕ) → after (c + d) labels ≡ after c (after d labels)
after-after c d [] = refl
after-after c d (l ∷ labels) =
    let e : c + d + l ≡ c + (d + l) = omega arith in
    ap (λ m. m ∷ after (c + d) labels) e ∙ ap (λ (ms : List ℕ). (c + (d + l)) ∷ ms) (after-after c d labels)

after-none : (labels : List ℕ) → after 0 labels ≡ labels
after-none [] = refl
after-none (l ∷ labels) =
    let e : 0 + l ≡ l = omega arith in
    ap (λ m. m ∷ after 0 labels) e ∙ ap (λ (ms : List ℕ). l ∷ ms) (after-none labels)

-- put together after so many classes more
put-after : (c d : ℕ) (groupings : List (List ℕ)) → put_together (c + d) groupings
    ≡ after c (put_together d groupings)
put-after c d [] = refl
put-after c d (g ∷ gs) =
    let e : c + d + classes_of g ≡ c + (d + classes_of g) = omega arith in
    ap (λ ls. ls ++ put_together (c + d + classes_of g) gs) (after-after c d g)
    ∙ ap (λ m. after c (after d g) ++ put_together m gs) e
    ∙ ap (λ ls. after c (after d g) ++ ls) (put-after c (d + classes_of g) gs)
    ∙ sym (map-append (λ label. c + label) (after d g) (put_together (d + classes_of g) gs))

-- the first and then the others
put-first : (g : List ℕ) (gs : List (List ℕ))
    → put_together 0 (g ∷ gs) ≡ g ++ after (classes_of g) (put_together 0 gs)
put-first g gs =
    let e : 0 + classes_of g ≡ classes_of g + 0 = omega arith in
    ap (λ ls. ls ++ put_together (0 + classes_of g) gs) (after-none g)
    ∙ ap (λ m. g ++ put_together m gs) e
    ∙ ap (λ ls. g ++ ls) (put-after (classes_of g) 0 gs)

-- there are as many classes as in all of them
pub classes-together : (groupings : List (List ℕ)) → classes_of (put_together 0 groupings)
    ≡ sum_by classes_of groupings
classes-together [] = refl
classes-together (g ∷ gs) =
    omega (
      arith,
      ap classes_of (put-first g gs),
      classes-append g (after (classes_of g) (put_together 0 gs)),
      classes-after (classes_of g) (put_together 0 gs),
      classes-together gs,
      sum_by-cons classes_of g gs,
    )

-- one grouping more
pub put-more : (c : ℕ) (gs : List (List ℕ)) (g : List ℕ)
    → put_together c (gs ++ g ∷ []) ≡ put_together c gs ++ after (c + sum_by classes_of gs) g
put-more c [] g =
    let e : c ≡ c + 0 = omega arith in
    append-nil (after c g) ∙ ap (λ m. after m g) e
put-more c (h ∷ gs) g =
    let e : c + classes_of h + sum_by classes_of gs ≡ c + sum_by classes_of (h ∷ gs) =
    omega (arith, sum_by-cons classes_of h gs) in
    ap (λ ls. after c h ++ ls) (put-more (c + classes_of h) gs g)
    ∙ sym (append_assoc (after c h) (put_together (c + classes_of h) gs)
    (after (c + classes_of h + sum_by classes_of gs) g))
    ∙ ap (λ m. (after c h ++ put_together (c + classes_of h) gs) ++ after m g) e

-- legal groupings of the items of senders in turn are one of their items in turn
pub legal-together : (items : List Item) (a : ℕ) (groupings : List (List ℕ))
    → ((k : ℕ) → k < length groupings → IsLegal (sent_by items (a + k)) (get_or groupings k []))
    → IsLegal (flat_map (sent_by items) (range_with_len a (length groupings))) (put_together 0 groupings)
legal-together items a [] each = full-legal [] [] refl (partial-none [])
legal-together items a (g ∷ gs) each =
    let rest = flat_map (sent_by items) (range_with_len (a + 1) (length gs)) in
    let a0 : a + 0 ≡ a = omega arith in
    subst (IsLegal (sent_by items a ++ rest)) (sym (put-first g gs))
    (legal-both (sent_by items a) rest g (put_together 0 gs)
    (subst (λ s. IsLegal (sent_by items s) g) a0 (each 0 (omega arith)))
    (legal-together items (a + 1) gs (λ k lt.
    let e : a + suc k ≡ a + 1 + k = omega arith in
    subst (λ s. IsLegal (sent_by items s) (get_or gs k [])) e (each (suc k) (omega arith)))))

-- ---- the items by sender

sent-other : (xs : List Item) (t s : ℕ) → (t ≡ s → ⊥) → sent_by (sent_by xs t) s ≡ []
sent-other [] t s ne = refl
sent-other (x ∷ xs) t s ne = by (cases_eq x.sender t) (sent-other xs t s ne)
  where
    by : (x.sender ≡ t) ⊎ (x.sender ≡ t → ⊥) → sent_by (sent_by xs t) s ≡ [] → sent_by (sent_by (x ∷ xs) t) s
        ≡ []
    by (inl e) ih = rw (eq-eqb x.sender t e, ne_eqb x.sender s (λ f. ne (sym e ∙ f))) ih
    by (inr n) ih = rw (ne_eqb x.sender t n) ih

sent-same : (xs : List Item) (s : ℕ) → sent_by (sent_by xs s) s ≡ sent_by xs s
sent-same [] s = refl
sent-same (x ∷ xs) s = by (nat_eq x.sender s) refl (sent-same xs s)
  where
    by : (b : Bool) → nat_eq x.sender s ≡ b → sent_by (sent_by xs s) s ≡ sent_by xs s
        → sent_by (cond b (x ∷ sent_by xs s) (sent_by xs s)) s ≡ cond b (x ∷ sent_by xs s) (sent_by xs s)
    by true e ih = ap (λ c. cond c (x ∷ sent_by (sent_by xs s) s) (sent_by (sent_by xs s) s)) e
        ∙ ap (λ (zs : List Item). x ∷ zs) ih
    by false e ih = ih

sent-before : (xs : List Item) (s a n : ℕ) → s < a
    → sent_by (flat_map (sent_by xs) (range_with_len a n)) s ≡ []
sent-before xs s a zero lt = refl
sent-before xs s a (suc n) lt =
    filter-append (λ (item : Item). nat_eq item.sender s) (sent_by xs a)
    (flat_map (sent_by xs) (range_with_len (a + 1) n))
    ∙ ap (λ zs. zs ++ sent_by (flat_map (sent_by xs) (range_with_len (a + 1) n)) s)
    (sent-other xs a s (λ e. omega arith))
    ∙ sent-before xs s (a + 1) n (omega arith)

sent-among : (xs : List Item) (s a n : ℕ) → a ≤ s → s < a + n
    → sent_by (flat_map (sent_by xs) (range_with_len a n)) s ≡ sent_by xs s
sent-among xs s a zero le lt = absurd (omega arith)
sent-among xs s a (suc n) le lt = by (cases_eq a s) (sent-among xs s (a + 1) n)
  where
    by : (a ≡ s) ⊎ (a ≡ s → ⊥)
        → (a + 1 ≤ s → s < a + 1 + n
        → sent_by (flat_map (sent_by xs) (range_with_len (a + 1) n)) s ≡ sent_by xs s)
        → sent_by (flat_map (sent_by xs) (range_with_len a (suc n))) s ≡ sent_by xs s
    by (inl e) ih =
        filter-append (λ (item : Item). nat_eq item.sender s) (sent_by xs a)
        (flat_map (sent_by xs) (range_with_len (a + 1) n))
        ∙ ap (λ zs. sent_by (sent_by xs a) s ++ zs) (sent-before xs s (a + 1) n (omega arith))
        ∙ append-nil (sent_by (sent_by xs a) s)
        ∙ ap (λ t. sent_by (sent_by xs t) s) e ∙ sent-same xs s
    by (inr ne) ih =
        filter-append (λ (item : Item). nat_eq item.sender s) (sent_by xs a)
        (flat_map (sent_by xs) (range_with_len (a + 1) n))
        ∙ ap (λ zs. zs ++ sent_by (flat_map (sent_by xs) (range_with_len (a + 1) n)) s) (sent-other xs a s ne)
        ∙ ih (omega arith) (omega arith)

each-agrees : (f g : ℕ → List Item) (a n : ℕ) → ((s : ℕ) → a ≤ s → s < a + n → f s ≡ g s)
    → flat_map f (range_with_len a n) ≡ flat_map g (range_with_len a n)
each-agrees f g a zero e = refl
each-agrees f g a (suc n) e =
    ap (λ zs. zs ++ flat_map f (range_with_len (a + 1) n)) (e a (omega arith) (omega arith))
    ∙ ap (λ zs. g a ++ zs) (each-agrees f g (a + 1) n (λ s le lt. e s (omega arith) (omega arith)))

-- the items of a problem are those of each sender in turn
pub items-by_sender : (problem : Parts) → IsProblem problem
    → flat_map (sent_by problem.items) (range_with_len 0 (length problem.senders)) ≡ problem.items
items-by_sender problem stands =
    let xs = items_in_order problem.signals in
    let n = length problem.senders in
    let it = tests problem stands in
    let items : problem.items ≡ flat_map (sent_by xs) (range_with_len 0 n) =
    it.items ∙ ap (λ (l : List (List ℕ)). flat_map (sent_by xs) (range_with_len 0 (length l)))
    (sym it.senders) in
    each-agrees (sent_by problem.items) (sent_by xs) 0 n (λ s le lt.
    ap (λ ys. sent_by ys s) items ∙ sent-among xs s 0 n le lt)
    ∙ sym items

-- so the groupings of all senders put together are a legal one of all items
pub legal-all : (problem : Parts) (groupings : List (List ℕ)) → IsProblem problem
    → length groupings ≡ length problem.senders
    → ((s : ℕ) → s < length groupings → IsLegal (sent_by problem.items s) (get_or groupings s []))
    → IsLegal problem.items (put_together 0 groupings)
legal-all problem groupings stands all each =
    subst (λ items. IsLegal items (put_together 0 groupings))
    (ap (λ n. flat_map (sent_by problem.items) (range_with_len 0 n)) all ∙ items-by_sender problem stands)
    (legal-together problem.items 0 groupings (λ k lt.
    let e : k ≡ 0 + k = omega arith in
    subst (λ s. IsLegal (sent_by problem.items s) (get_or groupings k [])) e (each k lt)))

-- ---- what the code puts together

-- one label more
pub classes-more : (labels : List ℕ) (i : ℕ) → i < length labels
    → classes_of (take (i + 1) labels) ≡ max (classes_of (take i labels)) (get_or labels i 0 + 1)
classes-more labels i lt = ap classes_of (take_more labels i 0 lt)
    ∙ classes_of-push (take i labels) (get_or labels i 0)

-- the element at a place, with the default that it is
module _ (groupings : List (List ℕ)) (own : List ℕ) (i : ℕ) (lt : i < length groupings)
    (is : own ≡ get_or groupings i own) where
  one-more : take (i + 1) groupings ≡ take i groupings ++ own ∷ []
  one-more = take_more groupings i own lt ∙ ap (λ g. take i groupings ++ g ∷ []) (sym is)

  -- the classes with those of one grouping more
  pub sum-more : sum_by classes_of (take (i + 1) groupings)
      ≡ sum_by classes_of (take i groupings) + classes_of own
  sum-more =
      ap (sum_by classes_of) one-more
      ∙ sum_by-append classes_of (take i groupings) (own ∷ [])
      ∙ omega (arith, sum_by-cons classes_of own [])

  -- there are no more than in all of them
  pub sum-fits : sum_by classes_of (take i groupings) + classes_of own ≤ classes_of (put_together 0 groupings)
  sum-fits =
      omega (
        arith,
        sum-more,
        classes-together groupings,
        ap (sum_by classes_of) (take-append-drop (i + 1) groupings),
        sum_by-append classes_of (take (i + 1) groupings) (drop (i + 1) groupings),
      )

  -- one grouping more is put after those before
  pub put-one : (labels new : List ℕ) (classes : ℕ) → labels ≡ put_together 0 (take i groupings)
      → classes ≡ sum_by classes_of (take i groupings) → new ≡ labels ++ after classes own
      → new ≡ put_together 0 (take (i + 1) groupings)
  put-one labels new classes before count put =
      let e : classes ≡ 0 + sum_by classes_of (take i groupings) = omega arith in
      put ∙ ap (λ ls. ls ++ after classes own) before
      ∙ ap (λ m. put_together 0 (take i groupings) ++ after m own) e
      ∙ sym (put-more 0 (take i groupings) own)
      ∙ ap (put_together 0) (sym one-more)
