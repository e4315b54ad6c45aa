-- The options are the labels that may be put next: each keeps the grouping legal, and a legal extension has its next label there once.
use Rattle.std.proofs.Common.{◌≡◌, ℕ, zero, suc, ◌+◌, ◌<◌, ◌≤◌, ◌⊎◌, inl, inr, ◌&&◌, Bool, true, false, cond, List, [], ◌∷◌, ◌++◌, length, take, get_or, filter, count_by, nat_eq, nat_lt, nat_le, AllPairs, refl, sym, ap, subst, ◌∙◌, arith, length-append}
use Rattle.std.specs.List.{list_all, range_with_len}
use Rattle.std.proofs.lemmas.Bool.{and_parts, eqb-true, eq-eqb, ne_eqb, le-leb, leb-true, lt-ltb, cases_lt}
use Rattle.std.proofs.lemmas.List.Sums.{sum_by-cons, sum_by-append}
use Rattle.pack_model.specs.declared.item.Item.{Item}
use Rattle.class_frame.specs.Grouping.{class_of, classes_of}
use Rattle.class_frame.specs.Frame.{bytes_of_items, is_pdu}
use Rattle.class_frame.specs.Legal.{ClassStands}
use Rattle.grouping_tree.specs.Partial.{IsPartial, same_kind, alike, is_class, keeps_legal, options_of}

pub both : (a b : Bool) → a ≡ true → b ≡ true → (a && b) ≡ true
both true b e f = f
both false b e f = absurd cc

-- ---- the test of a class

pub same_kind-from : (a b : Bool) → a ≡ b → same_kind a b ≡ true
same_kind-from true true e = refl
same_kind-from true false e = absurd cc
same_kind-from false true e = absurd cc
same_kind-from false false e = refl

pub same_kind-to : (a b : Bool) → same_kind a b ≡ true → a ≡ b
same_kind-to true true e = refl
same_kind-to true false e = absurd cc
same_kind-to false true e = absurd cc
same_kind-to false false e = refl

all-from : (p : Item → Bool) (xs : List Item) → ((k : ℕ) (d : Item) → k < length xs → p (get_or xs k d) ≡ true) → list_all p xs ≡ true
all-from p [] f = refl
all-from p (x ∷ xs) f = both (p x) (list_all p xs) (f 0 x (omega arith)) (all-from p xs (λ k d lt. f (suc k) d (omega arith)))

all-to : (p : Item → Bool) (xs : List Item) → list_all p xs ≡ true → (k : ℕ) (d : Item) → k < length xs → p (get_or xs k d) ≡ true
all-to p [] e k d lt = absurd (omega arith)
all-to p (x ∷ xs) e zero d lt = (and_parts (p x) (list_all p xs) e).0
all-to p (x ∷ xs) e (suc k) d lt = all-to p xs (and_parts (p x) (list_all p xs) e).1 k d (omega arith)

pub is_class-from : (xs : List Item) → ClassStands xs → is_class xs ≡ true
is_class-from [] h = refl
is_class-from (x ∷ xs) h =
    both (list_all (alike x) xs) (nat_le (bytes_of_items (x ∷ xs)) 64)
    (all-from (alike x) xs (λ k d lt.
    both (nat_eq x.sender (get_or xs k d).sender) (same_kind (is_pdu x) (is_pdu (get_or xs k d)))
    (eq-eqb x.sender (get_or xs k d).sender (h.one_sender 0 (suc k) d (omega arith) (omega arith)))
    (same_kind-from (is_pdu x) (is_pdu (get_or xs k d)) (h.one_kind 0 (suc k) d (omega arith) (omega arith)))))
    (le-leb (bytes_of_items (x ∷ xs)) 64 h.small)

-- what is equal to the first of a list is equal in pairs
pairs-first : {Y : Type 0} (f : Item → Y) (x : Item) (xs : List Item) → ((k : ℕ) (d : Item) → k < length xs → f x ≡ f (get_or xs k d)) → AllPairs (λ item other. f item ≡ f other) (x ∷ xs)
pairs-first f x xs h i zero d before lt = absurd (omega arith)
pairs-first f x xs h zero (suc j) d before lt = h j d (omega arith)
pairs-first f x xs h (suc i) (suc j) d before lt = sym (h i d (omega arith)) ∙ h j d (omega arith)

no_pairs : (R : Item → Item → Type 0) → AllPairs R []
no_pairs R i j d before lt = absurd (omega arith)

-- where the rest of some items are like the first of them, all are of one kind
pub alike-kind : (x : Item) (xs : List Item) → list_all (alike x) xs ≡ true → AllPairs (λ item other. is_pdu item ≡ is_pdu other) (x ∷ xs)
alike-kind x xs e = pairs-first is_pdu x xs (λ k d lt. same_kind-to (is_pdu x) (is_pdu (get_or xs k d)) (and_parts (nat_eq x.sender (get_or xs k d).sender) (same_kind (is_pdu x) (is_pdu (get_or xs k d))) (all-to (alike x) xs e k d lt)).1)

pub is_class-to : (xs : List Item) → is_class xs ≡ true → ClassStands xs
is_class-to [] e = record { one_sender = no_pairs (λ item other. item.sender ≡ other.sender); one_kind = no_pairs (λ item other. is_pdu item ≡ is_pdu other); small = omega arith }
is_class-to (x ∷ xs) e =
    let parts = and_parts (list_all (alike x) xs) (nat_le (bytes_of_items (x ∷ xs)) 64) e in
    let each = λ (k : ℕ) (d : Item) (lt : k < length xs). and_parts (nat_eq x.sender (get_or xs k d).sender) (same_kind (is_pdu x) (is_pdu (get_or xs k d))) (all-to (alike x) xs parts.0 k d lt) in
    record {
      one_sender = pairs-first (λ item. item.sender) x xs (λ k d lt. eqb-true x.sender (get_or xs k d).sender (each k d lt).0);
      one_kind = alike-kind x xs parts.0;
      small = leb-true (bytes_of_items (x ∷ xs)) 64 parts.1;
    }

-- ---- how often a label is among the options

pub counted : {X : Type 0} (p : X → Bool) (x : X) (xs : List X) → count_by p (x ∷ xs) ≡ cond (p x) 1 0 + count_by p xs
counted p x xs = sum_by-cons (λ y. cond (p y) 1 0) x xs

pub count-append : {X : Type 0} (p : X → Bool) (xs ys : List X) → count_by p (xs ++ ys) ≡ count_by p xs + count_by p ys
count-append p xs ys = sum_by-append (λ y. cond (p y) 1 0) xs ys

pub count-none : {X : Type 0} (p : X → Bool) → ((x : X) → p x ≡ false) → (xs : List X) → count_by p xs ≡ 0
count-none p f [] = refl
count-none p f (x ∷ xs) = let e : cond {A = ℕ} (p x) 1 0 ≡ 0 = ap (λ b. cond b 1 0) (f x) in omega (arith, counted p x xs, e, count-none p f xs)

count-same : {X : Type 0} (p q : X → Bool) → ((x : X) → p x ≡ q x) → (xs : List X) → count_by p xs ≡ count_by q xs
count-same p q f [] = refl
count-same p q f (x ∷ xs) = let e : cond {A = ℕ} (p x) 1 0 ≡ cond (q x) 1 0 = ap (λ b. cond b 1 0) (f x) in omega (arith, counted p x xs, counted q x xs, e, count-same p q f xs)

count-filter : (f : ℕ → Bool) (l : ℕ) → f l ≡ true → (xs : List ℕ) → count_by (λ x. nat_eq x l) (filter f xs) ≡ count_by (λ x. nat_eq x l) xs
count-filter f l e [] = refl
count-filter f l e (x ∷ xs) = by (f x) refl (nat_eq x l) refl (count-filter f l e xs)
  where
    by : (b : Bool) → f x ≡ b → (c : Bool) → nat_eq x l ≡ c → count_by (λ x. nat_eq x l) (filter f xs) ≡ count_by (λ x. nat_eq x l) xs
        → count_by (λ x. nat_eq x l) (cond b (x ∷ filter f xs) (filter f xs)) ≡ count_by (λ x. nat_eq x l) (x ∷ xs)
    by true g c h ih = omega (arith, counted (λ x. nat_eq x l) x (filter f xs), counted (λ x. nat_eq x l) x xs, ih)
    by false g true h ih = absurd (let same : x ≡ l = eqb-true x l h in let k : f x ≡ true = ap f same ∙ e in cc)
    by false g false h ih = let z : cond {A = ℕ} (nat_eq x l) 1 0 ≡ 0 = ap (λ b. cond b 1 0) h in omega (arith, counted (λ x. nat_eq x l) x xs, z, ih)

range-past : (l a n : ℕ) → l < a → count_by (λ x. nat_eq x l) (range_with_len a n) ≡ 0
range-past l a zero lt = refl
range-past l a (suc n) lt =
    let z : cond {A = ℕ} (nat_eq a l) 1 0 ≡ 0 = ap (λ b. cond b 1 0) (ne_eqb a l (λ e. omega arith)) in
    omega (arith, counted (λ x. nat_eq x l) a (range_with_len (a + 1) n), z, range-past l (a + 1) n (omega arith))

pub range-once : (l a n : ℕ) → a ≤ l → l < a + n → count_by (λ x. nat_eq x l) (range_with_len a n) ≡ 1
range-once l a zero le lt = absurd (omega arith)
range-once l a (suc n) le lt = by (cases_lt a l) (range-once l (a + 1) n)
  where
    by : (a < l) ⊎ (l ≤ a) → (a + 1 ≤ l → l < a + 1 + n → count_by (λ x. nat_eq x l) (range_with_len (a + 1) n) ≡ 1) → count_by (λ x. nat_eq x l) (range_with_len a (suc n)) ≡ 1
    by (inl before) ih =
        let z : cond {A = ℕ} (nat_eq a l) 1 0 ≡ 0 = ap (λ b. cond b 1 0) (ne_eqb a l (λ e. omega arith)) in
        omega (arith, counted (λ x. nat_eq x l) a (range_with_len (a + 1) n), z, ih (omega arith) (omega arith))
    by (inr here) ih =
        let z : cond {A = ℕ} (nat_eq a l) 1 0 ≡ 1 = ap (λ b. cond b 1 0) (eq-eqb a l (omega arith)) in
        omega (arith, counted (λ x. nat_eq x l) a (range_with_len (a + 1) n), z, range-past l (a + 1) n (omega arith))

-- ---- the next label

pub get_or-next : {X : Type 0} (p r : List X) (l d : X) → get_or (p ++ l ∷ r) (length p) d ≡ l
get_or-next [] r l d = refl
get_or-next (a ∷ p) r l d = get_or-next p r l d

pub take-front : (p r : List ℕ) → take (length p) (p ++ r) ≡ p
take-front [] [] = refl
take-front [] (b ∷ r) = refl
take-front (a ∷ p) r = ap (λ (t : List ℕ). a ∷ t) (take-front p r)

-- the label that a legal grouping puts next is at most the first unused one
pub next-low : (items : List Item) (p : List ℕ) (l : ℕ) → IsPartial items (p ++ l ∷ []) → l ≤ classes_of p
next-low items p l h =
    let first : get_or (p ++ l ∷ []) (length p) 0 ≤ classes_of (take (length p) (p ++ l ∷ [])) = h.by_first_use (length p) (omega (arith, length-append p (l ∷ []))) in
    subst (λ n. n ≤ classes_of p) (get_or-next p [] l 0) (subst (λ t. get_or (p ++ l ∷ []) (length p) 0 ≤ classes_of t) (take-front p (l ∷ [])) first)

-- and an option, once
pub next-once : (items : List Item) (p : List ℕ) (l : ℕ) → IsPartial items (p ++ l ∷ []) → count_by (λ x. nat_eq x l) (options_of items p) ≡ 1
next-once items p l h =
    let room : nat_lt (length p) (length items) ≡ true = lt-ltb (length p) (length items) (omega (arith, length-append p (l ∷ []), h.within)) in
    let low = next-low items p l h in
    rw room (count-filter (keeps_legal items p) l (is_class-from (class_of l (p ++ l ∷ []) items) (h.classes l)) (range_with_len 0 (classes_of p + 1)) ∙ range-once l 0 (classes_of p + 1) (omega arith) (omega arith))
