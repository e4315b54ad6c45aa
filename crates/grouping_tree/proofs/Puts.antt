-- Each option keeps the grouping legal, and the first unused label is one where the next item can be a frame.
use Rattle.std.proofs.Common.{◌≡◌, ◌||◌, if◌then◌else◌, is_some, sum_by, Option, None, Some, ℕ, zero, suc, ◌+◌, ◌<◌, ◌≤◌, ◌⊎◌, inl, inr, Bool, true, false, cond, List, [], ◌∷◌, ◌++◌, length, drop, take, get_or, filter, count_by, nat_eq, All, AllPairs, refl, sym, ap, subst, ◌∙◌, arith, length-append}
use Rattle.std.specs.List.{cons_option, range_with_len}
use Rattle.std.proofs.lemmas.Bool.{eqb-true, eq-eqb, ne_eqb, lt-ltb, le-ltb, cases_lt}
use Rattle.std.proofs.lemmas.List.{take-append-le}
use Rattle.std.proofs.lemmas.List.Elements.{All-nil, All-cons, All-head, All-tail}
use Rattle.std.specs.Int.{div_ceil}
use Rattle.std.proofs.lemmas.Grind.{div_ceil_times}
use Rattle.std.proofs.lemmas.List.Sums.{sum_by-cons}
use Rattle.pack_model.specs.declared.item.Item.{Item}
use Rattle.container_pdu.specs.Bytes.{bytes_of_parts}
use Rattle.class_frame.specs.Frame.{bytes_of_item, bytes_of_items}
use Rattle.class_frame.specs.Grouping.{class_of, classes_of}
use Rattle.class_frame.specs.Legal.{ClassStands}
use Rattle.grouping_tree.specs.Partial.{IsPartial, keeps_legal, options_of}
use Rattle.grouping_tree.proofs.Classes.{class-append, class-stays, get_or-front}
use Rattle.grouping_tree.proofs.Steps.{element}
use Rattle.grouping_tree.proofs.Options.{is_class-from, is_class-to, next-once, get_or-next, take-front}

-- a label that keeps the grouping legal may be put
pub put-legal : (items : List Item) (p : List ℕ) (l : ℕ) → IsPartial items p → length p < length items → l ≤ classes_of p → keeps_legal items p l ≡ true → IsPartial items (p ++ l ∷ [])
put-legal items p l h room low legal =
    record {
      within = omega (arith, length-append p (l ∷ []));
      by_first_use = λ k lt. at k (cases_lt k (length p)) lt;
      classes = λ label. of label (nat_eq l label) refl;
    }
  where
    at : (k : ℕ) → (k < length p) ⊎ (length p ≤ k) → k < length (p ++ l ∷ []) → get_or (p ++ l ∷ []) k 0 ≤ classes_of (take k (p ++ l ∷ []))
    at k (inl before) lt = rw (get_or-front p (l ∷ []) k 0 before, take-append-le k p (l ∷ []) (omega arith)) (h.by_first_use k before)
    at k (inr after) lt =
        let here : length p ≡ k = omega (arith, length-append p (l ∷ [])) in
        subst (λ k. get_or (p ++ l ∷ []) k 0 ≤ classes_of (take k (p ++ l ∷ []))) here (rw (get_or-next p [] l 0, take-front p (l ∷ [])) low)

    of : (label : ℕ) (b : Bool) → nat_eq l label ≡ b → ClassStands (class_of label (p ++ l ∷ []) items)
    of label true e = subst (λ k. ClassStands (class_of k (p ++ l ∷ []) items)) (eqb-true l label e) (is_class-to (class_of l (p ++ l ∷ []) items) legal)
    of label false e = subst ClassStands (sym (class-stays label p l items e)) (h.classes label)

all-filter : (f : ℕ → Bool) (P Q : ℕ → Type 0) → ((x : ℕ) → P x → f x ≡ true → Q x) → (xs : List ℕ) → All P xs → All Q (filter f xs)
all-filter f P Q g [] all = All-nil Q
all-filter f P Q g (x ∷ xs) all = by (f x) refl (all-filter f P Q g xs (All-tail P x xs all))
  where
    by : (b : Bool) → f x ≡ b → All Q (filter f xs) → All Q (cond b (x ∷ filter f xs) (filter f xs))
    by true e ih = All-cons Q x (filter f xs) (g x (All-head P x xs all) e) ih
    by false e ih = ih

all-range : (a n b : ℕ) → a + n ≤ b → All (λ l. l < b) (range_with_len a n)
all-range a zero b le = All-nil (λ l. l < b)
all-range a (suc n) b le = All-cons (λ l. l < b) a (range_with_len (a + 1) n) (omega arith) (all-range (a + 1) n b (omega arith))

pub options-legal : (items : List Item) (p : List ℕ) → IsPartial items p → All (λ l. IsPartial items (p ++ l ∷ [])) (options_of items p)
options-legal items p h = by (cases_lt (length p) (length items))
  where
    by : (length p < length items) ⊎ (length items ≤ length p) → All (λ l. IsPartial items (p ++ l ∷ [])) (options_of items p)
    by (inl room) =
        rw (lt-ltb (length p) (length items) room) (all-filter (keeps_legal items p) (λ l. l < classes_of p + 1) (λ l. IsPartial items (p ++ l ∷ []))
        (λ l low legal. put-legal items p l h room (omega arith) legal) (range_with_len 0 (classes_of p + 1)) (all-range 0 (classes_of p + 1) (classes_of p + 1) (omega arith)))
    by (inr full) = rw (le-ltb (length p) (length items) full) (All-nil (λ l. IsPartial items (p ++ l ∷ [])))

-- no item has a label that is not used
pub class-unused : {X : Type 0} (p : List ℕ) (xs : List X) (c : ℕ) → classes_of p ≤ c → class_of c p xs ≡ []
class-unused [] xs c le = refl
class-unused (l ∷ p) [] c le = refl
class-unused (l ∷ p) (x ∷ xs) c le = rw (ne_eqb l c (λ e. omega arith)) (class-unused p xs c (omega arith))

class-first : {X : Type 0} (l : ℕ) (xs : List X) (n : ℕ) (d : X) → n < length xs → class_of l (l ∷ []) (drop n xs) ≡ get_or xs n d ∷ []
class-first l [] n d lt = absurd (omega arith)
class-first l (x ∷ xs) zero d lt = rw (eq-eqb l l refl) refl
class-first l (x ∷ xs) (suc n) d lt = class-first l xs n d (omega arith)

-- the first unused label keeps the grouping legal where the next item alone can be a frame
pub new-legal : (items : List Item) (p : List ℕ) (d : Item) → length p < length items → ClassStands (get_or items (length p) d ∷ []) → keeps_legal items p (classes_of p) ≡ true
new-legal items p d room alone =
    let c = classes_of p in
    let same : class_of c (p ++ c ∷ []) items ≡ get_or items (length p) d ∷ [] =
    class-append c p (c ∷ []) items ∙ ap (λ xs. xs ++ class_of c (c ∷ []) (drop (length p) items)) (class-unused p items c (omega arith)) ∙ class-first c items (length p) d room
    in
    is_class-from (class_of c (p ++ c ∷ []) items) (subst ClassStands (sym same) alone)

-- and is an option then, once
pub new-option : (items : List Item) (p : List ℕ) (d : Item) → IsPartial items p → length p < length items → ClassStands (get_or items (length p) d ∷ [])
    → count_by (λ x. nat_eq x (classes_of p)) (options_of items p) ≡ 1
new-option items p d h room alone =
    next-once items p (classes_of p) (put-legal items p (classes_of p) h room (omega arith) (new-legal items p d room alone))

-- the bytes of one item
one_item_bytes : (item : Item) → item.bits ≤ 512 → bytes_of_items (item ∷ []) ≤ 64
one_item_bytes item few = by item.pdu
  where
    by : (o : Option ℕ) → (if is_some o || false then bytes_of_parts (cons_option o []) (bytes_of_item item ∷ []) else div_ceil (sum_by (λ (y : Item). y.bits) (item ∷ [])) 8) ≤ 64
    by None = omega (arith, sum_by-cons (λ (y : Item). y.bits) item [], div_ceil_times (sum_by (λ (y : Item). y.bits) (item ∷ [])) 8 (omega arith))
    by (Some id) = omega (arith, sum_by-cons (λ x. x) (bytes_of_item item) [], div_ceil_times item.bits 8 (omega arith))

-- one item of at most 512 bits can be a frame
pub one_stands : (item : Item) → item.bits ≤ 512 → ClassStands (item ∷ [])
one_stands item few = record {
  one_sender = λ i j d before lt. absurd (omega arith);
  one_kind = λ i j d before lt. absurd (omega arith);
  small = one_item_bytes item few;
}

-- where an item of at most 512 bits is left, there is an option
pub some_option : (items : List Item) (p : List ℕ) → IsPartial items p → length p < length items → All (λ item. item.bits ≤ 512) items → options_of items p ≡ [] → ⊥
some_option items p h room small none =
    let (item, at) = element items (length p) room in
    let once : count_by (λ x. nat_eq x (classes_of p)) (options_of items p) ≡ 1 =
    new-option items p item h room (one_stands (get_or items (length p) item) (small (length p) item room))
    in
    absurd (let zero_is : 0 ≡ 1 = sym (ap (count_by (λ x. nat_eq x (classes_of p))) none) ∙ once in omega arith)

-- ---- ascending options

all-past : (a n b : ℕ) → b < a → All (λ l. b < l) (range_with_len a n)
all-past a zero b lt = All-nil (λ l. b < l)
all-past a (suc n) b lt = All-cons (λ l. b < l) a (range_with_len (a + 1) n) lt (all-past (a + 1) n b (omega arith))

pairs-cons : (x : ℕ) (xs : List ℕ) → All (λ l. x < l) xs → AllPairs (λ l m. l < m) xs → AllPairs (λ l m. l < m) (x ∷ xs)
pairs-cons x xs all rest i zero d before lt = absurd (omega arith)
pairs-cons x xs all rest zero (suc j) d before lt = all j d (omega arith)
pairs-cons x xs all rest (suc i) (suc j) d before lt = rest i j d (omega arith) (omega arith)

ascend : (f : ℕ → Bool) (a n : ℕ) → AllPairs (λ l m. l < m) (filter f (range_with_len a n))
ascend f a zero = λ i j d before lt. absurd (omega arith)
ascend f a (suc n) = by (f a) (ascend f (a + 1) n)
  where
    by : (b : Bool) → AllPairs (λ l m. l < m) (filter f (range_with_len (a + 1) n)) → AllPairs (λ l m. l < m) (cond b (a ∷ filter f (range_with_len (a + 1) n)) (filter f (range_with_len (a + 1) n)))
    by true ih = pairs-cons a (filter f (range_with_len (a + 1) n)) (all-filter f (λ l. a < l) (λ l. a < l) (λ l lt e. lt) (range_with_len (a + 1) n) (all-past (a + 1) n a (omega arith))) ih
    by false ih = ih

pub options-ascend : (items : List Item) (p : List ℕ) → AllPairs (λ l m. l < m) (options_of items p)
options-ascend items p = by (cases_lt (length p) (length items))
  where
    by : (length p < length items) ⊎ (length items ≤ length p) → AllPairs (λ l m. l < m) (options_of items p)
    by (inl room) = rw (lt-ltb (length p) (length items) room) (ascend (keeps_legal items p) 0 (classes_of p + 1))
    by (inr full) = rw (le-ltb (length p) (length items) full) (λ i j d before lt. absurd (omega arith))
