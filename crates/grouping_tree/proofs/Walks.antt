-- The options from a label on, and the places that a walk in preorder still comes to.
use Rattle.std.proofs.Common.{◌≡◌, ℕ, zero, suc, ◌+◌, ◌-◌, ◌<◌, ◌≤◌, ◌⊎◌, inl, inr, Bool, true, false, cond, List, [], ◌∷◌, ◌++◌, length, take, drop, get_or, filter, nat_le, refl, sym, ap, ◌∙◌, arith, length-append, append-nil, append_assoc}
use Rattle.std.specs.List.{range_with_len}
use Rattle.std.proofs.lemmas.Bool.{cases_lt, lt-ltb, le-ltb, le-leb, lt-leb}
use Rattle.pack_model.specs.declared.item.Item.{Item}
use Rattle.class_frame.specs.Grouping.{classes_of}
use Rattle.grouping_tree.specs.Partial.{keeps_legal, options_of}
use Rattle.grouping_tree.proofs.Options.{get_or-next}
use Rattle.grouping_tree.specs.Walk.{options_from, with_each, places_below, places_beside, places_left}

-- ---- the options from a label on

-- what is at least a number that all are at least
all_from : (f : ℕ → Bool) (from a n : ℕ) → from ≤ a → filter (nat_le from) (filter f (range_with_len a n)) ≡ filter f (range_with_len a n)
all_from f from a zero le = refl
all_from f from a (suc n) le = by (f a) (all_from f from (a + 1) n (omega arith))
  where
    by : (b : Bool) → filter (nat_le from) (filter f (range_with_len (a + 1) n)) ≡ filter f (range_with_len (a + 1) n)
        → filter (nat_le from) (cond b (a ∷ filter f (range_with_len (a + 1) n)) (filter f (range_with_len (a + 1) n))) ≡ cond b (a ∷ filter f (range_with_len (a + 1) n)) (filter f (range_with_len (a + 1) n))
    by true ih = rw (le-leb from a le) (ap (λ xs. a ∷ xs) ih)
    by false ih = ih

-- and of a range that begins before it
some_from : (f : ℕ → Bool) (from a n m : ℕ) → a ≤ from → from + m ≡ a + n → filter (nat_le from) (filter f (range_with_len a n)) ≡ filter f (range_with_len from m)
some_from f from a zero zero le e = refl
some_from f from a zero (suc m) le e = absurd (omega arith)
some_from f from a (suc n) m le e = here (cases_lt a from) (some_from f from (a + 1) n m)
  where
    here : (a < from) ⊎ (from ≤ a) → (a + 1 ≤ from → from + m ≡ a + 1 + n → filter (nat_le from) (filter f (range_with_len (a + 1) n)) ≡ filter f (range_with_len from m))
        → filter (nat_le from) (filter f (range_with_len a (suc n))) ≡ filter f (range_with_len from m)
    here (inl before) ih = by (f a) (ih (omega arith) (omega arith))
      where
        by : (b : Bool) → filter (nat_le from) (filter f (range_with_len (a + 1) n)) ≡ filter f (range_with_len from m)
            → filter (nat_le from) (cond b (a ∷ filter f (range_with_len (a + 1) n)) (filter f (range_with_len (a + 1) n))) ≡ filter f (range_with_len from m)
        by true rest = rw (lt-leb from a before) rest
        by false rest = rest
    here (inr after) ih =
        let same : a ≡ from = omega arith in
        let many : suc n ≡ m = omega arith in
        all_from f from a (suc n) after ∙ ap (λ x. filter f (range_with_len x (suc n))) same ∙ ap (λ k. filter f (range_with_len from k)) many

-- none is at least a number past the range
none_from : (f : ℕ → Bool) (from a n : ℕ) → a + n ≤ from → filter (nat_le from) (filter f (range_with_len a n)) ≡ []
none_from f from a zero le = refl
none_from f from a (suc n) le = by (f a) (none_from f from (a + 1) n (omega arith))
  where
    by : (b : Bool) → filter (nat_le from) (filter f (range_with_len (a + 1) n)) ≡ []
        → filter (nat_le from) (cond b (a ∷ filter f (range_with_len (a + 1) n)) (filter f (range_with_len (a + 1) n))) ≡ []
    by true rest = rw (lt-leb from a (omega arith)) rest
    by false rest = rest

-- where no item is left there is no option
pub full_none : (items : List Item) (p : List ℕ) → length items ≤ length p → options_of items p ≡ []
full_none items p full = rw (le-ltb (length p) (length items) full) refl

-- where there is an option an item is left
pub option_left : (items : List Item) (p : List ℕ) (k : ℕ) → k < length (options_of items p) → length p < length items
option_left items p k lt = by (cases_lt (length p) (length items))
  where
    by : (length p < length items) ⊎ (length items ≤ length p) → length p < length items
    by (inl room) = room
    by (inr full) = absurd (omega (arith, lt, ap length (full_none items p full)))

pub full_from : (items : List Item) (p : List ℕ) (l : ℕ) → length items ≤ length p → options_from items p l ≡ []
full_from items p l full = ap (λ xs. filter (nat_le l) xs) (full_none items p full)

-- else they are the labels that may be put
options-are : (items : List Item) (p : List ℕ) → length p < length items → options_of items p ≡ filter (keeps_legal items p) (range_with_len 0 (classes_of p + 1))
options-are items p room = rw (lt-ltb (length p) (length items) room) refl

from-are : (items : List Item) (p : List ℕ) (l m : ℕ) → length p < length items → l + m ≡ classes_of p + 1 → options_from items p l ≡ filter (keeps_legal items p) (range_with_len l m)
from-are items p l m room e = ap (λ xs. filter (nat_le l) xs) (options-are items p room) ∙ some_from (keeps_legal items p) l 0 (classes_of p + 1) m (omega arith) (omega (arith, e))

-- all are at least 0
pub from-all : (items : List Item) (p : List ℕ) → options_from items p 0 ≡ options_of items p
from-all items p = by (cases_lt (length p) (length items))
  where
    by : (length p < length items) ⊎ (length items ≤ length p) → options_from items p 0 ≡ options_of items p
    by (inl room) = from-are items p 0 (classes_of p + 1) room (omega arith) ∙ sym (options-are items p room)
    by (inr full) = full_from items p 0 full ∙ sym (full_none items p full)

-- a label that may be put is the first from it on
pub from-here : (items : List Item) (p : List ℕ) (l : ℕ) → length p < length items → l < classes_of p + 1 → keeps_legal items p l ≡ true → options_from items p l ≡ l ∷ options_from items p (l + 1)
from-here items p l room low legal =
    let m : ℕ = classes_of p - l in
    from-are items p l (suc m) room (omega arith) ∙ ap (λ b. cond b (l ∷ filter (keeps_legal items p) (range_with_len (l + 1) m)) (filter (keeps_legal items p) (range_with_len (l + 1) m))) legal
    ∙ ap (λ xs. l ∷ xs) (sym (from-are items p (l + 1) m room (omega arith)))

-- and one that may not is passed over
pub from-next : (items : List Item) (p : List ℕ) (l : ℕ) → length p < length items → l < classes_of p + 1 → keeps_legal items p l ≡ false → options_from items p l ≡ options_from items p (l + 1)
from-next items p l room low legal =
    let m : ℕ = classes_of p - l in
    from-are items p l (suc m) room (omega arith) ∙ ap (λ b. cond b (l ∷ filter (keeps_legal items p) (range_with_len (l + 1) m)) (filter (keeps_legal items p) (range_with_len (l + 1) m))) legal
    ∙ sym (from-are items p (l + 1) m room (omega arith))

-- none is past the first unused label
pub from-past : (items : List Item) (p : List ℕ) (l : ℕ) → classes_of p + 1 ≤ l → options_from items p l ≡ []
from-past items p l past = by (cases_lt (length p) (length items))
  where
    by : (length p < length items) ⊎ (length items ≤ length p) → options_from items p l ≡ []
    by (inl room) = ap (λ xs. filter (nat_le l) xs) (options-are items p room) ∙ none_from (keeps_legal items p) l 0 (classes_of p + 1) (omega arith)
    by (inr full) = full_from items p l full

-- ---- the places that are left

beside-push : (items : List Item) (p ls : List ℕ) (l : ℕ) → places_beside items p (ls ++ l ∷ []) ≡ with_each (p ++ ls) (options_from items (p ++ ls) (l + 1)) ++ places_beside items p ls
beside-push items p [] l =
    sym (ap (λ q. with_each q (options_from items q (l + 1)) ++ []) (append-nil p) ∙ append-nil (with_each p (options_from items p (l + 1))))
beside-push items p (k ∷ ls) l =
    let q : List ℕ = p ++ k ∷ [] in
    let late : List (List ℕ) = with_each p (options_from items p (k + 1)) in
    let there : q ++ ls ≡ p ++ k ∷ ls = append_assoc p (k ∷ []) ls in
    ap (λ xs. xs ++ late) (beside-push items q ls l)
    ∙ append_assoc (with_each (q ++ ls) (options_from items (q ++ ls) (l + 1))) (places_beside items q ls) late
    ∙ ap (λ r. with_each r (options_from items r (l + 1)) ++ (places_beside items q ls ++ late)) there

take-short : (n : ℕ) (p r : List ℕ) → n ≤ length p → take n (p ++ r) ≡ take n p
take-short zero p r le = refl
take-short (suc n) [] r le = absurd (omega arith)
take-short (suc n) (a ∷ p) r le = ap (λ (t : List ℕ). a ∷ t) (take-short n p r (omega arith))

drop-short : (n : ℕ) (p r : List ℕ) → n ≤ length p → drop n (p ++ r) ≡ drop n p ++ r
drop-short zero p r le = refl
drop-short (suc n) [] r le = absurd (omega arith)
drop-short (suc n) (a ∷ p) r le = drop-short n p r (omega arith)

whole : (n : ℕ) (p : List ℕ) → take n p ++ drop n p ≡ p
whole zero p = refl
whole (suc n) [] = refl
whole (suc n) (a ∷ p) = ap (λ (t : List ℕ). a ∷ t) (whole n p)

-- after a place with one more label come the ones beside it with a greater one, and then those left before
pub left-push : (items : List Item) (base : ℕ) (p : List ℕ) (l : ℕ) → base ≤ length p → places_left items base (p ++ l ∷ []) ≡ with_each p (options_from items p (l + 1)) ++ places_left items base p
left-push items base p l le =
    ap (λ t. places_beside items t (drop base (p ++ l ∷ []))) (take-short base p (l ∷ []) le)
    ∙ ap (λ t. places_beside items (take base p) t) (drop-short base p (l ∷ []) le)
    ∙ beside-push items (take base p) (drop base p) l
    ∙ ap (λ q. with_each q (options_from items q (l + 1)) ++ places_left items base p) (whole base p)

-- so the options from a label on are the next place and what is left there
pub left-next : (items : List Item) (base : ℕ) (p : List ℕ) (l from : ℕ) → base ≤ length p → options_from items p from ≡ l ∷ options_from items p (l + 1)
    → with_each p (options_from items p from) ++ places_left items base p ≡ (p ++ l ∷ []) ∷ places_left items base (p ++ l ∷ [])
left-next items base p l from le e = ap (λ ls. with_each p ls ++ places_left items base p) e ∙ ap (λ qs. (p ++ l ∷ []) ∷ qs) (sym (left-push items base p l le))

-- with no labels beyond the first ones nothing is left
drop-whole : (n : ℕ) (p : List ℕ) → length p ≤ n → drop n p ≡ []
drop-whole zero [] le = refl
drop-whole zero (a ∷ p) le = absurd (omega arith)
drop-whole (suc n) [] le = refl
drop-whole (suc n) (a ∷ p) le = drop-whole n p (omega arith)

pub left-none : (items : List Item) (base : ℕ) (p : List ℕ) → length p ≤ base → places_left items base p ≡ []
left-none items base p le = ap (λ t. places_beside items (take base p) t) (drop-whole base p le)

-- going down to the least option
pub places_entered : (items : List Item) (p q : List ℕ) (l base : ℕ) → options_from items p 0 ≡ l ∷ options_from items p (l + 1) → q ≡ p ++ l ∷ [] → base ≤ length p
    → q ∷ places_left items base q ≡ places_below items p ++ places_left items base p
places_entered items p q l base first is le =
    ap (λ r. r ∷ places_left items base r) is ∙ sym (left-next items base p l 0 le first) ∙ ap (λ ls. with_each p ls ++ places_left items base p) (from-all items p)

-- the last label of a list
pub last-is : (p q : List ℕ) (l : ℕ) → p ≡ q ++ l ∷ [] → get_or p (length p - 1) 0 ≡ l
last-is p q l e =
    let n : length p - 1 ≡ length q = omega (arith, ap length e, length-append q (l ∷ [])) in
    ap (λ k. get_or p k 0) n ∙ ap (λ ls. get_or ls (length q) 0) e ∙ get_or-next q [] l 0

-- going on to the next option after the last label
pub places_next : (items : List Item) (base : ℕ) (p q r : List ℕ) (l last x : ℕ) → p ≡ q ++ l ∷ [] → last ≡ l → base ≤ length q → options_from items q (last + 1) ≡ x ∷ options_from items q (x + 1) → r ≡ q ++ x ∷ []
    → places_left items base p ≡ r ∷ places_left items base r
places_next items base p q r l last x e same le first is =
    ap (places_left items base) e ∙ left-push items base q l le ∙ ap (λ m. with_each q (options_from items q (m + 1)) ++ places_left items base q) (sym same)
    ∙ left-next items base q x (last + 1) le first ∙ ap (λ s. s ∷ places_left items base s) (sym is)

-- and back where there is none
pub places_back : (items : List Item) (base : ℕ) (p q : List ℕ) (l last : ℕ) → p ≡ q ++ l ∷ [] → last ≡ l → base ≤ length q → options_from items q (last + 1) ≡ [] → places_left items base p ≡ places_left items base q
places_back items base p q l last e same le none =
    ap (places_left items base) e ∙ left-push items base q l le ∙ ap (λ m. with_each q (options_from items q (m + 1)) ++ places_left items base q) (sym same)
    ∙ ap (λ ls. with_each q ls ++ places_left items base q) none

-- the first labels stay
pub front-stays : (base : ℕ) (p q : List ℕ) (l : ℕ) → p ≡ q ++ l ∷ [] → base ≤ length q → take base q ≡ take base p
front-stays base p q l e le = sym (ap (take base) e ∙ take-short base q (l ∷ []) le)
