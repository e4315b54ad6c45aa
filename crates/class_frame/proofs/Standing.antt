-- When items can be in one frame, by their sums.
use Rattle.std.proofs.Common.{◌≡◌, ℕ, ◌≤◌, ◌⊎◌, inl, inr, suc, Bool, true, false, List, [], ◌∷◌, length, All, Option, Some, None, true≢false, refl, sym, ◌∙◌, arith}
use Rattle.std.specs.Prelude.{AllPairs}
use Rattle.std.proofs.lemmas.List.Elements.{All-nil, All-cons, All-head, All-tail}
use Rattle.pack_model.specs.declared.item.Item.{Item}
use Rattle.class_frame.specs.Frame.{ids_of, is_pdu}

-- there are no more ids than items
pub length-ids : (items : List Item) → length (ids_of items) ≤ length items
length-ids [] = omega arith
length-ids (item ∷ items) = by item.pdu refl (length-ids items)
  where
    by : (o : Option ℕ) → item.pdu ≡ o → length (ids_of items) ≤ length items → length (ids_of (item ∷ items)) ≤ length (item ∷ items)
    by None e rest = rw e (omega arith)
    by (Some id) e rest = rw e (omega arith)

-- with no ids none is an I-PDU, with as many as items each is
pub none_from_count : (items : List Item) → length (ids_of items) ≡ 0 → All (λ item. is_pdu item ≡ false) items
none_from_count [] none = All-nil (λ item. is_pdu item ≡ false)
none_from_count (item ∷ items) none = by item.pdu refl (none_from_count items)
  where
    by : (o : Option ℕ) → item.pdu ≡ o → (length (ids_of items) ≡ 0 → All (λ item. is_pdu item ≡ false) items) → All (λ item. is_pdu item ≡ false) (item ∷ items)
    by None e rest = All-cons (λ item. is_pdu item ≡ false) item items (rw e refl) (rest (rw e at none))
    by (Some id) e rest = absurd (let wrong : suc (length (ids_of items)) ≡ 0 = rw e at none in cc)

pub all_from_count : (items : List Item) → length (ids_of items) ≡ length items → All (λ item. is_pdu item ≡ true) items
all_from_count [] all = All-nil (λ item. is_pdu item ≡ true)
all_from_count (item ∷ items) all = by item.pdu refl (all_from_count items)
  where
    by : (o : Option ℕ) → item.pdu ≡ o → (length (ids_of items) ≡ length items → All (λ item. is_pdu item ≡ true) items) → All (λ item. is_pdu item ≡ true) (item ∷ items)
    by None e rest = absurd (let wrong : length (ids_of items) ≡ suc (length items) = rw e at all in omega (arith, wrong, length-ids items))
    by (Some id) e rest = All-cons (λ item. is_pdu item ≡ true) item items (rw e refl) (rest (let next : suc (length (ids_of items)) ≡ suc (length items) = rw e at all in omega (arith, next)))

pub kind_from_count : (items : List Item) → (length (ids_of items) ≡ 0) ⊎ (length (ids_of items) ≡ length items) → AllPairs (λ item other. is_pdu item ≡ is_pdu other) items
kind_from_count items (inl none) i j d lt within = none_from_count items none i d (omega arith) ∙ sym (none_from_count items none j d within)
kind_from_count items (inr all) i j d lt within = all_from_count items all i d (omega arith) ∙ sym (all_from_count items all j d within)

-- and of one kind there are none or as many
count_none : (items : List Item) → All (λ item. is_pdu item ≡ false) items → length (ids_of items) ≡ 0
count_none [] all = refl
count_none (item ∷ items) all = by item.pdu refl (All-head (λ item. is_pdu item ≡ false) item items all) (count_none items (All-tail (λ item. is_pdu item ≡ false) item items all))
  where
    by : (o : Option ℕ) → item.pdu ≡ o → is_pdu item ≡ false → length (ids_of items) ≡ 0 → length (ids_of (item ∷ items)) ≡ 0
    by None e here rest = rw e rest
    by (Some id) e here rest = absurd (true≢false (rw e at here))

count_all : (items : List Item) → All (λ item. is_pdu item ≡ true) items → length (ids_of items) ≡ length items
count_all [] all = refl
count_all (item ∷ items) all = by item.pdu refl (All-head (λ item. is_pdu item ≡ true) item items all) (count_all items (All-tail (λ item. is_pdu item ≡ true) item items all))
  where
    by : (o : Option ℕ) → item.pdu ≡ o → is_pdu item ≡ true → length (ids_of items) ≡ length items → length (ids_of (item ∷ items)) ≡ length (item ∷ items)
    by None e here rest = absurd (true≢false (sym (rw e at here)))
    by (Some id) e here rest = rw e (omega (arith, rest))

pub count_from_kind : (items : List Item) → AllPairs (λ item other. is_pdu item ≡ is_pdu other) items → (length (ids_of items) ≡ 0) ⊎ (length (ids_of items) ≡ length items)
count_from_kind [] same = inl refl
count_from_kind (item ∷ items) same = by (is_pdu item) refl
  where
    by : (b : Bool) → is_pdu item ≡ b → (length (ids_of (item ∷ items)) ≡ 0) ⊎ (length (ids_of (item ∷ items)) ≡ length (item ∷ items))
    by false e = inl (count_none (item ∷ items) (All-cons (λ item. is_pdu item ≡ false) item items e (λ i d lt. sym (same 0 (suc i) d (omega arith) (omega arith)) ∙ e)))
    by true e = inr (count_all (item ∷ items) (All-cons (λ item. is_pdu item ≡ true) item items e (λ i d lt. sym (same 0 (suc i) d (omega arith) (omega arith)) ∙ e)))
