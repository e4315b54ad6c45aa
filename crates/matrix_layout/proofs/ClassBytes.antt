-- The bytes of a class of items: where its parts begin, and what a class of free items or of I-PDUs takes.
use Rattle.std.proofs.Common.{◌≡◌, ℕ, ◌+◌, ◌*◌, ◌<◌, ◌≤◌, ◌⊎◌, Bool, true, false, cond, if◌then◌else◌, List, [], ◌∷◌, length, take, map, filter, get_or, sum, sum_by, All, AllPairs, Option, Some, None, is_some, suc, zero, inl, inr, refl, sym, ap, ◌∙◌, arith, take-take, get_or-take, append-nil, length-take-le}
use Rattle.std.specs.List.{flat_map, cons_option}
use Rattle.std.specs.Int.{div_ceil}
use Rattle.std.proofs.lemmas.Bool.{cases_lt}
use Rattle.std.proofs.lemmas.List.Elements.{All-head, All-tail}
use Rattle.std.proofs.lemmas.List.Folds.{list_any_none, list_any_at}
use Rattle.std.proofs.lemmas.List.Sums.{sum_by-cons, sum_by_more_le, sum-map}
use Rattle.pack_model.specs.declared.item.Item.{Item}
use Rattle.container_pdu.specs.declared.header.Header.{Header}
use Rattle.container_pdu.specs.declared.header.Header.TheVariants.{NoHeader, Short, Long}
use Rattle.container_pdu.specs.Bytes.{header_of, header_bytes, bytes_of_parts}
use Rattle.class_frame.specs.Frame.{ids_of, header_of_items, is_pdu, bytes_of_item, bytes_of_items}
use Rattle.matrix_layout.proofs.ClassLaws.{length-ids, few_ids}
use Rattle.matrix_layout.proofs.PartItems.{none_item, bytes_with, at_after}

-- what is added over more elements
take_rises : {X : Type 0} (w : X → ℕ) (xs : List X) (j k : ℕ) (d : X) → j < k → k ≤ length xs
    → sum_by w (take j xs) + w (get_or xs j d) ≤ sum_by w (take k xs)
take_rises w xs j k d before within =
    let short : j < length (take k xs) = omega (arith, length-take-le k xs within) in
    omega (
      arith,
      sum_by_more_le w (take k xs) j d short,
      ap (sum_by w) (take-take j k xs (omega arith)),
      ap w (get_or-take k xs j d before),
    )

-- a header or none
pub header_cases : (kind : Header) → (kind ≡ NoHeader) ⊎ (kind ≡ NoHeader → ⊥)
header_cases NoHeader = inl refl
header_cases Short = inr (λ e. let wrong : Short ≡ NoHeader = e in cc)
header_cases Long = inr (λ e. let wrong : Long ≡ NoHeader = e in cc)

-- with a header a part begins after it
pub at_headed : (kind : Header) (before : List Item) → (kind ≡ NoHeader → ⊥)
    → (at_after kind before ≡ header_bytes kind + bytes_with kind before) × (4 ≤ header_bytes kind)
at_headed NoHeader before differ = absurd (differ refl)
at_headed Short before differ = (refl, omega arith)
at_headed Long before differ = (refl, omega arith)

-- a later part begins after an earlier one
pub at_rises : (kind : Header) (items : List Item) (j k : ℕ) → (kind ≡ NoHeader → ⊥) → j < k
    → k ≤ length items → at_after kind (take j items) + bytes_of_item (get_or items j none_item)
    < at_after kind (take k items)
at_rises kind items j k differ before within =
    omega (
      arith,
      (at_headed kind (take j items) differ).0,
      (at_headed kind (take j items) differ).1,
      (at_headed kind (take k items) differ).0,
      take_rises (λ item. header_bytes kind + bytes_of_item item) items j k none_item before within,
    )

-- what passes a test up to a place
pub filter-take : {X : Type 0} (p : X → Bool) (xs : List X) (k : ℕ)
    → ((j : ℕ) (d : X) → j < k → j < length xs → p (get_or xs j d) ≡ true)
    → ((j : ℕ) (d : X) → k ≤ j → j < length xs → p (get_or xs j d) ≡ false) → filter p xs ≡ take k xs
filter-take p [] zero low high = refl
filter-take p [] (suc k) low high = refl
filter-take p (x ∷ xs) zero low high =
    ap (λ b. cond b (x ∷ filter p xs) (filter p xs)) (high 0 x (omega arith) (omega arith))
    ∙ filter-take p xs zero (λ j d lt within. absurd (omega arith))
    (λ j d le within. high (suc j) d (omega arith) (omega arith))
    ∙ nothing xs
  where
    nothing : {X : Type 0} (ys : List X) → take 0 ys ≡ []
    nothing [] = refl
    nothing (y ∷ ys) = refl
filter-take p (x ∷ xs) (suc k) low high =
    ap (λ b. cond b (x ∷ filter p xs) (filter p xs)) (low 0 x (omega arith) (omega arith))
    ∙ ap (λ ys. x ∷ ys) (filter-take p xs k (λ j d lt within. low (suc j) d (omega arith) (omega arith))
    (λ j d le within. high (suc j) d (omega arith) (omega arith)))

-- elements that agree in pairs agree
pub pairs_agree : {X Y : Type 0} (f : X → Y) (xs : List X) → AllPairs (λ x y. f x ≡ f y) xs
    → (i j : ℕ) (d : X) → i < length xs → j < length xs → f (get_or xs i d) ≡ f (get_or xs j d)
pairs_agree f xs agree i j d lt lt2 = by (cases_lt i j) (cases_lt j i)
  where
    by : (i < j) ⊎ (j ≤ i) → (j < i) ⊎ (i ≤ j) → f (get_or xs i d) ≡ f (get_or xs j d)
    by (inl before) other = agree i j d before lt2
    by (inr _) (inl after) = sym (agree j i d after lt)
    by (inr a) (inr b) = let same : i ≡ j = omega arith in ap (λ k. f (get_or xs k d)) same

not_some : (o : Option ℕ) → is_some o ≡ false → o ≡ None
not_some None e = refl
not_some (Some x) e = absurd (let wrong : true ≡ false = e in cc)

-- free items have no ids
no_ids : (items : List Item) → All (λ item. is_pdu item ≡ false) items → ids_of items ≡ []
no_ids [] free = refl
no_ids (item ∷ items) free =
    ap (λ o. cons_option o (ids_of items))
    (not_some item.pdu (All-head (λ (y : Item). is_pdu y ≡ false) item items free))
    ∙ no_ids items (All-tail (λ (y : Item). is_pdu y ≡ false) item items free)

-- so they have no header
pub free_header : (items : List Item) → All (λ item. is_pdu item ≡ false) items
    → header_of_items items ≡ NoHeader
free_header items free = ap header_of (no_ids items free)

-- and take their bits together
pub free_bytes : (items : List Item) → All (λ item. is_pdu item ≡ false) items
    → bytes_of_items items ≡ div_ceil (sum_by (λ item. item.bits) items) 8
free_bytes items free =
    ap (λ b. if b then bytes_of_parts (ids_of items) (map bytes_of_item items)
    else div_ceil (sum_by (λ (y : Item). y.bits) items) 8) (list_any_none is_pdu items free)

-- the members of an item that is alone
pub single_members : (items : List Item) (k : ℕ) → k < length items → All (λ item. is_pdu item ≡ true) items
    → header_of_items items ≡ NoHeader
    → flat_map (λ item. item.members) items ≡ (get_or items k none_item).members
single_members [] k lt all none = absurd (omega arith)
single_members (item ∷ []) k lt all none = let here : 0 ≡ k = omega arith in append-nil item.members
    ∙ ap (λ j. (get_or (item ∷ []) j none_item).members) here
single_members (item ∷ (other ∷ items)) k lt all none =
    absurd (omega (
      arith,
      few_ids (ids_of (item ∷ (other ∷ items))) none,
      length-ids (item ∷ (other ∷ items)) all,
    ))

-- what I-PDUs take
pdu_bytes : (items : List Item) (k : ℕ) → k < length items → All (λ item. is_pdu item ≡ true) items
    → bytes_of_items items ≡ bytes_with (header_of_items items) items
pdu_bytes items k lt all =
    ap (λ b. if b then bytes_of_parts (ids_of items) (map bytes_of_item items)
    else div_ceil (sum_by (λ (y : Item). y.bits) items) 8)
    (list_any_at is_pdu items k none_item lt (all k none_item lt))
    ∙ ap (λ n. n * header_bytes (header_of_items items) + sum (map bytes_of_item items))
    (length-ids items all)
    ∙ ap (λ n. length items * header_bytes (header_of_items items) + n) (sum-map bytes_of_item items)
    ∙ each (header_bytes (header_of_items items)) items
  where
    each : (h : ℕ) (ys : List Item)
        → length ys * h + sum_by bytes_of_item ys ≡ sum_by (λ item. h + bytes_of_item item) ys
    each h [] = omega arith
    each h (y ∷ ys) =
        omega (
          arith,
          each h ys,
          sum_by-cons bytes_of_item y ys,
          sum_by-cons (λ item. h + bytes_of_item item) y ys,
        )

-- a part of I-PDUs ends within the bytes of the class
pub part_ends : (items : List Item) (k : ℕ) → k < length items → All (λ item. is_pdu item ≡ true) items
    → at_after (header_of_items items) (take k items) + bytes_of_item (get_or items k none_item)
    ≤ bytes_of_items items
part_ends items k lt all = by (header_of_items items) refl
  where
    last : (kind : Header) → bytes_with kind
        (take k items) + (header_bytes kind + bytes_of_item (get_or items k none_item))
        ≤ bytes_with kind items
    last kind = sum_by_more_le (λ item. header_bytes kind + bytes_of_item item) items k none_item lt

    by : (kind : Header) → header_of_items items ≡ kind
        → at_after kind (take k items) + bytes_of_item (get_or items k none_item) ≤ bytes_of_items items
    by NoHeader e = omega (arith, pdu_bytes items k lt all, ap (λ h. bytes_with h items) e, last NoHeader)
    by Short e = omega (arith, pdu_bytes items k lt all, ap (λ h. bytes_with h items) e, last Short)
    by Long e = omega (arith, pdu_bytes items k lt all, ap (λ h. bytes_with h items) e, last Long)
