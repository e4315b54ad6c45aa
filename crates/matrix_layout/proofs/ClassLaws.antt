-- What the items of one class are together.
use Rattle.std.proofs.Common.{◌≡◌, ℕ, ◌+◌, ◌*◌, ◌<◌, ◌≤◌, ◌⊎◌, ◌||◌, ◌^◌, Bool, true, false, not, if◌then◌else◌, is_some, nat_eq, nat_lt, List, [], ◌∷◌, length, map, sum, sum_by, get_or, suc, All, AllPairs, Any, Option, None, Some, inl, inr, refl, sym, ap, ◌∙◌, arith, true≢false}
use Rattle.std.specs.List.{cons_option, list_all, list_any}
use Rattle.std.specs.Int.{div_ceil}
use Rattle.std.proofs.lemmas.Bool.{cases_eq, cases_lt, eqb-true, ltb-true, ne_eqb}
use Rattle.std.proofs.lemmas.Grind.{div_ceil_times}
use Rattle.std.proofs.lemmas.List.{get_or_default}
use Rattle.std.proofs.lemmas.List.Elements.{All-head, All-tail}
use Rattle.std.proofs.lemmas.List.Folds.{Any-from_list_any}
use Rattle.std.proofs.lemmas.List.Sums.{sum_by-cons, sum_by-le}
use Rattle.pack_model.specs.declared.item.Item.{Item}
use Rattle.container_pdu.specs.declared.header.Header.{Header}
use Rattle.container_pdu.specs.declared.header.Header.TheVariants.{NoHeader, Short, Long}
use Rattle.container_pdu.specs.Bytes.{header_of, header_bytes, bytes_of_parts}
use Rattle.class_frame.specs.Legal.{ClassStands}
use Rattle.class_frame.specs.Frame.{ids_of, is_pdu, header_of_items, bytes_of_item, bytes_of_items}
use Rattle.matrix_layout.specs.ClassItems.{bits_of_items, bytes_with}

-- there is an I-PDU where there is an id
pub any_is_ids : (items : List Item) → list_any is_pdu items ≡ not (nat_eq (length (ids_of items)) 0)
any_is_ids [] = refl
any_is_ids (item ∷ items) = by item.pdu (any_is_ids items)
  where
    by : (o : Option ℕ) → list_any is_pdu items ≡ not (nat_eq (length (ids_of items)) 0)
        → (is_some o || list_any is_pdu items) ≡ not (nat_eq (length (cons_option o (ids_of items))) 0)
    by None rest = rest
    by (Some id) rest = sym (ap not (ne_eqb (suc (length (ids_of items))) 0 (λ e. omega arith)))

-- where one is an I-PDU, all are
all_pdus : (items : List Item) → AllPairs (λ item other. is_pdu item ≡ is_pdu other) items
    → list_any is_pdu items ≡ true → All (λ item. is_pdu item ≡ true) items
all_pdus items same some = λ j d lt. by j d lt (Any-from_list_any is_pdu items some)
  where
    by : (j : ℕ) (d : Item) → j < length items → Any (λ item. is_pdu item ≡ true) items
        → is_pdu (get_or items j d) ≡ true
    by j d lt (k, item, within, at, e) = cases (cases_lt j k) (cases_eq j k)
      where
        here : is_pdu (get_or items k d) ≡ true
        here = ap is_pdu (get_or_default items k d item within ∙ at) ∙ e

        cases : (j < k) ⊎ (k ≤ j) → (j ≡ k) ⊎ (j ≡ k → ⊥) → is_pdu (get_or items j d) ≡ true
        cases (inl before) _ = same j k d before within ∙ here
        cases (inr later) (inl e) = ap (λ m. is_pdu (get_or items m d)) e ∙ here
        cases (inr later) (inr ne) = sym (same k j d (omega arith) lt) ∙ here

-- I-PDUs have an id each
pub length-ids : (items : List Item) → All (λ item. is_pdu item ≡ true) items
    → length (ids_of items) ≡ length items
length-ids [] all = refl
length-ids (item ∷ items) all =
    by item.pdu (All-head (λ item. is_pdu item ≡ true) item items all)
    (length-ids items (All-tail (λ item. is_pdu item ≡ true) item items all))
  where
    by : (o : Option ℕ) → is_some o ≡ true → length (ids_of items) ≡ length items
        → length (cons_option o (ids_of items)) ≡ length (item ∷ items)
    by None some rest = absurd (true≢false (sym some))
    by (Some id) some rest = ap suc rest

-- where one of a class is an I-PDU, there are as many ids as items
pub length-ids_of_class : (items : List Item) → ClassStands items → list_any is_pdu items ≡ true
    → length (ids_of items) ≡ length items
length-ids_of_class items stands some = length-ids items (all_pdus items stands.one_kind some)

-- the bytes of items after headers
bytes_with-is : (kind : Header) (items : List Item)
    → bytes_with kind items ≡ length items * header_bytes kind + sum (map bytes_of_item items)
bytes_with-is kind [] = omega arith
bytes_with-is kind (item ∷ items) =
    omega (
      arith,
      bytes_with-is kind items,
      sum_by-cons (λ (y : Item). header_bytes kind + bytes_of_item y) item items,
      sum_by-cons (λ x. x) (bytes_of_item item) (map bytes_of_item items),
    )

-- the bytes of a class of I-PDUs
pub bytes_of_pdus : (items : List Item) → list_any is_pdu items ≡ true
    → bytes_of_items items ≡ bytes_of_parts (ids_of items) (map bytes_of_item items)
bytes_of_pdus items some =
    ap (λ b. if b then bytes_of_parts (ids_of items) (map bytes_of_item items)
    else div_ceil (sum_by (λ (item : Item). item.bits) items) 8) some

-- and those of a class of free items
pub bytes_of_free : (items : List Item) → list_any is_pdu items ≡ false
    → bytes_of_items items ≡ div_ceil (bits_of_items items) 8
bytes_of_free items none =
    ap (λ b. if b then bytes_of_parts (ids_of items) (map bytes_of_item items)
    else div_ceil (sum_by (λ (item : Item). item.bits) items) 8) none

-- a frame without headers has fewer than two I-PDUs
pub few_ids : (ids : List ℕ) → header_of ids ≡ NoHeader → length ids < 2
few_ids ids none = ltb-true (length ids) 2 (test (nat_lt (length ids) 2) _ none)
  where
    test : (b c : Bool) → (if b then NoHeader else (if c then Short else Long)) ≡ NoHeader → b ≡ true
    test true c e = refl
    test false true e = absurd (let wrong : Short ≡ NoHeader = e in cc)
    test false false e = absurd (let wrong : Long ≡ NoHeader = e in cc)

-- items under headers are I-PDUs
pdus_under : (items : List Item) → (header_of_items items ≡ NoHeader → ⊥) → list_any is_pdu items ≡ true
pdus_under items headers = by (nat_eq (length (ids_of items)) 0) refl
  where
    by : (b : Bool) → nat_eq (length (ids_of items)) 0 ≡ b → list_any is_pdu items ≡ true
    by false e = any_is_ids items ∙ ap not e
    by true e =
        let none : length (ids_of items) ≡ 0 = eqb-true (length (ids_of items)) 0 e in
        absurd (headers (ap (λ n. if nat_lt n 2 then NoHeader
        else (if list_all (λ id. nat_lt id (2 ^ 24)) (ids_of items) then Short else Long)) none))

-- a class with headers has at most 64 bytes with them
pub few_under_headers : (items : List Item) → ClassStands items → (header_of_items items ≡ NoHeader → ⊥)
    → bytes_with (header_of_items items) items ≤ 64
few_under_headers items stands headers =
    let some = pdus_under items headers in
    let many : length (ids_of items) ≡ length items = length-ids_of_class items stands some in
    let parts : length (ids_of items) * header_bytes (header_of_items items)
    ≡ length items * header_bytes (header_of_items items) =
    ap (λ n. n * header_bytes (header_of_items items)) many in
    omega (arith, bytes_with-is (header_of_items items) items, parts, bytes_of_pdus items some, stands.small)

-- a class without headers has at most 512 bits
pub few_bits : (items : List Item) → ClassStands items → All (λ item. item.bits ≤ 512) items
    → header_of_items items ≡ NoHeader → bits_of_items items ≤ 512
few_bits items stands small headers = by (list_any is_pdu items) refl
  where
    by : (b : Bool) → list_any is_pdu items ≡ b → bits_of_items items ≤ 512
    by false none =
        omega (
          arith,
          stands.small,
          bytes_of_free items none,
          div_ceil_times (bits_of_items items) 8 (omega arith),
        )
    by true some =
        omega (
          arith,
          few_ids (ids_of items) headers,
          length-ids_of_class items stands some,
          sum_by-le (λ (item : Item). item.bits) 512 items small,
        )
