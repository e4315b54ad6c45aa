-- The header and the bytes of items, by their sums.
use Rattle.std.proofs.Common.{◌≡◌, ℕ, ◌+◌, ◌*◌, ◌^◌, ◌<◌, ◌≤◌, ◌⊎◌, inl, inr, true, false, List, [], ◌∷◌, length, map, sum, sum_by, nat_lt, suc, Option, None, Some, refl, sym, ap, ◌∙◌, ◌&&◌, arith, if◌then◌else◌}
use Rattle.std.specs.List.{list_all, list_any}
use Rattle.std.specs.Int.{div_ceil}
use Rattle.std.proofs.lemmas.Bool.{cases_lt, lt-ltb, le-ltb}
use Rattle.std.proofs.lemmas.Grind.{div_ceil_times}
use Rattle.std.proofs.lemmas.List.Sums.{sum-map}
use Rattle.std.proofs.Math.Nat.{mul-le-mul}
use Rattle.pack_model.specs.declared.item.Item.{Item}
use Rattle.pack_model.specs.Problem.{Parts}
use Rattle.container_pdu.specs.declared.header.Header.{Header}
use Rattle.container_pdu.specs.declared.header.Header.TheVariants.{NoHeader, Short, Long}
use Rattle.container_pdu.specs.Bytes.{header_bytes}
use Rattle.class_frame.specs.Frame.{ids_of, is_pdu, header_of_items, bytes_of_item, bytes_of_items}
use Rattle.class_frame.specs.declared.sums.Sums.{Sums}
use Rattle.class_frame.specs.Sums.{AreSums, IsSmall, is_short}

-- each id is short where each item has a short one or none
shorts : (items : List Item) → list_all (λ item. is_short item.pdu) items ≡ list_all (λ id. nat_lt id (2 ^ 24)) (ids_of items)
shorts [] = refl
shorts (x ∷ xs) = by x.pdu refl (shorts xs)
  where
    by : (o : Option ℕ) → x.pdu ≡ o → list_all (λ item. is_short item.pdu) xs ≡ list_all (λ id. nat_lt id (2 ^ 24)) (ids_of xs) → list_all (λ item. is_short item.pdu) (x ∷ xs) ≡ list_all (λ id. nat_lt id (2 ^ 24)) (ids_of (x ∷ xs))
    by None e ih = rw e ih
    by (Some id) e ih = rw e (ap (λ b. nat_lt id (2 ^ 24) && b) ih)

-- fewer than two I-PDUs have no header
pub header_none : (problem : Parts) (items : List Item) (sums : Sums) → AreSums problem items sums → sums.pdus < 2 → NoHeader ≡ header_of_items items
header_none problem items sums is few = sym (ap (λ b. if b then NoHeader else (if list_all (λ id. nat_lt id (2 ^ 24)) (ids_of items) then Short else Long)) (lt-ltb (length (ids_of items)) 2 (omega (arith, ap (λ (s : Sums). s.pdus) is, few))))

pub header_some : (problem : Parts) (items : List Item) (sums : Sums) → AreSums problem items sums → 2 ≤ sums.pdus → (if sums.short_ids then Short else Long) ≡ header_of_items items
header_some problem items sums is many =
    ap (λ b. if b then Short else Long) (ap (λ (s : Sums). s.short_ids) is ∙ shorts items)
    ∙ sym (ap (λ b. if b then NoHeader else (if list_all (λ id. nat_lt id (2 ^ 24)) (ids_of items) then Short else Long)) (le-ltb (length (ids_of items)) 2 (omega (arith, ap (λ (s : Sums). s.pdus) is, many))))

-- whether an item is an I-PDU
pub no_pdus : (items : List Item) → length (ids_of items) ≡ 0 → list_any is_pdu items ≡ false
no_pdus [] none = refl
no_pdus (x ∷ xs) none = by x.pdu refl (no_pdus xs)
  where
    by : (o : Option ℕ) → x.pdu ≡ o → (length (ids_of xs) ≡ 0 → list_any is_pdu xs ≡ false) → list_any is_pdu (x ∷ xs) ≡ false
    by None e ih = let rest : length (ids_of xs) ≡ 0 = rw e at none in rw e (ih rest)
    by (Some id) e ih = absurd (let wrong : suc (length (ids_of xs)) ≡ 0 = rw e at none in cc)

pub some_pdu : (items : List Item) → 1 ≤ length (ids_of items) → list_any is_pdu items ≡ true
some_pdu [] some = absurd (omega arith)
some_pdu (x ∷ xs) some = by x.pdu refl (some_pdu xs)
  where
    by : (o : Option ℕ) → x.pdu ≡ o → (1 ≤ length (ids_of xs) → list_any is_pdu xs ≡ true) → list_any is_pdu (x ∷ xs) ≡ true
    by None e ih = let rest : 1 ≤ length (ids_of xs) = rw e at some in rw e (ih rest)
    by (Some id) e ih = rw e refl

-- the bytes of items without and with I-PDUs
pub bytes_free : (items : List Item) → length (ids_of items) ≡ 0 → bytes_of_items items ≡ div_ceil (sum_by (λ item. item.bits) items) 8
bytes_free items none =
    ap (λ b. if b then length (ids_of items) * header_bytes (header_of_items items) + sum (map bytes_of_item items) else div_ceil (sum_by (λ item. item.bits) items) 8) (no_pdus items none)

pub bytes_pdus : (items : List Item) → 1 ≤ length (ids_of items) → bytes_of_items items ≡ length (ids_of items) * header_bytes (header_of_items items) + sum_by bytes_of_item items
bytes_pdus items some =
    ap (λ b. if b then length (ids_of items) * header_bytes (header_of_items items) + sum (map bytes_of_item items) else div_ceil (sum_by (λ item. item.bits) items) 8) (some_pdu items some)
    ∙ ap (λ n. length (ids_of items) * header_bytes (header_of_items items) + n) (sum-map bytes_of_item items)

header_bytes_le : (kind : Header) → header_bytes kind ≤ 8
header_bytes_le NoHeader = omega arith
header_bytes_le Short = omega arith
header_bytes_le Long = omega arith

-- the same by the sums
pub free_of_sums : (problem : Parts) (items : List Item) (sums : Sums) → AreSums problem items sums → sums.pdus ≡ 0 → div_ceil sums.bits 8 ≡ bytes_of_items items
free_of_sums problem items sums is none = ap (λ (s : Sums). div_ceil s.bits 8) is ∙ sym (bytes_free items (sym (ap (λ (s : Sums). s.pdus) is) ∙ none))

pub pdus_of_sums : (problem : Parts) (items : List Item) (sums : Sums) (header : ℕ) → AreSums problem items sums → 1 ≤ sums.pdus → header ≡ header_bytes (header_of_items items) → sums.pdus * header + sums.bytes ≡ bytes_of_items items
pdus_of_sums problem items sums header is some same =
    ap (λ (s : Sums). s.pdus * header + s.bytes) is ∙ ap (λ n. length (ids_of items) * n + sum_by bytes_of_item items) same
    ∙ sym (bytes_pdus items (omega (arith, some, ap (λ (s : Sums). s.pdus) is)))

-- small sums are of at most 10,000 bytes
pub bytes_of_small : (problem : Parts) (items : List Item) (sums : Sums) → AreSums problem items sums → IsSmall sums → bytes_of_items items ≤ 10000
bytes_of_small problem items sums is small = by (cases_lt 0 sums.pdus)
  where
    by : (0 < sums.pdus) ⊎ (sums.pdus ≤ 0) → bytes_of_items items ≤ 10000
    by (inl some) =
        let most : sums.pdus * header_bytes (header_of_items items) ≤ 128 * 8 = mul-le-mul small.pdus (header_bytes_le (header_of_items items)) in
        omega (arith, pdus_of_sums problem items sums (header_bytes (header_of_items items)) is some refl, small.bytes)
    by (inr none) = omega (arith, free_of_sums problem items sums is (omega (arith, none)), small.bits, div_ceil_times sums.bits 8 (omega arith))
