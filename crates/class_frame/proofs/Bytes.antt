-- Bytes never shrink as items join: a front of items takes at most the bytes of all.
use Rattle.std.proofs.Common.{◌≡◌, ℕ, ◌+◌, ◌*◌, ◌^◌, ◌<◌, ◌≤◌, ◌⊎◌, ◌&&◌, ◌||◌, Bool, true, false, if◌then◌else◌, List, [], ◌∷◌, ◌++◌, length, map, sum_by, nat_lt, inl, inr, refl, arith, length-append}
use Rattle.std.specs.List.{list_all, list_any}
use Rattle.std.specs.Int.{div_ceil}
use Rattle.std.proofs.lemmas.Bool.{cases_lt, lt-ltb, le-ltb}
use Rattle.std.proofs.lemmas.Grind.{div_ceil_times}
use Rattle.std.proofs.lemmas.List.Elements.{filter_map-append}
use Rattle.std.proofs.lemmas.List.Folds.{list_all-append}
use Rattle.std.proofs.lemmas.List.Sums.{sum_by-append, sum_by-cons, sum-map}
use Rattle.std.proofs.Math.Nat.{mul-le-mul}
use Rattle.pack_model.specs.declared.item.Item.{Item}
use Rattle.container_pdu.specs.declared.header.Header.TheVariants.{Short, Long}
use Rattle.container_pdu.specs.Bytes.{header_of, header_bytes, bytes_of_parts}
use Rattle.class_frame.specs.Frame.{ids_of, is_pdu, bytes_of_item, bytes_of_items}

-- a test of both lists and its part
short_too : (whole front rest : Bool) → whole ≡ (front && rest) → header_bytes (if front then Short else Long) ≤ header_bytes (if whole then Short else Long)
short_too true true rest e = omega arith
short_too true false rest e = absurd cc
short_too false true rest e = omega arith
short_too false false rest e = omega arith

-- all three cases of headers: none, then short, then long
pub header-front : (xs ys : List ℕ) → header_bytes (header_of xs) ≤ header_bytes (header_of (xs ++ ys))
header-front xs ys = by (cases_lt (length xs) 2)
  where
    short : List ℕ → Bool
    short ids = list_all (λ id. nat_lt id (2 ^ 24)) ids

    by : (length xs < 2) ⊎ (2 ≤ length xs) → header_bytes (header_of xs) ≤ header_bytes (header_of (xs ++ ys))
    by (inl lt) = rw (lt-ltb (length xs) 2 lt) (omega arith)
    by (inr le) =
        let more : 2 ≤ length (xs ++ ys) = omega (arith, length-append xs ys) in
        rw (le-ltb (length xs) 2 le, le-ltb (length (xs ++ ys)) 2 more)
        (short_too (list_all (λ id. nat_lt id (2 ^ 24)) (xs ++ ys)) (list_all (λ id. nat_lt id (2 ^ 24)) xs) (list_all (λ id. nat_lt id (2 ^ 24)) ys) (list_all-append (λ id. nat_lt id (2 ^ 24)) xs ys))

div_ceil-8 : (a : ℕ) → (a ≤ div_ceil a 8 * 8) × (div_ceil a 8 * 8 < a + 8)
div_ceil-8 a = div_ceil_times a 8 (omega arith)

div_ceil-rises : (a b : ℕ) → a ≤ b → div_ceil a 8 ≤ div_ceil b 8
div_ceil-rises a b le = omega (arith, div_ceil-8 a, div_ceil-8 b)

bits_within : (xs : List Item) → sum_by (λ item. item.bits) xs ≤ 8 * sum_by bytes_of_item xs
bits_within [] = omega arith
bits_within (x ∷ xs) = omega (arith, sum_by-cons (λ (item : Item). item.bits) x xs, sum_by-cons bytes_of_item x xs, bits_within xs, div_ceil-8 x.bits)

-- of free items together at most what they take alone
free_within : (xs : List Item) → div_ceil (sum_by (λ item. item.bits) xs) 8 ≤ sum_by bytes_of_item xs
free_within xs = omega (arith, bits_within xs, div_ceil-8 (sum_by (λ item. item.bits) xs))

parts-front : (xs ys : List Item) → bytes_of_parts (ids_of xs) (map bytes_of_item xs) ≤ bytes_of_parts (ids_of (xs ++ ys)) (map bytes_of_item (xs ++ ys))
parts-front xs ys =
    let ids : ids_of (xs ++ ys) ≡ ids_of xs ++ ids_of ys = filter_map-append (λ (item : Item). item.pdu) xs ys in
    let count : length (ids_of xs) ≤ length (ids_of (xs ++ ys)) = rw ids (omega (arith, length-append (ids_of xs) (ids_of ys))) in
    let header : header_bytes (header_of (ids_of xs)) ≤ header_bytes (header_of (ids_of (xs ++ ys))) = rw ids (header-front (ids_of xs) (ids_of ys)) in
    omega (arith, mul-le-mul count header, sum-map bytes_of_item xs, sum-map bytes_of_item (xs ++ ys), sum_by-append bytes_of_item xs ys)

alone-parts : (xs ys : List Item) → sum_by bytes_of_item xs ≤ bytes_of_parts (ids_of (xs ++ ys)) (map bytes_of_item (xs ++ ys))
alone-parts xs ys = omega (arith, sum-map bytes_of_item (xs ++ ys), sum_by-append bytes_of_item xs ys)

any-append : (p : Item → Bool) (xs ys : List Item) → list_any p xs ≡ true → list_any p (xs ++ ys) ≡ true
any-append p (x ∷ xs) ys e = by (p x) e (any-append p xs ys)
  where
    by : (b : Bool) → (b || list_any p xs) ≡ true → (list_any p xs ≡ true → list_any p (xs ++ ys) ≡ true) → (b || list_any p (xs ++ ys)) ≡ true
    by true e ih = refl
    by false e ih = ih e
any-append p [] ys e = absurd cc

-- bytes never shrink as items join
pub bytes-front : (xs ys : List Item) → bytes_of_items xs ≤ bytes_of_items (xs ++ ys)
bytes-front xs ys = by (list_any is_pdu xs) (list_any is_pdu (xs ++ ys)) (any-append is_pdu xs ys)
  where
    sums : List Item → ℕ
    sums items = div_ceil (sum_by (λ item. item.bits) items) 8

    by : (b c : Bool) → (b ≡ true → c ≡ true)
        → (if b then bytes_of_parts (ids_of xs) (map bytes_of_item xs) else div_ceil (sum_by (λ item. item.bits) xs) 8)
        ≤ (if c then bytes_of_parts (ids_of (xs ++ ys)) (map bytes_of_item (xs ++ ys)) else div_ceil (sum_by (λ item. item.bits) (xs ++ ys)) 8)
    by true true f = parts-front xs ys
    by true false f = absurd (let e : false ≡ true = f refl in cc)
    by false true f = omega (arith, free_within xs, alone-parts xs ys)
    by false false f = div_ceil-rises (sum_by (λ item. item.bits) xs) (sum_by (λ item. item.bits) (xs ++ ys)) (omega (arith, sum_by-append (λ (item : Item). item.bits) xs ys))
