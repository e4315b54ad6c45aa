-- Sums over the parts of a frame.
use Rattle.std.proofs.Common.{◌≡◌, ℕ, ◌+◌, ◌*◌, ◌^◌, ◌<◌, ◌≤◌, Bool, true, false, cond, List, [], ◌∷◌, length, get_or, map, filter, sum, sum_by, nat_lt, suc, zero, refl, sym, ap, ◌∙◌, arith, All, is_some, Option, None, Some, if◌then◌else◌}
use Rattle.std.specs.Int.{div_ceil}
use Rattle.std.specs.List.{list_all}
use Rattle.std.proofs.lemmas.Bool.{lt-ltb}
use Rattle.std.proofs.lemmas.List.Elements.{All-head, All-tail}
use Rattle.std.proofs.lemmas.List.Sums.{sum_by-cons, sum-map}
use Rattle.pack_model.specs.declared.item.Item.{Item}
use Rattle.container_pdu.specs.declared.header.Header.TheVariants.{NoHeader, Short, Long}
use Rattle.container_pdu.specs.Bytes.{header_bytes}
use Rattle.class_frame.specs.Frame.{ids_of, header_of_items, bytes_of_item, bytes_of_items}
use Rattle.class_frame.proofs.Headers.{some_pdu}

module _ {X : Type 0} (f : X → ℕ) where
  one_more : (p : X → Bool) (x : X) (xs : List X)
      → sum_by f (filter p (x ∷ xs)) ≡ cond (p x) (f x) 0 + sum_by f (filter p xs)
  one_more p x xs = by (p x)
    where
      by : (b : Bool) → sum_by f (cond b (x ∷ filter p xs) (filter p xs))
          ≡ cond b (f x) 0 + sum_by f (filter p xs)
      by true = sum_by-cons f x (filter p xs)
      by false = omega arith

  no_less : (b c : Bool) (n : ℕ) → (b ≡ true → c ≡ true) → cond b n 0 ≤ cond c n 0
  no_less false c n more = omega arith
  no_less true c n more = let is : cond c n 0 ≡ n = ap (λ b. cond b n 0) (more refl) in omega (arith, is)

  -- where more passes, the sum is no less
  sum_more : (p q : X → Bool) → ((x : X) → p x ≡ true → q x ≡ true) → (xs : List X)
      → sum_by f (filter p xs) ≤ sum_by f (filter q xs)
  sum_more p q more [] = omega arith
  sum_more p q more (x ∷ xs) =
      omega (
        arith,
        one_more p x xs,
        one_more q x xs,
        no_less (p x) (q x) (f x) (more x),
        sum_more p q more xs,
      )

  -- where one passes that did not, it is more by that one
  pub sum_with : (p q : X → Bool) → ((x : X) → p x ≡ true → q x ≡ true) → (xs : List X) (k : ℕ) (x : X)
      → k < length xs → get_or xs k x ≡ x → p x ≡ false → q x ≡ true
      → sum_by f (filter p xs) + f x ≤ sum_by f (filter q xs)
  sum_with p q more [] k x lt is not now = absurd (omega arith)
  sum_with p q more (y ∷ ys) zero x lt is not now =
      let without : cond (p y) (f y) 0 ≡ 0 = ap (λ b. cond b (f y) 0) (ap p is ∙ not) in
      let with_it : cond (q y) (f y) 0 ≡ f x = ap (λ b. cond b (f y) 0) (ap q is ∙ now) ∙ ap f is in
      omega (arith, one_more p y ys, one_more q y ys, without, with_it, sum_more p q more ys)
  sum_with p q more (y ∷ ys) (suc k) x lt is not now =
      omega (
        arith,
        one_more p y ys,
        one_more q y ys,
        no_less (p y) (q y) (f y) (more y),
        sum_with p q more ys k x (omega arith) is not now,
      )

  all_pass : (xs : List X) → filter (λ _. true) xs ≡ xs
  all_pass [] = refl
  all_pass (x ∷ xs) = ap (λ l. x ∷ l) (all_pass xs)

  pub sum_within : (p : X → Bool) (xs : List X) (k : ℕ) (x : X) → k < length xs → get_or xs k x ≡ x
      → p x ≡ false → sum_by f (filter p xs) + f x ≤ sum_by f xs
  sum_within p xs k x lt is not =
      omega (arith, sum_with p (λ _. true) (λ _ _. refl) xs k x lt is not refl, ap (sum_by f) (all_pass xs))

  -- a number more for each
  pub sum_plus : (n : ℕ) (xs : List X) → sum_by (λ x. n + f x) xs ≡ length xs * n + sum_by f xs
  sum_plus n [] = omega arith
  sum_plus n (x ∷ xs) = omega (arith, sum_by-cons (λ y. n + f y) x xs, sum_by-cons f x xs, sum_plus n xs)

-- free items have no ids
no_ids : (items : List Item) → All (λ item. is_some item.pdu ≡ false) items → length (ids_of items) ≡ 0
no_ids [] all = refl
no_ids (x ∷ xs) all =
    by x.pdu refl (no_ids xs (All-tail (λ (item : Item). is_some item.pdu ≡ false) x xs all))
  where
    by : (o : Option ℕ) → x.pdu ≡ o → length (ids_of xs) ≡ 0 → length (ids_of (x ∷ xs)) ≡ 0
    by None e ih = rw e ih
    by (Some id) e ih =
        absurd (let wrong : true ≡ false = sym (ap is_some e)
        ∙ All-head (λ (item : Item). is_some item.pdu ≡ false) x xs all in cc)

-- and no header
pub free_header : (items : List Item) → All (λ item. is_some item.pdu ≡ false) items
    → header_of_items items ≡ NoHeader
free_header items all =
    ap (λ b. if b then NoHeader
    else (if list_all (λ id. nat_lt id (2 ^ 24)) (ids_of items) then Short else Long))
    (lt-ltb (length (ids_of items)) 2 (omega (arith, no_ids items all)))

-- I-PDUs have one each
all_ids : (items : List Item) → All (λ item. is_some item.pdu ≡ true) items
    → length (ids_of items) ≡ length items
all_ids [] all = refl
all_ids (x ∷ xs) all =
    by x.pdu refl (all_ids xs (All-tail (λ (item : Item). is_some item.pdu ≡ true) x xs all))
  where
    by : (o : Option ℕ) → x.pdu ≡ o → length (ids_of xs) ≡ length xs
        → length (ids_of (x ∷ xs)) ≡ length (x ∷ xs)
    by None e ih =
        absurd (let wrong : false ≡ true = sym (ap is_some e)
        ∙ All-head (λ (item : Item). is_some item.pdu ≡ true) x xs all in cc)
    by (Some id) e ih = rw e (ap suc ih)

-- the bytes of I-PDUs are those of each with its header
pub pdu_bytes_sum : (items : List Item) → 1 ≤ length items → All (λ item. is_some item.pdu ≡ true) items
    → sum_by (λ item. header_bytes (header_of_items items) + bytes_of_item item) items ≡ bytes_of_items items
pdu_bytes_sum items some all =
    let count = all_ids items all in
    sum_plus bytes_of_item (header_bytes (header_of_items items)) items
    ∙ ap (λ n. n * header_bytes (header_of_items items) + sum_by bytes_of_item items) (sym count)
    ∙ ap (λ n. length (ids_of items) * header_bytes (header_of_items items) + n)
    (sym (sum-map bytes_of_item items))
    ∙ sym (ap (λ b. if b then length (ids_of items) * header_bytes (header_of_items items) + sum
    (map bytes_of_item items) else div_ceil (sum_by (λ item. item.bits) items) 8)
    (some_pdu items (omega (arith, some, count))))
