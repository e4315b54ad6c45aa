-- What is left after so many items placed, by what is left after one more.
use Rattle.std.proofs.Common.{◌≡◌, ℕ, zero, suc, ◌+◌, ◌-◌, ◌<◌, ◌≤◌, ◌^◌, ◌⊎◌, inl, inr, List, [], ◌∷◌, ◌++◌, length, take, drop, max, min, nat_eq, sum_by, Option, None, Some, All, IsTrue, ◌↔◌, get_or, set, slice_index_or, refl, sym, ap, subst, ◌∙◌, arith, take-append-drop, append-nil}
use Rattle.std.specs.List.{range_with_len}
use Rattle.std.proofs.lemmas.Bool.{cases_eq, eq-eqb, eqb-true, ne_eqb}
use Rattle.std.proofs.lemmas.Grind.{get_or-set_at}
use Rattle.std.proofs.lemmas.List.{drop_all, drop_more, get_or-set_other, get_or_default, take_all, take_more}
use Rattle.std.proofs.lemmas.List.Elements.{filter-append}
use Rattle.std.proofs.lemmas.Option.{same_Some}
use Rattle.std.proofs.lemmas.List.Sums.{sum_by-cons}
use Rattle.pack_model.specs.declared.item.Item.{Item}
use Rattle.pack_model.specs.Problem.{Parts, sent_by}
use Rattle.grouping_tree.specs.Slack.{last_sender}
use Rattle.grouping_tree.proofs.Senders.{Rises}
use Rattle.bandwidth_bound.specs.Floors.{IsRest, prices_left}
use Rattle.bandwidth_bound.specs.Prices.{floor8_of, later8_of, next_sender, price_of, prices_of}
use Rattle.bandwidth_bound.specs.declared.floors.Rest.{Rest}
use Rattle.bandwidth_bound.proofs.PriceItems.{placed_before, sent_none, sum_none}

-- the sender in work

-- the last of some items
pub last-push : (xs : List Item) (y : Item) → last_sender (xs ++ y ∷ []) ≡ Some y.sender
last-push [] y = refl
last-push (x ∷ []) y = refl
last-push (x ∷ z ∷ xs) y = last-push (z ∷ xs) y

-- in items that rise it is at most the next, which the later ones rise from
last_low : (low : ℕ) (xs : List Item) (y : Item) (ys : List Item) → Rises low (xs ++ y ∷ ys)
    → (next_sender (last_sender xs) ≤ y.sender + 1) × Rises y.sender ys
last_low low [] y ys up = (omega arith, up.1)
last_low low (x ∷ []) y ys up = (let first : x.sender ≤ y.sender = up.1.0 in omega (arith, first), up.1.1)
last_low low (x ∷ z ∷ xs) y ys up = last_low x.sender (z ∷ xs) y ys up.1

-- items up to the sender in work have none of a later one
are_low : (low t : ℕ) (xs ys : List Item) → Rises low (xs ++ ys) → next_sender (last_sender xs) ≤ t
    → sent_by xs t ≡ []
are_low low t xs ys up le = sent_none (next_sender (last_sender xs)) t xs (placed_before low xs ys up) le

-- and items that rise from a number have none of a lower sender
none_lower : (low t : ℕ) (ys : List Item) → t < low → Rises low ys → sent_by ys t ≡ []
none_lower low t [] lt up = refl
none_lower low t (y ∷ ys) lt up =
    let first : low ≤ y.sender = up.0 in
    rw (ne_eqb y.sender t (λ e. omega (arith, e, lt, first)))
    (none_lower y.sender t ys (omega (arith, lt, first)) up.1)

-- sums over senders

-- a sum from a number on, where only the last of the first few counts
sum_from : (f : ℕ → ℕ) (a m n : ℕ) → ((k : ℕ) → a ≤ k → k < a + m → f k ≡ 0)
    → sum_by f (range_with_len a (m + suc n)) ≡ f (a + m) + sum_by f (range_with_len (a + m + 1) n)
sum_from f a zero n each =
    let here : a + 0 ≡ a = omega arith in
    let long : 0 + suc n ≡ suc n = omega arith in
    ap (λ k. sum_by f (range_with_len a k)) long
    ∙ omega (
      arith,
      sum_by-cons f a (range_with_len (a + 1) n),
      ap f here,
      ap (λ k. sum_by f (range_with_len (k + 1) n)) here,
    )
sum_from f a (suc m) n each =
    let here : a + 1 + m ≡ a + suc m = omega arith in
    let long : suc m + suc n ≡ suc (m + suc n) = omega arith in
    let rest = sum_from f (a + 1) m n (λ k low high. each k (omega (arith, low)) (omega (arith, high))) in
    ap (λ k. sum_by f (range_with_len a k)) long
    ∙ omega (
      arith,
      sum_by-cons f a (range_with_len (a + 1) (m + suc n)),
      each a (omega arith) (omega arith),
      rest,
      ap f here,
      ap (λ k. sum_by f (range_with_len (k + 1) n)) here,
    )

module _ (problem : Parts) (values : List ℕ) where
  -- the items of the first sender that is left are all left
  first_left : (xs : List Item) (y : Item) (ys : List Item) → Rises 0 (xs ++ y ∷ ys)
      → next_sender (last_sender xs) ≤ y.sender
      → sent_by (xs ++ y ∷ ys) y.sender ≡ y ∷ sent_by ys y.sender
  first_left xs y ys up le =
      filter-append (λ (item : Item). nat_eq item.sender y.sender) xs (y ∷ ys)
      ∙ rw (are_low 0 y.sender xs (y ∷ ys) up le, eq-eqb y.sender y.sender refl) refl

  -- the senders before it have none
  none_between : (xs : List Item) (y : Item) (ys : List Item) → Rises 0 (xs ++ y ∷ ys) → (t : ℕ)
      → next_sender (last_sender xs) ≤ t → t < y.sender → sent_by (xs ++ y ∷ ys) t ≡ []
  none_between xs y ys up t le lt =
      let same : y.sender ≤ y.sender = omega arith in
      filter-append (λ (item : Item). nat_eq item.sender t) xs (y ∷ ys)
      ∙ rw (are_low 0 t xs (y ∷ ys) up le)
      (none_lower y.sender t (y ∷ ys) lt (same, (last_low 0 xs y ys up).1))

  -- what later senders cost is the floor of the first of them, and what those after it cost
  later_first : (xs : List Item) (y : Item) (ys : List Item) → Rises 0 (xs ++ y ∷ ys)
      → next_sender (last_sender xs) ≤ y.sender → y.sender < length problem.senders
      → later8_of problem values (xs ++ y ∷ ys) (next_sender (last_sender xs))
      ≡ max (prices_of problem (y ∷ sent_by ys y.sender)) (slice_index_or values y.sender 0)
      + later8_of problem values (xs ++ y ∷ ys) (y.sender + 1)
  later_first xs y ys up le known =
      let a : ℕ = next_sender (last_sender xs) in
      let s : ℕ = y.sender in
      let m : ℕ = s - a in
      let n : ℕ = length problem.senders - (s + 1) in
      let f : ℕ → ℕ = λ t. floor8_of problem values (sent_by (xs ++ y ∷ ys) t) in
      let long : length problem.senders - a ≡ m + suc n = omega (arith, le, known) in
      let here : a + m ≡ s = omega (arith, le) in
      let floor : f s ≡ max (prices_of problem (y ∷ sent_by ys s)) (slice_index_or values s 0) =
      ap (floor8_of problem values) (first_left xs y ys up le) in
      let all = sum_from f a m n
      (λ t low high. ap (floor8_of problem values)
      (none_between xs y ys up t low (omega (arith, high, here)))) in
      ap (λ k. sum_by f (range_with_len a k)) long ∙ all
      ∙ ap (λ t. f t + sum_by f (range_with_len (t + 1) n)) here
      ∙ ap (λ k. k + sum_by f (range_with_len (s + 1) n)) floor

  -- where all items are placed nothing is left
  pub none_left : (items : List Item) → Rises 0 items
      → IsRest problem values items (length items) (record { left = 0; later = 0 })
  none_left items up =
      let all : take (length items) items ≡ items = take_all (length items) items (omega arith) in
      let none : drop (length items) items ≡ [] = drop_all (length items) items (omega arith) in
      let a : ℕ = next_sender (last_sender items) in
      let same : items ++ [] ≡ items = append-nil items in
      let zeros : later8_of problem values items a ≡ 0 =
      sum_none (λ t. floor8_of problem values (sent_by items t)) a a (length problem.senders - a) (omega arith)
      (λ t low. ap (floor8_of problem values) (are_low 0 t items [] (subst (Rises 0) (sym same) up) low)) in
      record {
        left = sym (ap (λ zs. prices_left problem zs (last_sender (take (length items) items))) none
            ∙ no_prices (last_sender (take (length items) items)));
        later = sym (ap (λ zs. min (later8_of problem values items (next_sender (last_sender zs)))
            (2 ^ 128 - 1)) all ∙ omega (arith, zeros));
      }
    where
      no_prices : (o : Option ℕ) → prices_left problem [] o ≡ 0
      no_prices None = refl
      no_prices (Some s) = refl

  module _ (items : List Item) (up : Rises 0 items)
      (low : All (λ item. item.sender < length problem.senders) items) (place : ℕ) (item : Item)
      (below : place < length items) (at : item ≡ get_or items place item) where
    more : take (place + 1) items ≡ take place items ++ item ∷ []
    more = take_more items place item below ∙ ap (λ x. take place items ++ x ∷ []) (sym at)

    fewer : drop place items ≡ item ∷ drop (place + 1) items
    fewer = drop_more items place item below ∙ ap (λ x. x ∷ drop (place + 1) items) (sym at)

    whole : take place items ++ item ∷ drop (place + 1) items ≡ items
    whole = ap (λ zs. take place items ++ zs) (sym fewer) ∙ take-append-drop place items

    rises : Rises 0 (take place items ++ item ∷ drop (place + 1) items)
    rises = subst (Rises 0) (sym whole) up

    last : last_sender (take (place + 1) items) ≡ Some item.sender
    last = ap last_sender more ∙ last-push (take place items) item

    -- what is left of the item's sender
    module _ (next : Rest) (is : IsRest problem values items (place + 1) next) where
      pub left_with : next.left + price_of problem item
          ≡ prices_of problem (sent_by (drop place items) item.sender)
      left_with =
          let next_left : next.left ≡ prices_of problem (sent_by (drop (place + 1) items) item.sender) =
          is.left ∙ ap (prices_left problem (drop (place + 1) items)) last in
          let here : sent_by (drop place items) item.sender
          ≡ item ∷ sent_by (drop (place + 1) items) item.sender =
          ap (λ zs. sent_by zs item.sender) fewer ∙ rw (eq-eqb item.sender item.sender refl) refl in
          omega (
            arith,
            next_left,
            ap (prices_of problem) here,
            sum_by-cons (price_of problem) item (sent_by (drop (place + 1) items) item.sender),
          )

      next_later : next.later ≡ min (later8_of problem values items (item.sender + 1)) (2 ^ 128 - 1)
      next_later =
          is.later ∙ ap (λ o. min (later8_of problem values items (next_sender o)) (2 ^ 128 - 1)) last

      -- where the item's sender is in work
      pub in_work : (left : ℕ) → left ≡ next.left + price_of problem item
          → last_sender (take place items) ≡ Some item.sender
          → IsRest problem values items place (record { left = left; later = next.later })
      in_work left e same = record {
        left = e ∙ left_with ∙ ap (prices_left problem (drop place items)) (sym same);
        later = next_later
            ∙ ap (λ o. min (later8_of problem values items (next_sender o)) (2 ^ 128 - 1)) (sym same);
      }

      -- where the item is its sender's first
      module _ (other : last_sender (take place items) ≡ Some item.sender → ⊥) where
        lower : (o : Option ℕ) → last_sender (take place items) ≡ o → next_sender o ≤ item.sender
        lower None e = omega arith
        lower (Some s) e =
            let most = last_low 0 (take place items) item (drop (place + 1) items) rises in
            let ne : s ≡ item.sender → ⊥ = λ same. other (e ∙ ap Some same) in
            omega (arith, most.0, ap next_sender e, ne)

        none_of_last : (o : Option ℕ) → last_sender (take place items) ≡ o
            → prices_left problem (drop place items) o ≡ 0
        none_of_last None e = refl
        none_of_last (Some s) e =
            let same : item.sender ≤ item.sender = omega arith in
            let rest = (last_low 0 (take place items) item (drop (place + 1) items) rises).1 in
            let less : s < item.sender = omega (arith, lower (Some s) e) in
            ap (λ zs. prices_of problem (sent_by zs s)) fewer
            ∙ ap (prices_of problem)
            (none_lower item.sender s (item ∷ drop (place + 1) items) less (same, rest))

        later_is : later8_of problem values items (next_sender (last_sender (take place items)))
            ≡ max (prices_of problem (item ∷ sent_by (drop (place + 1) items) item.sender))
            (slice_index_or values item.sender 0)
            + later8_of problem values items (item.sender + 1)
        later_is =
            let known : item.sender < length problem.senders =
            subst (λ (x : Item). x.sender < length problem.senders) (sym at) (low place item below) in
            let first = later_first (take place items) item (drop (place + 1) items) rises
            (lower (last_sender (take place items)) refl) known in
            ap (λ zs. later8_of problem values zs (next_sender (last_sender (take place items)))) (sym whole)
            ∙ first
            ∙ ap (λ zs. max (prices_of problem (item ∷ sent_by (drop (place + 1) items) item.sender))
            (slice_index_or values item.sender 0)
            + later8_of problem values zs (item.sender + 1)) whole

        pub is_first : (left floor later : ℕ) → left ≡ next.left + price_of problem item
            → floor ≡ max left (slice_index_or values item.sender 0)
            → later ≡ min (next.later + floor) (2 ^ 128 - 1)
            → IsRest problem values items place (record { left = 0; later = later })
        is_first left floor later e f g = record {
          left = sym (none_of_last (last_sender (take place items)) refl);
          later = g ∙ capped next.later left floor (slice_index_or values item.sender 0)
              (prices_of problem (item ∷ sent_by (drop (place + 1) items) item.sender))
              (later8_of problem values items (item.sender + 1))
              (later8_of problem values items (next_sender (last_sender (take place items))))
              next_later (e ∙ left_with ∙ here) f later_is;
        }
          where
            here : prices_of problem (sent_by (drop place items) item.sender)
                ≡ prices_of problem (item ∷ sent_by (drop (place + 1) items) item.sender)
            here =
                ap (λ zs. prices_of problem (sent_by zs item.sender)) fewer
                ∙ rw (eq-eqb item.sender item.sender refl) refl

            capped : (later left floor value prices after all : ℕ) → later ≡ min after (2 ^ 128 - 1)
                → left ≡ prices → floor ≡ max left value → all ≡ max prices value + after
                → min (later + floor) (2 ^ 128 - 1) ≡ min all (2 ^ 128 - 1)
            capped later left floor value prices after all a b c d = omega arith

-- whether the item at a place is of the sender in work
pub in_work_is : (items : List Item) (place : ℕ) (before here d : Item) → 0 < place → place < length items
    → IsTrue (nat_eq (get_or items (place - 1) before).sender (get_or items place here).sender)
    ↔ (last_sender (take place items) ≡ Some (get_or items place d).sender)
in_work_is items place before here d some below = (
  λ t. last ∙ ap Some (eqb-true (get_or items (place - 1) before).sender (get_or items place here).sender t
      ∙ ap (λ (x : Item). x.sender) same),
  λ e. eq-eqb (get_or items (place - 1) before).sender (get_or items place here).sender
      (same_Some (get_or items (place - 1) before).sender (get_or items place d).sender (sym last ∙ e)
      ∙ ap (λ (x : Item). x.sender) (sym same)),
)
  where
    same : get_or items place here ≡ get_or items place d
    same = get_or_default items place here d below

    last : last_sender (take place items) ≡ Some (get_or items (place - 1) before).sender
    last =
        let e : place ≡ place - 1 + 1 = omega arith in
        let lt : place - 1 < length items = omega arith in
        ap (λ n. last_sender (take n items)) e
        ∙ ap last_sender (take_more items (place - 1) before lt)
        ∙ last-push (take (place - 1) items) (get_or items (place - 1) before)

-- the table with one entry more
pub filled_more : (problem : Parts) (values : List ℕ) (items : List Item) (xs : List Rest) (place : ℕ)
    (rest : Rest) → place < length xs → IsRest problem values items place rest
    → ((placed : ℕ) (d : Rest) → place + 1 ≤ placed → placed ≤ length items
    → IsRest problem values items placed (get_or xs placed d))
    → (placed : ℕ) (d : Rest) → place ≤ placed → placed ≤ length items
    → IsRest problem values items placed (get_or (set xs place rest) placed d)
filled_more problem values items xs place rest below is before placed d low high = by (cases_eq placed place)
  where
    by : (placed ≡ place) ⊎ (placed ≡ place → ⊥)
        → IsRest problem values items placed (get_or (set xs place rest) placed d)
    by (inl same) =
        subst (λ r. IsRest problem values items placed r) (sym (get_or-set_at xs place placed rest d same below))
        (subst (λ k. IsRest problem values items k rest) (sym same) is)
    by (inr ne) =
        subst (λ r. IsRest problem values items placed r) (sym (get_or-set_other xs place placed rest d ne))
        (before placed d (omega (arith, ne, low)) high)
