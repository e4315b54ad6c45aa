-- The grouping of items one each is legal, and so is its order by number.
use Rattle.std.proofs.Common.{◌≡◌, ℕ, ◌+◌, ◌<◌, ◌≤◌, ◌⊎◌, ◌||◌, false, if◌then◌else◌, is_some, Option, None, Some, List, [], ◌∷◌, length, take, cond, All, suc, zero, inl, inr, refl, sym, ap, subst, ◌∙◌, arith, eq-eqb, sum_by}
use Rattle.std.specs.List.{cons_option, range_with_len}
use Rattle.std.specs.Int.{div_ceil}
use Rattle.std.proofs.lemmas.Bool.{cases_eq, ne_eqb}
use Rattle.std.proofs.lemmas.Grind.{div_ceil_times}
use Rattle.std.proofs.lemmas.List.Elements.{All-head, All-tail}
use Rattle.std.proofs.lemmas.List.FromFn.{length-range_with_len, get_or-range_with_len}
use Rattle.std.proofs.lemmas.List.Sums.{sum_by-cons}
use Rattle.pack_model.specs.declared.item.Item.{Item}
use Rattle.pack_model.specs.Problem.{Parts, IsProblem}
use Rattle.class_frame.specs.Grouping.{classes_of, class_of, IsOrder}
use Rattle.class_frame.proofs.GroupingLaws.{class_of-cons}
use Rattle.pack_model.proofs.ItemFacts.{small_items}
use Rattle.container_pdu.specs.Bytes.{bytes_of_parts}
use Rattle.class_frame.specs.Legal.{ClassStands, IsLegal}
use Rattle.class_frame.specs.Frame.{bytes_of_item, bytes_of_items}
use Rattle.placed_matrix.proofs.InOrder.{count_here}

-- numbers in a row have as many classes as the last of them says
classes_of-row : (a n : ℕ) → classes_of (range_with_len a (suc n)) ≡ a + suc n
classes_of-row a zero = omega arith
classes_of-row a (suc n) = omega (arith, classes_of-row (a + 1) n)

-- so many from 0 on have so many classes
pub classes_of-range : (n : ℕ) → classes_of (range_with_len 0 n) ≡ n
classes_of-range zero = refl
classes_of-range (suc n) = omega (arith, classes_of-row 0 n)

-- the first of numbers in a row
take-range : (a n k : ℕ) → k ≤ n → take k (range_with_len a n) ≡ range_with_len a k
take-range a n zero le = refl
take-range a zero (suc k) le = absurd (omega arith)
take-range a (suc n) (suc k) le = ap (λ xs. a ∷ xs) (take-range (a + 1) n k (omega arith))

module _ {X : Type 0} where
  -- a label below those of all has no class
  none_before : (k a : ℕ) (xs : List X) → k < a → class_of k (range_with_len a (length xs)) xs ≡ []
  none_before k a [] lt = refl
  none_before k a (x ∷ xs) lt =
      class_of-cons k a (range_with_len (a + 1) (length xs)) x xs
      ∙ ap (λ b. cond b (x ∷ class_of k (range_with_len (a + 1) (length xs)) xs)
      (class_of k (range_with_len (a + 1) (length xs)) xs)) (ne_eqb a k (λ e. omega arith))
      ∙ none_before k (a + 1) xs (omega arith)

  -- a class of elements one each is empty or has one element
  alone : (P : X → Type 0) (k a : ℕ) (xs : List X) → All P xs
      → (class_of k (range_with_len a (length xs)) xs ≡ [])
      ⊎ ((x : X) × P x × (class_of k (range_with_len a (length xs)) xs ≡ x ∷ []))
  alone P k a [] all = inl refl
  alone P k a (x ∷ xs) all = by (cases_eq a k) (alone P k (a + 1) xs (All-tail P x xs all))
    where
      by : (a ≡ k) ⊎ (a ≡ k → ⊥)
          → (class_of k (range_with_len (a + 1) (length xs)) xs ≡ [])
          ⊎ ((y : X) × P y × (class_of k (range_with_len (a + 1) (length xs)) xs ≡ y ∷ []))
          → (class_of k (range_with_len a (length (x ∷ xs))) (x ∷ xs) ≡ [])
          ⊎ ((y : X) × P y × (class_of k (range_with_len a (length (x ∷ xs))) (x ∷ xs) ≡ y ∷ []))
      by (inl e) rest =
          inr (
            x,
            All-head P x xs all,
            class_of-cons k a (range_with_len (a + 1) (length xs)) x xs
                ∙ ap (λ b. cond b (x ∷ class_of k (range_with_len (a + 1) (length xs)) xs)
                (class_of k (range_with_len (a + 1) (length xs)) xs)) (eq-eqb a k e)
                ∙ ap (λ ys. x ∷ ys) (none_before k (a + 1) xs (omega arith)),
          )
      by (inr ne) (inl none) =
          inl (class_of-cons k a (range_with_len (a + 1) (length xs)) x xs
          ∙ ap (λ b. cond b (x ∷ class_of k (range_with_len (a + 1) (length xs)) xs)
          (class_of k (range_with_len (a + 1) (length xs)) xs)) (ne_eqb a k ne)
          ∙ none)
      by (inr ne) (inr (y, holds, one)) =
          inr (
            y,
            holds,
            class_of-cons k a (range_with_len (a + 1) (length xs)) x xs
                ∙ ap (λ b. cond b (x ∷ class_of k (range_with_len (a + 1) (length xs)) xs)
                (class_of k (range_with_len (a + 1) (length xs)) xs)) (ne_eqb a k ne)
                ∙ one,
          )

-- the bytes of one item
one_item_bytes : (item : Item) → item.bits ≤ 512 → bytes_of_items (item ∷ []) ≤ 64
one_item_bytes item few = by item.pdu
  where
    by : (o : Option ℕ) → (if is_some o || false
        then bytes_of_parts (cons_option o []) (bytes_of_item item ∷ [])
        else div_ceil (sum_by (λ (y : Item). y.bits) (item ∷ [])) 8) ≤ 64
    by None =
        omega (
          arith,
          sum_by-cons (λ (y : Item). y.bits) item [],
          div_ceil_times (sum_by (λ (y : Item). y.bits) (item ∷ [])) 8 (omega arith),
        )
    by (Some id) =
        omega (arith, sum_by-cons (λ x. x) (bytes_of_item item) [], div_ceil_times item.bits 8 (omega arith))

-- at most one item of at most 512 bits is a class that can become a frame
small_class : (items : List Item) → (items ≡ []) ⊎ ((item : Item) × (item.bits ≤ 512) × (items ≡ item ∷ []))
    → ClassStands items
small_class items (inl none) = subst ClassStands (sym none) (record {
  one_sender = λ i j d before lt. absurd (omega arith);
  one_kind = λ i j d before lt. absurd (omega arith);
  small = omega arith;
})
small_class items (inr (item, few, one)) = subst ClassStands (sym one) (record {
  one_sender = λ i j d before lt. absurd (omega arith);
  one_kind = λ i j d before lt. absurd (omega arith);
  small = one_item_bytes item few;
})

-- the grouping is legal
pub one_each_legal : (problem : Parts) → IsProblem problem
    → IsLegal problem.items (range_with_len 0 (length problem.items))
one_each_legal problem stands = record {
  grouping = record {
    each = length-range_with_len 0 (length problem.items);
    by_first_use = λ k lt.
        let within : k < length problem.items = simp length-range_with_len at lt in
        omega (
          arith,
          get_or-range_with_len 0 (length problem.items) k 0 within,
          ap classes_of (take-range 0 (length problem.items) k (omega arith)),
          classes_of-range k,
        );
  };
  classes =
      λ k. small_class (class_of k (range_with_len 0 (length problem.items)) problem.items)
      (alone (λ item. item.bits ≤ 512) k 0 problem.items (small_items problem stands));
}

-- and the order names each class once
pub one_each_order : (n : ℕ) → IsOrder (range_with_len 0 n) (range_with_len 0 n)
one_each_order n = record {
  once = λ label lt. count_here n label (omega (arith, lt, classes_of-range n));
  only = λ k d lt.
      let within : k < n = simp length-range_with_len at lt in
      omega (arith, get_or-range_with_len 0 n k d within, classes_of-range n);
}
