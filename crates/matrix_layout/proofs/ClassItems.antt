-- The elements of a class, and where in the list each of them stands.
use Rattle.std.proofs.Common.{◌≡◌, ℕ, ◌<◌, ◌⊎◌, Bool, cond, List, [], ◌∷◌, length, filter, take, get_or, nat_eq, suc, zero, inl, inr, refl, sym, ap, ◌∙◌, arith, eq-eqb}
use Rattle.std.proofs.lemmas.Bool.{cases_eq, ne_eqb}
use Rattle.class_frame.specs.Grouping.{class_of}
use Rattle.class_frame.proofs.GroupingLaws.{class_of-cons}

-- the element of a number in a class is one of the list, and those before it in the class are those of the
-- list before it
pub record IsFrom {X : Type 0} (label : ℕ) (labels : List ℕ) (xs : List X) (k : ℕ) : Type 0 where
  pub number : ℕ
  pub within : number < length xs
  pub labelled : get_or labels number 0 ≡ label
  pub same : (d : X) → get_or (class_of label labels xs) k d ≡ get_or xs number d
  pub before : take k (class_of label labels xs) ≡ class_of label (take number labels) (take number xs)

module _ {X : Type 0} where
  -- the class where the first element is none of it
  class_skips : (label l : ℕ) (ls : List ℕ) (x : X) (xs : List X) → (l ≡ label → ⊥)
      → class_of label (l ∷ ls) (x ∷ xs) ≡ class_of label ls xs
  class_skips label l ls x xs differ = class_of-cons label l ls x xs
      ∙ ap (λ b. cond b (x ∷ class_of label ls xs) (class_of label ls xs)) (ne_eqb l label differ)

  -- and where it is
  class_takes : (label l : ℕ) (ls : List ℕ) (x : X) (xs : List X) → l ≡ label
      → class_of label (l ∷ ls) (x ∷ xs) ≡ x ∷ class_of label ls xs
  class_takes label l ls x xs same = class_of-cons label l ls x xs
      ∙ ap (λ b. cond b (x ∷ class_of label ls xs) (class_of label ls xs)) (eq-eqb l label same)

  from_others : (label l : ℕ) (ls : List ℕ) (x : X) (xs : List X) (k : ℕ) → (l ≡ label → ⊥)
      → IsFrom label ls xs k → IsFrom label (l ∷ ls) (x ∷ xs) k
  from_others label l ls x xs k differ from = record {
    number = suc from.number;
    within = omega (arith, from.within);
    labelled = from.labelled;
    same = λ d. ap (λ ys. get_or ys k d) (class_skips label l ls x xs differ) ∙ from.same d;
    before = ap (take k) (class_skips label l ls x xs differ) ∙ from.before
        ∙ sym (class_skips label l (take from.number ls) x (take from.number xs) differ);
  }

  from_own : (label l : ℕ) (ls : List ℕ) (x : X) (xs : List X) (k : ℕ) → l ≡ label → IsFrom label ls xs k
      → IsFrom label (l ∷ ls) (x ∷ xs) (suc k)
  from_own label l ls x xs k same from = record {
    number = suc from.number;
    within = omega (arith, from.within);
    labelled = from.labelled;
    same = λ d. ap (λ ys. get_or ys (suc k) d) (class_takes label l ls x xs same) ∙ from.same d;
    before = ap (take (suc k)) (class_takes label l ls x xs same) ∙ ap (λ ys. x ∷ ys) from.before
        ∙ sym (class_takes label l (take from.number ls) x (take from.number xs) same);
  }

  from_first : (label l : ℕ) (ls : List ℕ) (x : X) (xs : List X) → l ≡ label
      → IsFrom label (l ∷ ls) (x ∷ xs) 0
  from_first label l ls x xs same = record {
    number = 0;
    within = omega arith;
    labelled = same;
    same = λ d. ap (λ ys. get_or ys 0 d) (class_takes label l ls x xs same);
    before = refl;
  }

  -- each element of a class is one of the list
  pub from_list : (label : ℕ) (labels : List ℕ) (xs : List X) (k : ℕ) → k < length (class_of label labels xs)
      → IsFrom label labels xs k
  from_list label [] xs k lt = absurd (omega arith)
  from_list label (l ∷ ls) [] k lt = absurd (omega arith)
  from_list label (l ∷ ls) (x ∷ xs) k lt = by (cases_eq l label) k lt (from_list label ls xs)
    where
      own : l ≡ label → (j : ℕ) → j < length (class_of label (l ∷ ls) (x ∷ xs))
          → ((i : ℕ) → i < length (class_of label ls xs) → IsFrom label ls xs i)
          → IsFrom label (l ∷ ls) (x ∷ xs) j
      own same zero below rest = from_first label l ls x xs same
      own same (suc i) below rest =
          from_own label l ls x xs i same
          (rest i (omega (arith, below, ap length (class_takes label l ls x xs same))))

      by : (l ≡ label) ⊎ (l ≡ label → ⊥) → (j : ℕ) → j < length (class_of label (l ∷ ls) (x ∷ xs))
          → ((i : ℕ) → i < length (class_of label ls xs) → IsFrom label ls xs i)
          → IsFrom label (l ∷ ls) (x ∷ xs) j
      by (inl same) j below rest = own same j below rest
      by (inr differ) j below rest =
          from_others label l ls x xs j differ
          (rest j (omega (arith, below, ap length (class_skips label l ls x xs differ))))

  -- what passes a test where the label is a number is the class of the number
  pub filter-class : (p : X → Bool) (label : ℕ) (labels : List ℕ) (xs : List X) → length labels ≡ length xs
      → ((i : ℕ) (d : X) → i < length xs → p (get_or xs i d) ≡ nat_eq (get_or labels i 0) label)
      → filter p xs ≡ class_of label labels xs
  filter-class p label [] [] same agree = refl
  filter-class p label [] (x ∷ xs) same agree = absurd (omega arith)
  filter-class p label (l ∷ ls) [] same agree = absurd (omega arith)
  filter-class p label (l ∷ ls) (x ∷ xs) same agree =
      ap (λ b. cond b (x ∷ filter p xs) (filter p xs)) (agree 0 x (omega arith))
      ∙ ap (λ ys. cond (nat_eq l label) (x ∷ ys) ys)
      (filter-class p label ls xs (omega arith) (λ i d lt. agree (suc i) d (omega arith)))
      ∙ sym (class_of-cons label l ls x xs)
