-- A sum over the classes of a grouping after one more label, and how large the load is.
use Rattle.std.proofs.Common.{◌≡◌, ℕ, zero, suc, ◌+◌, ◌*◌, ◌/◌, ◌<◌, ◌≤◌, ◌⊎◌, inl, inr, max, List, [], ◌∷◌, ◌++◌, sum_by, refl, sym, ap, ◌∙◌, arith}
use Rattle.std.specs.List.{range_with_len}
use Rattle.std.proofs.Math.Nat.{div-le_self, div-zero, mul-le-mul}
use Rattle.std.proofs.lemmas.Bool.{cases_eq, cases_lt, ne_eqb}
use Rattle.std.proofs.lemmas.List.Sums.{sum_by-cons}
use Rattle.pack_model.specs.declared.item.Item.{Item}
use Rattle.pack_model.specs.Problem.{Parts, IsProblem}
use Rattle.pack_model.proofs.Laws.{tests}
use Rattle.class_frame.specs.Classes.{load_of}
use Rattle.class_frame.specs.Frame.{load_of_items, period_of_items, ticks_of_items}
use Rattle.class_frame.specs.Grouping.{class_of, classes_of}
use Rattle.class_frame.specs.Laws.{HasSignal}
use Rattle.class_frame.proofs.GroupingLaws.{classes_of-push}
use Rattle.class_frame.proofs.Ranges.{frame_in_range}
use Rattle.grouping_tree.specs.Slack.{over_classes}
use Rattle.grouping_tree.proofs.Classes.{class-stays}
use Rattle.grouping_tree.proofs.Puts.{class-unused}

-- sums of equal numbers
sum_same : (f g : ℕ → ℕ) (a n : ℕ) → ((k : ℕ) → a ≤ k → k < a + n → f k ≡ g k) → sum_by f (range_with_len a n) ≡ sum_by g (range_with_len a n)
sum_same f g a zero same = refl
sum_same f g a (suc n) same =
    omega (arith, sum_by-cons f a (range_with_len (a + 1) n), sum_by-cons g a (range_with_len (a + 1) n), same a (omega arith) (omega arith), sum_same f g (a + 1) n (λ k le lt. same k (omega (arith, le)) (omega (arith, lt))))

-- sums of numbers that are equal but for one
sum_moved : (f g : ℕ → ℕ) (l a n : ℕ) → a ≤ l → l < a + n → ((k : ℕ) → (k ≡ l → ⊥) → f k ≡ g k) → sum_by g (range_with_len a n) + f l ≡ sum_by f (range_with_len a n) + g l
sum_moved f g l a zero le lt same = absurd (omega arith)
sum_moved f g l a (suc n) le lt same = by (cases_eq a l) (sum_moved f g l (a + 1) n)
  where
    by : (a ≡ l) ⊎ (a ≡ l → ⊥) → (a + 1 ≤ l → l < a + 1 + n → ((k : ℕ) → (k ≡ l → ⊥) → f k ≡ g k) → sum_by g (range_with_len (a + 1) n) + f l ≡ sum_by f (range_with_len (a + 1) n) + g l)
        → sum_by g (range_with_len a (suc n)) + f l ≡ sum_by f (range_with_len a (suc n)) + g l
    by (inl e) ih =
        omega (
          arith,
          sum_by-cons f a (range_with_len (a + 1) n),
          sum_by-cons g a (range_with_len (a + 1) n),
          ap f e,
          ap g e,
          sum_same f g (a + 1) n (λ k le lt. same k (λ i. omega (arith, le, i, e))),
        )
    by (inr ne) ih =
        omega (arith, sum_by-cons f a (range_with_len (a + 1) n), sum_by-cons g a (range_with_len (a + 1) n), same a ne, ih (omega (arith, le, ne)) (omega (arith, lt)) same)

-- one number more
sum_end : (f : ℕ → ℕ) (a n : ℕ) → sum_by f (range_with_len a (suc n)) ≡ sum_by f (range_with_len a n) + f (a + n)
sum_end f a zero = omega (arith, sum_by-cons f a [], ap f (let e : a + 0 ≡ a = omega arith in e))
sum_end f a (suc n) =
    omega (arith, sum_by-cons f a (range_with_len (a + 1) (suc n)), sum_by-cons f a (range_with_len (a + 1) n), sum_end f (a + 1) n, ap f (let e : a + 1 + n ≡ a + suc n = omega arith in e))

-- each is at most the sum
sum_has : (f : ℕ → ℕ) (l a n : ℕ) → a ≤ l → l < a + n → f l ≤ sum_by f (range_with_len a n)
sum_has f l a zero le lt = absurd (omega arith)
sum_has f l a (suc n) le lt = by (cases_eq a l) (sum_has f l (a + 1) n)
  where
    by : (a ≡ l) ⊎ (a ≡ l → ⊥) → (a + 1 ≤ l → l < a + 1 + n → f l ≤ sum_by f (range_with_len (a + 1) n)) → f l ≤ sum_by f (range_with_len a (suc n))
    by (inl e) ih = omega (arith, sum_by-cons f a (range_with_len (a + 1) n), ap f e)
    by (inr ne) ih = omega (arith, sum_by-cons f a (range_with_len (a + 1) n), ih (omega (arith, le, ne)) (omega (arith, lt)))

-- and the sum at most the greatest times as many
pub sum_most : (f : ℕ → ℕ) (most a n : ℕ) → ((k : ℕ) → a ≤ k → k < a + n → f k ≤ most) → sum_by f (range_with_len a n) ≤ most * n
sum_most f most a zero each = omega arith
sum_most f most a (suc n) each =
    omega (arith, sum_by-cons f a (range_with_len (a + 1) n), each a (omega arith) (omega arith), sum_most f most (a + 1) n (λ k le lt. each k (omega (arith, le)) (omega (arith, lt))))

-- what a figure of a class was before and is with one item more makes its sum over the classes
pub over_put : (figure : List Item → ℕ) → figure [] ≡ 0 → (range : List Item) (p : List ℕ) (l : ℕ) → l ≤ classes_of p
    → (over_classes figure range (p ++ l ∷ []) + figure (class_of l p range) ≡ over_classes figure range p + figure (class_of l (p ++ l ∷ []) range))
    × (figure (class_of l p range) ≤ over_classes figure range p)
over_put figure zero_is range p l low = by (cases_lt l (classes_of p))
  where
    by : (l < classes_of p) ⊎ (classes_of p ≤ l)
        → (over_classes figure range (p ++ l ∷ []) + figure (class_of l p range) ≡ over_classes figure range p + figure (class_of l (p ++ l ∷ []) range))
        × (figure (class_of l p range) ≤ over_classes figure range p)
    by (inl lt) =
        let F = λ (k : ℕ). figure (class_of k p range) in
        let G = λ (k : ℕ). figure (class_of k (p ++ l ∷ []) range) in
        let same = λ (k : ℕ) (ne : k ≡ l → ⊥). ap figure (sym (class-stays k p l range (ne_eqb l k (λ e. ne (sym e))))) in
        let n : classes_of (p ++ l ∷ []) ≡ classes_of p = classes_of-push p l ∙ (let m : max (classes_of p) (l + 1) ≡ classes_of p = omega arith in m) in
        let all : over_classes figure range (p ++ l ∷ []) ≡ sum_by G (range_with_len 0 (classes_of p)) = ap (λ m. sum_by G (range_with_len 0 m)) n in
        (omega (arith, all, sum_moved F G l 0 (classes_of p) (omega arith) (omega arith) same), sum_has F l 0 (classes_of p) (omega arith) (omega arith))
    by (inr le) =
        let F = λ (k : ℕ). figure (class_of k p range) in
        let G = λ (k : ℕ). figure (class_of k (p ++ l ∷ []) range) in
        let same = λ (k : ℕ) (ne : k ≡ l → ⊥). ap figure (sym (class-stays k p l range (ne_eqb l k (λ e. ne (sym e))))) in
        let here : l ≡ classes_of p = omega (arith, le, low) in
        let none : figure (class_of l p range) ≡ 0 = ap figure (class-unused p range l (omega (arith, here))) ∙ zero_is in
        let n : classes_of (p ++ l ∷ []) ≡ suc (classes_of p) = classes_of-push p l ∙ (let m : max (classes_of p) (l + 1) ≡ suc (classes_of p) = omega (arith, here) in m) in
        let all : over_classes figure range (p ++ l ∷ []) ≡ sum_by G (range_with_len 0 (suc (classes_of p))) = ap (λ m. sum_by G (range_with_len 0 m)) n in
        let before = sum_same F G 0 (classes_of p) (λ k low lt. same k (λ e. omega (arith, e, here, lt))) in
        let last : G (0 + classes_of p) ≡ figure (class_of l (p ++ l ∷ []) range) = ap G (let e : 0 + classes_of p ≡ l = omega (arith, here) in e) in
        (omega (arith, all, none, sum_end G 0 (classes_of p), before, last), omega (arith, none))

-- no items are sent no times in a common period
pub no_share : (problem : Parts) → problem.hyper / period_of_items problem [] ≡ 0
no_share problem =
    let none : period_of_items problem [] ≡ 0 = omega arith in
    ap (λ n. problem.hyper / n) none ∙ div-zero problem.hyper

-- and have no load
pub no_load : (problem : Parts) → load_of_items problem [] ≡ 0
no_load problem = ap (λ n. ticks_of_items problem [] * n) (no_share problem) ∙ (let none : ticks_of_items problem [] * 0 ≡ 0 = omega arith in none)

-- the load of a class of some signals is at most 10^23
pub load_low : (problem : Parts) (items : List Item) → IsProblem problem → HasSignal problem items → load_of_items problem items ≤ 100000000000000000000000
load_low problem items stands some =
    let range = frame_in_range problem items stands some in
    let share : problem.hyper / period_of_items problem items ≤ 1000000000000000 = omega (arith, div-le_self problem.hyper (period_of_items problem items), (tests problem stands).hyper_high) in
    mul-le-mul range.ticks share

-- and that of as many classes at most as often so much
pub loads_low : (problem : Parts) (range : List Item) (labels : List ℕ) → IsProblem problem → ((k : ℕ) → k < classes_of labels → HasSignal problem (class_of k labels range)) → load_of problem range labels ≤ 100000000000000000000000 * classes_of labels
loads_low problem range labels stands each =
    sum_most (λ k. load_of_items problem (class_of k labels range)) 100000000000000000000000 0 (classes_of labels) (λ k le lt. load_low problem (class_of k labels range) stands (each k (omega (arith, lt))))
