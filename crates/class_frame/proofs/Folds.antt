-- The least and the greatest of some numbers.
use Rattle.std.proofs.Common.{◌≡◌, ℕ, ◌<◌, ◌≤◌, ◌⊎◌, inl, inr, zero, suc, List, [], ◌∷◌, ◌++◌, length, map, fold, min, max, get_or, All, refl, sym, ap, subst, ◌∙◌, arith}
use Rattle.std.specs.Prelude.{AllPairs}
use Rattle.std.proofs.lemmas.Bool.{cases_lt}
use Rattle.std.proofs.lemmas.List.{map-append}
use Rattle.std.proofs.lemmas.List.Elements.{All-head, All-tail}
use Rattle.std.proofs.lemmas.List.Sums.{fold-append}
use Rattle.class_frame.specs.Frame.{least, greatest}
use Rattle.class_frame.specs.Sums.{top}

-- the least is no more than where it starts
least_below : (a : ℕ) (xs : List ℕ) → fold min a xs ≤ a
least_below a [] = omega arith
least_below a (x ∷ xs) = omega (arith, least_below (min a x) xs)

-- and the greatest no less
greatest_above : (a : ℕ) (xs : List ℕ) → a ≤ fold max a xs
greatest_above a [] = omega arith
greatest_above a (x ∷ xs) = omega (arith, greatest_above (max a x) xs)

-- the least from the less of two numbers
least_join : (a b : ℕ) (xs : List ℕ) → fold min (min a b) xs ≡ min a (fold min b xs)
least_join a b [] = refl
least_join a b (x ∷ xs) =
    let assoc : min (min a b) x ≡ min a (min b x) = omega arith in
    ap (λ m. fold min m xs) assoc ∙ least_join a (min b x) xs

-- the least of two lists
pub least-append : {X : Type 0} (f : X → ℕ) (a : ℕ) (xs ys : List X) → fold min a (map f (xs ++ ys)) ≡ min (fold min a (map f xs)) (fold min a (map f ys))
least-append f a xs ys =
    let low = least_below a (map f xs) in
    let same : fold min a (map f xs) ≡ min (fold min a (map f xs)) a = omega arith in
    ap (fold min a) (map-append f xs ys) ∙ fold-append min a (map f xs) (map f ys) ∙ ap (λ m. fold min m (map f ys)) same ∙ least_join (fold min a (map f xs)) a (map f ys)

-- the greatest from the greater of two numbers
greatest_join : (a b : ℕ) (xs : List ℕ) → fold max (max a b) xs ≡ max a (fold max b xs)
greatest_join a b [] = refl
greatest_join a b (x ∷ xs) =
    let assoc : max (max a b) x ≡ max a (max b x) = omega arith in
    ap (λ m. fold max m xs) assoc ∙ greatest_join a (max b x) xs

-- the greatest of two lists
pub greatest-append : {X : Type 0} (f : X → ℕ) (xs ys : List X) → fold max 0 (map f (xs ++ ys)) ≡ max (fold max 0 (map f xs)) (fold max 0 (map f ys))
greatest-append f xs ys =
    let same : fold max 0 (map f xs) ≡ max (fold max 0 (map f xs)) 0 = omega arith in
    ap (fold max 0) (map-append f xs ys) ∙ fold-append max 0 (map f xs) (map f ys) ∙ ap (λ m. fold max m (map f ys)) same ∙ greatest_join (fold max 0 (map f xs)) 0 (map f ys)

-- the least of more numbers is no more
pub least_more : (xs ys : List ℕ) → 1 ≤ length xs → least (xs ++ ys) ≤ least xs
least_more [] ys some = absurd (omega arith)
least_more (x ∷ xs) ys some = omega (arith, fold-append min x xs ys, least_below (fold min x xs) ys)

-- and the greatest no less
pub greatest_more : (xs ys : List ℕ) → greatest xs ≤ greatest (xs ++ ys)
greatest_more xs ys = omega (arith, fold-append max 0 xs ys, greatest_above (fold max 0 xs) ys)

-- the least of some numbers is the same from a number that none is above
pub least_from : (a : ℕ) (xs : List ℕ) → 1 ≤ length xs → All (λ x. x ≤ a) xs → fold min a xs ≡ least xs
least_from a [] some all = absurd (omega arith)
least_from a (x ∷ xs) some all =
    let low = All-head (λ x. x ≤ a) x xs all in
    let same : min a x ≡ x = omega arith in
    ap (λ a. fold min a xs) same

-- what holds of a start and of each number holds of the least
fold_min_has : (P : ℕ → Type 0) (a : ℕ) (xs : List ℕ) → P a → All P xs → P (fold min a xs)
fold_min_has P a [] here all = here
fold_min_has P a (x ∷ xs) here all = fold_min_has P (min a x) xs (one (cases_lt a x)) (All-tail P x xs all)
  where
    one : (a < x) ⊎ (x ≤ a) → P (min a x)
    one (inl less) = let same : a ≡ min a x = omega arith in subst P same here
    one (inr more) = let same : x ≡ min a x = omega arith in subst P same (All-head P x xs all)

-- what holds of each of some numbers holds of the least
pub least_has : (P : ℕ → Type 0) (xs : List ℕ) → 1 ≤ length xs → All P xs → P (least xs)
least_has P [] some all = absurd (omega arith)
least_has P (x ∷ xs) some all = fold_min_has P x xs (All-head P x xs all) (All-tail P x xs all)

-- the greatest of numbers up to a limit is not above it
pub greatest_at_most : (high a : ℕ) (xs : List ℕ) → a ≤ high → All (λ x. x ≤ high) xs → fold max a xs ≤ high
greatest_at_most high a [] to all = to
greatest_at_most high a (x ∷ xs) to all =
    let here = All-head (λ x. x ≤ high) x xs all in
    greatest_at_most high (max a x) xs (omega arith) (All-tail (λ x. x ≤ high) x xs all)

-- the least is at most each
least_each : {X : Type 0} (f : X → ℕ) (a : ℕ) (xs : List X) (i : ℕ) (d : X) → i < length xs → fold min a (map f xs) ≤ f (get_or xs i d)
least_each f a [] i d lt = absurd (omega arith)
least_each f a (x ∷ xs) zero d lt = omega (arith, least_below (min a (f x)) (map f xs))
least_each f a (x ∷ xs) (suc i) d lt = least_each f (min a (f x)) xs i d (omega arith)

-- and the greatest at least each
greatest_each : {X : Type 0} (f : X → ℕ) (a : ℕ) (xs : List X) (i : ℕ) (d : X) → i < length xs → f (get_or xs i d) ≤ fold max a (map f xs)
greatest_each f a [] i d lt = absurd (omega arith)
greatest_each f a (x ∷ xs) zero d lt = omega (arith, greatest_above (max a (f x)) (map f xs))
greatest_each f a (x ∷ xs) (suc i) d lt = greatest_each f (max a (f x)) xs i d (omega arith)

-- numbers are the same where the greatest is no more than the least
pub same_from_ends : {X : Type 0} (f : X → ℕ) (xs : List X) → fold max 0 (map f xs) ≤ fold min top (map f xs) → AllPairs (λ x y. f x ≡ f y) xs
same_from_ends f xs le i j d lt within =
    omega (arith, le, least_each f top xs i d (omega arith), least_each f top xs j d within, greatest_each f 0 xs i d (omega arith), greatest_each f 0 xs j d within)

-- the least and the greatest of the same number
ends_of_same : {X : Type 0} (f : X → ℕ) (a : ℕ) (xs : List X) → All (λ x. f x ≡ a) xs → (b : ℕ) → a ≤ b → (fold min (min b a) (map f xs) ≡ a) × (fold max a (map f xs) ≡ a)
ends_of_same f a [] all b le = (omega arith, refl)
ends_of_same {X} f a (x ∷ xs) all b le =
    let here : f x ≡ a = All-head (λ (y : X). f y ≡ a) x xs all in
    let rest = ends_of_same f a xs (All-tail (λ (y : X). f y ≡ a) x xs all) (min b a) (omega arith) in
    (ap (λ m. fold min (min (min b a) m) (map f xs)) here ∙ rest.0, ap (λ m. fold max m (map f xs)) (let e : max a (f x) ≡ a = omega (arith, here) in e) ∙ rest.1)

-- and only then
pub ends_from_same : {X : Type 0} (f : X → ℕ) (xs : List X) → All (λ x. f x ≤ top) xs → AllPairs (λ x y. f x ≡ f y) xs → fold max 0 (map f xs) ≤ fold min top (map f xs)
ends_from_same f [] low same = omega arith
ends_from_same {X} f (x ∷ xs) low same =
    let first : max 0 (f x) ≡ f x = omega arith in
    let all : All (λ (y : X). f y ≡ f x) xs = λ i d lt. sym (same 0 (suc i) d (omega arith) (omega arith)) in
    let (least, greatest) = ends_of_same f (f x) xs all top (All-head (λ (y : X). f y ≤ top) x xs low) in
    omega (arith, least, greatest, ap (λ m. fold max m (map f xs)) first)
