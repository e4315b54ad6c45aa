-- The items of a sender lie together in those of a problem.
use Rattle.std.proofs.Common.{◌≡◌, ℕ, zero, suc, ◌+◌, ◌<◌, ◌≤◌, ◌⊎◌, inl, inr, Bool, true, false, cond, List, [], ◌∷◌, ◌++◌, length, take, drop, count_by, nat_eq, nat_lt, All, refl, sym, ap, subst, ◌∙◌, arith}
use Rattle.std.specs.List.{flat_map, range_with_len}
use Rattle.std.proofs.lemmas.Bool.{cases_lt, cases_eq, eqb-true, eq-eqb, ne_eqb, lt-ltb, le-ltb}
use Rattle.std.proofs.lemmas.List.Elements.{All-nil, All-cons, All-head, All-tail}
use Rattle.pack_model.specs.declared.item.Item.{Item}
use Rattle.pack_model.specs.Problem.{Parts, IsProblem, sent_by, items_in_order, senders_of}
use Rattle.pack_model.proofs.Laws.{tests}
use Rattle.grouping_tree.proofs.Options.{counted}

-- each sender is at least the one before it, and the first at least `low`
abbrev pub Rises : ℕ → List Item → Type 0
Rises low [] = Unit {0}
Rises low (y ∷ ys) = (low ≤ y.sender) × Rises y.sender ys

lower : (low a : ℕ) (ys : List Item) → low ≤ a → Rises a ys → Rises low ys
lower low a [] le up = tt
lower low a (y ∷ ys) le up = (let first : a ≤ y.sender = up.0 in omega (arith, le, first), up.1)

rises-append : (a low : ℕ) (xs ys : List Item) → All (λ x. x.sender ≡ a) xs → low ≤ a → Rises a ys → Rises low (xs ++ ys)
rises-append a low [] ys all le up = lower low a ys le up
rises-append a low (x ∷ xs) ys all le up =
    let here : x.sender ≡ a = All-head (λ (x : Item). x.sender ≡ a) x xs all in
    (omega (arith, le, here), rises-append a x.sender xs ys (All-tail (λ (x : Item). x.sender ≡ a) x xs all) (omega (arith, here)) up)

all-sent : (a : ℕ) (xs : List Item) → All (λ x. x.sender ≡ a) (sent_by xs a)
all-sent a [] = All-nil (λ (x : Item). x.sender ≡ a)
all-sent a (x ∷ xs) = by (nat_eq x.sender a) refl (all-sent a xs)
  where
    by : (b : Bool) → nat_eq x.sender a ≡ b → All (λ x. x.sender ≡ a) (sent_by xs a) → All (λ x. x.sender ≡ a) (cond b (x ∷ sent_by xs a) (sent_by xs a))
    by true e ih = All-cons (λ (x : Item). x.sender ≡ a) x (sent_by xs a) (eqb-true x.sender a e) ih
    by false e ih = ih

rises-by : (xs : List Item) (a n : ℕ) → Rises a (flat_map (sent_by xs) (range_with_len a n))
rises-by xs a zero = tt
rises-by xs a (suc n) =
    rises-append a a (sent_by xs a) (flat_map (sent_by xs) (range_with_len (a + 1) n)) (all-sent a xs) (omega arith) (lower a (a + 1) (flat_map (sent_by xs) (range_with_len (a + 1) n)) (omega arith) (rises-by xs (a + 1) n))

-- the items of a problem rise by sender
pub problem_rises : (problem : Parts) → IsProblem problem → Rises 0 problem.items
problem_rises problem stands = subst (Rises 0) (sym (tests problem stands).items) (rises-by (items_in_order problem.signals) 0 (length (senders_of problem.signals)))

none_before : (s low : ℕ) (ys : List Item) → s ≤ low → Rises low ys → count_by (λ item. nat_lt item.sender s) ys ≡ 0
none_before s low [] le up = refl
none_before s low (y ∷ ys) le up =
    let first : low ≤ y.sender = up.0 in
    let z : cond {A = ℕ} (nat_lt y.sender s) 1 0 ≡ 0 = ap (λ b. cond b 1 0) (le-ltb y.sender s (omega (arith, le, first))) in
    omega (arith, counted (λ (item : Item). nat_lt item.sender s) y ys, z, none_before s y.sender ys (omega (arith, le, first)) up.1)

none_of : (s low : ℕ) (ys : List Item) → s < low → Rises low ys → (count_by (λ item. nat_eq item.sender s) ys ≡ 0) × (sent_by ys s ≡ [])
none_of s low [] lt up = (refl, refl)
none_of s low (y ∷ ys) lt up =
    let first : low ≤ y.sender = up.0 in
    let other : nat_eq y.sender s ≡ false = ne_eqb y.sender s (λ e. omega (arith, e, lt, first)) in
    let z : cond {A = ℕ} (nat_eq y.sender s) 1 0 ≡ 0 = ap (λ b. cond b 1 0) other in
    let rest = none_of s y.sender ys (omega (arith, lt, first)) up.1 in
    (omega (arith, counted (λ (item : Item). nat_eq item.sender s) y ys, z, rest.0), ap (λ b. cond b (y ∷ sent_by ys s) (sent_by ys s)) other ∙ rest.1)

-- those of a sender come right after those of the senders before it
pub slice-is : (s low : ℕ) (ys : List Item) → Rises low ys → take (count_by (λ item. nat_eq item.sender s) ys) (drop (count_by (λ item. nat_lt item.sender s) ys) ys) ≡ sent_by ys s
slice-is s low [] up = refl
slice-is s low (y ∷ ys) up = by (cases_lt y.sender s) (cases_eq y.sender s) (slice-is s y.sender ys up.1)
  where
    by : (y.sender < s) ⊎ (s ≤ y.sender) → (y.sender ≡ s) ⊎ (y.sender ≡ s → ⊥) → take (count_by (λ item. nat_eq item.sender s) ys) (drop (count_by (λ item. nat_lt item.sender s) ys) ys) ≡ sent_by ys s
        → take (count_by (λ item. nat_eq item.sender s) (y ∷ ys)) (drop (count_by (λ item. nat_lt item.sender s) (y ∷ ys)) (y ∷ ys)) ≡ sent_by (y ∷ ys) s
    by (inl lt) same ih =
        let other : nat_eq y.sender s ≡ false = ne_eqb y.sender s (λ e. omega (arith, e, lt)) in
        let z : cond {A = ℕ} (nat_eq y.sender s) 1 0 ≡ 0 = ap (λ b. cond b 1 0) other in
        let o : cond {A = ℕ} (nat_lt y.sender s) 1 0 ≡ 1 = ap (λ b. cond b 1 0) (lt-ltb y.sender s lt) in
        let e : count_by (λ item. nat_eq item.sender s) (y ∷ ys) ≡ count_by (λ item. nat_eq item.sender s) ys = omega (arith, counted (λ (item : Item). nat_eq item.sender s) y ys, z) in
        let f : count_by (λ item. nat_lt item.sender s) (y ∷ ys) ≡ suc (count_by (λ item. nat_lt item.sender s) ys) = omega (arith, counted (λ (item : Item). nat_lt item.sender s) y ys, o) in
        ap (λ n. take n (drop (count_by (λ item. nat_lt item.sender s) (y ∷ ys)) (y ∷ ys))) e ∙ ap (λ n. take (count_by (λ item. nat_eq item.sender s) ys) (drop n (y ∷ ys))) f
        ∙ ih ∙ sym (ap (λ b. cond b (y ∷ sent_by ys s) (sent_by ys s)) other)
    by (inr le) (inl same) ih =
        let here : nat_eq y.sender s ≡ true = eq-eqb y.sender s same in
        let o : cond {A = ℕ} (nat_eq y.sender s) 1 0 ≡ 1 = ap (λ b. cond b 1 0) here in
        let none : count_by (λ item. nat_lt item.sender s) ys ≡ 0 = none_before s y.sender ys le up.1 in
        let all : count_by (λ item. nat_lt item.sender s) (y ∷ ys) ≡ 0 = none_before s y.sender (y ∷ ys) le (let refl_le : y.sender ≤ y.sender = omega arith in refl_le, up.1) in
        let e : count_by (λ item. nat_eq item.sender s) (y ∷ ys) ≡ suc (count_by (λ item. nat_eq item.sender s) ys) = omega (arith, counted (λ (item : Item). nat_eq item.sender s) y ys, o) in
        ap (λ n. take n (drop (count_by (λ item. nat_lt item.sender s) (y ∷ ys)) (y ∷ ys))) e ∙ ap (λ n. take (suc (count_by (λ item. nat_eq item.sender s) ys)) (drop n (y ∷ ys))) all
        ∙ ap (λ (t : List Item). y ∷ t) (ap (λ n. take (count_by (λ item. nat_eq item.sender s) ys) (drop n ys)) (sym none) ∙ ih)
        ∙ sym (ap (λ b. cond b (y ∷ sent_by ys s) (sent_by ys s)) here)
    by (inr le) (inr ne) ih =
        let none = none_of s y.sender (y ∷ ys) (omega (arith, le, ne)) (let refl_le : y.sender ≤ y.sender = omega arith in refl_le, up.1) in
        ap (λ n. take n (drop (count_by (λ item. nat_lt item.sender s) (y ∷ ys)) (y ∷ ys))) none.0 ∙ sym none.1

-- and they are within
pub slice_within : (s : ℕ) (ys : List Item) → count_by (λ item. nat_lt item.sender s) ys + count_by (λ item. nat_eq item.sender s) ys ≤ length ys
slice_within s [] = omega arith
slice_within s (y ∷ ys) = by (cases_lt y.sender s) (slice_within s ys)
  where
    by : (y.sender < s) ⊎ (s ≤ y.sender) → count_by (λ item. nat_lt item.sender s) ys + count_by (λ item. nat_eq item.sender s) ys ≤ length ys
        → count_by (λ item. nat_lt item.sender s) (y ∷ ys) + count_by (λ item. nat_eq item.sender s) (y ∷ ys) ≤ length (y ∷ ys)
    by (inl lt) ih =
        let z : cond {A = ℕ} (nat_eq y.sender s) 1 0 ≡ 0 = ap (λ b. cond b 1 0) (ne_eqb y.sender s (λ e. omega (arith, e, lt))) in
        let o : cond {A = ℕ} (nat_lt y.sender s) 1 0 ≡ 1 = ap (λ b. cond b 1 0) (lt-ltb y.sender s lt) in
        omega (arith, counted (λ (item : Item). nat_eq item.sender s) y ys, counted (λ (item : Item). nat_lt item.sender s) y ys, z, o, ih)
    by (inr le) ih =
        let z : cond {A = ℕ} (nat_lt y.sender s) 1 0 ≡ 0 = ap (λ b. cond b 1 0) (le-ltb y.sender s le) in
        let o : cond {A = ℕ} (nat_eq y.sender s) 1 0 ≤ 1 = most (nat_eq y.sender s) in
        omega (arith, counted (λ (item : Item). nat_eq item.sender s) y ys, counted (λ (item : Item). nat_lt item.sender s) y ys, z, o, ih)
      where
        most : (b : Bool) → cond {A = ℕ} b 1 0 ≤ 1
        most true = omega arith
        most false = omega arith
