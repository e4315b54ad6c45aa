-- A stable sort by the sender's number puts the items by sender, and then as they stood.
use Rattle.std.proofs.Common.{◌≡◌, ◌≤◌, ◌<◌, ◌+◌, ℕ, Bool, true, false, cond, filter, List, [], ◌∷◌, ◌++◌, length, suc, zero, refl, sym, ap, subst, ◌∙◌, arith, not, ◌&&◌, nat_lt, nat_eq, get_or, All, append-nil, add-one, add-zero, append_assoc, None, ◌⊎◌, inl, inr, ◌≢◌, eq-eqb}
use native.Mathlib.Numerals.{unary_clauses}
use Rattle.std.proofs.lemmas.Bool.Decides.{nat_tests}
use Rattle.std.specs.List.{flat_map, range_with_len}
use Rattle.std.specs.List.Sorted.{IsSortedByKey, IsStableByKey, IsPermutation}
use Rattle.std.specs.Ordering.{nat_cmp, is_lt}
use Rattle.std.proofs.lemmas.Bool.{le-ltb, lt-ltb, ne_eqb, cases_lt, cases_eq}
use Rattle.std.proofs.lemmas.List.Sorted.{All-permutation}
use Rattle.std.proofs.lemmas.List.Elements.{All-head, All-tail}
use Rattle.pack_model.specs.declared.item.Item.{Item}
use Rattle.pack_model.specs.Problem.{sent_by, by_sender}

-- each sender is at least the one before it, and the first at least `low`
abbrev Rises : ℕ → List Item → Type 0
Rises low [] = Unit {0}
Rises low (y ∷ ys) = (low ≤ y.sender) × Rises y.sender ys

-- none is below the least
below_none : (n low : ℕ) (ys : List Item) → n ≤ low → Rises low ys
    → filter (λ item. nat_lt item.sender n) ys ≡ []
below_none n low [] le up = refl
below_none n low (y ∷ ys) le up =
    let first : low ≤ y.sender = up.0 in
    let high : n ≤ y.sender = omega arith in
    ap (λ b. cond b (y ∷ filter (λ item. nat_lt item.sender n) ys) (filter (λ item. nat_lt item.sender n) ys))
    (le-ltb y.sender n high) ∙ below_none n y.sender ys high up.1

-- one item more at the front of the three filters, where it belongs
one_more : (n : ℕ) (y : Item) (ys : List Item)
    → filter (λ item. nat_lt item.sender n) ys ≡ [] ⊎ (y.sender ≢ n)
    → filter (λ item. nat_lt item.sender (n + 1)) ys ≡ filter (λ item. nat_lt item.sender n) ys
    ++ sent_by ys n
    → filter (λ item. nat_lt item.sender (n + 1)) (y ∷ ys) ≡ filter (λ item. nat_lt item.sender n) (y ∷ ys)
    ++ sent_by (y ∷ ys) n
one_more n y ys high ih = by (cases_lt y.sender n) (cases_lt n y.sender) high
  where
    put : (a b c : Bool) → nat_lt y.sender (n + 1) ≡ a → nat_lt y.sender n ≡ b → nat_eq y.sender n ≡ c
        → cond a (y ∷ filter (λ item. nat_lt item.sender (n + 1)) ys)
        (filter (λ item. nat_lt item.sender (n + 1)) ys)
        ≡ cond b (y ∷ filter (λ item. nat_lt item.sender n) ys) (filter (λ item. nat_lt item.sender n) ys)
        ++ cond c (y ∷ sent_by ys n) (sent_by ys n)
        → filter (λ item. nat_lt item.sender (n + 1)) (y ∷ ys)
        ≡ filter (λ item. nat_lt item.sender n) (y ∷ ys) ++ sent_by (y ∷ ys) n
    put a b c e f g h = rw (e, f, g) h

    by : (y.sender < n) ⊎ (n ≤ y.sender) → (n < y.sender) ⊎ (y.sender ≤ n)
        → filter (λ item. nat_lt item.sender n) ys ≡ [] ⊎ (y.sender ≢ n)
        → filter (λ item. nat_lt item.sender (n + 1)) (y ∷ ys)
        ≡ filter (λ item. nat_lt item.sender n) (y ∷ ys) ++ sent_by (y ∷ ys) n
    by (inl lt) _ _ =
        put true true false (lt-ltb _ _ (omega arith)) (lt-ltb _ _ lt) (ne_eqb _ _ (omega arith))
        (ap (λ l. y ∷ l) ih)
    by (inr ge) (inl gt) _ =
        put false false false (le-ltb _ _ (omega arith)) (le-ltb _ _ ge) (ne_eqb _ _ (omega arith)) ih
    by (inr ge) (inr le) (inl nil) =
        put true false true (lt-ltb _ _ (omega arith)) (le-ltb _ _ ge) (eq-eqb _ _ (omega arith))
        (ap (λ l. y ∷ l) (ih ∙ ap (λ l. l ++ sent_by ys n) nil) ∙ sym (ap (λ l. l ++ y ∷ sent_by ys n) nil))
    by (inr ge) (inr le) (inr ne) = let same : y.sender ≡ n = omega arith in absurd (ne same)

-- below n + 1 are those below n, and then those of n
below_more : (n low : ℕ) (ys : List Item) → Rises low ys
    → filter (λ item. nat_lt item.sender (n + 1)) ys ≡ filter (λ item. nat_lt item.sender n) ys
    ++ sent_by ys n
below_more n low [] up = refl
below_more n low (y ∷ ys) up = one_more n y ys (high (cases_eq y.sender n)) (below_more n y.sender ys up.1)
  where
    high : (y.sender ≡ n) ⊎ (y.sender ≢ n) → filter (λ item. nat_lt item.sender n) ys ≡ [] ⊎ (y.sender ≢ n)
    high (inl same) = inl (below_none n y.sender ys (omega arith) up.1)
    high (inr ne) = inr ne

-- those of each sender from a on follow those below a
from_sender : (a n low : ℕ) (ys : List Item) → Rises low ys
    → filter (λ item. nat_lt item.sender a) ys ++ flat_map (sent_by ys) (range_with_len a n)
    ≡ filter (λ item. nat_lt item.sender (a + n)) ys
from_sender a zero low ys up = append-nil _
    ∙ ap (λ m. filter (λ item. nat_lt item.sender m) ys) (sym (add-zero a))
from_sender a (suc n) low ys up =
    sym (append_assoc (filter (λ item. nat_lt item.sender a) ys) (sent_by ys a)
    (flat_map (sent_by ys) (range_with_len (a + 1) n)))
    ∙ ap (λ l. l ++ flat_map (sent_by ys) (range_with_len (a + 1) n)) (sym (below_more a low ys up))
    ∙ from_sender (a + 1) n low ys up
    ∙ ap (λ m. filter (λ item. nat_lt item.sender m) ys) (omega arith)

all_below : (n : ℕ) (ys : List Item) → All (λ item. item.sender < n) ys
    → filter (λ item. nat_lt item.sender n) ys ≡ ys
all_below n [] all = refl
all_below n (y ∷ ys) all =
    ap (λ b. cond b (y ∷ filter (λ item. nat_lt item.sender n) ys) (filter (λ item. nat_lt item.sender n) ys))
    (lt-ltb y.sender n (All-head (λ item. item.sender < n) y ys all))
    ∙ ap (λ l. y ∷ l) (all_below n ys (All-tail (λ item. item.sender < n) y ys all))

-- items that rise by sender are by sender
of_rising : (n : ℕ) (ys : List Item) → Rises 0 ys → All (λ item. item.sender < n) ys → by_sender n ys ≡ ys
of_rising n ys up all =
    ap (λ l. l ++ by_sender n ys) (sym (below_none 0 0 ys (omega arith) up))
    ∙ from_sender 0 n 0 ys up
    ∙ ap (λ m. filter (λ item. nat_lt item.sender m) ys) (omega arith)
    ∙ all_below n ys all

-- a sender that does not come before another is at least it
not_before : (a b : ℕ) → is_lt (nat_cmp a b) ≡ false → b ≤ a
not_before a b h = grind (arith, nat_tests)

-- what a sort ensures, from the front
rises : (low : ℕ) (ys : List Item) → IsSortedByKey (λ item. item.sender) nat_cmp ys
    → ((d : Item) → 0 < length ys → low ≤ (get_or ys 0 d).sender) → Rises low ys
rises low [] up first = tt
rises low (y ∷ ys) up first = (
  first y (omega arith),
  rises y.sender ys
      (λ k d low high. subst (λ m. is_lt (nat_cmp (get_or ys m d).sender (get_or ys k d).sender) ≡ false)
      (sym (add-one k)) (simp unary_clauses at (up (k + 1) d (omega arith) (omega arith))))
      (λ d some. not_before (get_or ys 0 d).sender y.sender (up 0 d (omega arith) (omega arith))),
)

-- ties with an item of a sender are items of that sender
tied : (k s : ℕ) → (not (is_lt (nat_cmp k s)) && not (is_lt (nat_cmp s k))) ≡ nat_eq s k
tied k s = grind (arith, nat_tests)

-- a stable sort keeps the items of each sender
sent_by_kept : (xs ys : List Item) → IsStableByKey (λ item. item.sender) nat_cmp xs ys → (k : ℕ)
    → sent_by ys k ≡ sent_by xs k
sent_by_kept xs ys stable k =
    let here : (item : Item) → (not (is_lt (nat_cmp k item.sender)) && not (is_lt (nat_cmp item.sender k)))
    ≡ nat_eq item.sender k = λ item. tied k item.sender in
    let back : (item : Item) → nat_eq item.sender k
    ≡ (not (is_lt (nat_cmp k item.sender)) && not (is_lt (nat_cmp item.sender k))) =
    λ item. sym (tied k item.sender) in
    ap (λ p. filter p ys) (λ i item. back item i)
    ∙ stable (record { sender = k; pdu = None; members = []; bits = 0 })
    ∙ ap (λ p. filter p xs) (λ i item. here item i)

-- a stable sort of items of the first senders
pub sorted_by_sender : (n : ℕ) (xs ys : List Item) → IsSortedByKey (λ item. item.sender) nat_cmp ys
    → IsStableByKey (λ item. item.sender) nat_cmp xs ys → IsPermutation xs ys
    → All (λ item. item.sender < n) xs → ys ≡ by_sender n xs
sorted_by_sender n xs ys up stable same all =
    sym (of_rising n ys (rises 0 ys up (λ d some. omega arith))
    (All-permutation (λ item. item.sender < n) xs ys same all))
    ∙ ap (λ f. flat_map f (range_with_len 0 n)) (λ i k. sent_by_kept xs ys stable k i)
