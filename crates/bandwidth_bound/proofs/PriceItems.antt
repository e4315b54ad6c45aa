-- Items by sender: those before a sender, those of each sender from it on, and those placed.
use Rattle.std.proofs.Common.{◌≡◌, ℕ, zero, suc, ◌+◌, ◌*◌, ◌<◌, ◌≤◌, ◌⊎◌, inl, inr, Bool, true, false, cond, if◌then◌else◌, List, [], ◌∷◌, ◌++◌, length, map, filter, nat_eq, nat_lt, sum_by, All, refl, sym, ap, subst, ◌∙◌, arith}
use Rattle.std.specs.List.{range_with_len}
use Rattle.std.proofs.lemmas.Bool.{cases_eq, cases_lt, eqb-true, eq-eqb, ne_eqb, lt-ltb, le-ltb, ltb-true}
use Rattle.std.proofs.lemmas.List.Elements.{All-append, All-cons, All-filter, All-head, All-nil, All-tail, All-weaker, filter-append, filter_passes}
use Rattle.std.proofs.lemmas.List.Folds.{fold-map}
use Rattle.std.proofs.lemmas.List.Sums.{count_by-le-length, length-filter, sum_by-cons}
use Rattle.pack_model.specs.declared.item.Item.{Item}
use Rattle.pack_model.specs.Problem.{sent_by}
use Rattle.class_frame.specs.Legal.{IsLegal}
use Rattle.grouping_tree.specs.Slack.{last_sender, over_classes}
use Rattle.grouping_tree.proofs.Senders.{Rises}
use Rattle.bandwidth_bound.specs.Prices.{next_sender}
use Rattle.bandwidth_bound.proofs.PriceFloors.{AreAllApart, IsFloor, item_at, joined}

-- the items of senders before one
abbrev pub before : ℕ → List Item → List Item
before first items = filter (λ item. nat_lt item.sender first) items

-- the items are all of senders before one
abbrev pub AreBefore : ℕ → List Item → Type 0
AreBefore first items = All (λ item. item.sender < first) items

-- a filter keeps elements that all pass, and none of those that all fail
filter_kept : {X : Type 0} (p : X → Bool) (xs : List X) → All (λ x. p x ≡ true) xs → filter p xs ≡ xs
filter_kept p [] all = refl
filter_kept p (x ∷ xs) all =
    rw (All-head (λ x. p x ≡ true) x xs all)
    (ap (λ zs. x ∷ zs) (filter_kept p xs (All-tail (λ x. p x ≡ true) x xs all)))

filter_gone : {X : Type 0} (p : X → Bool) (xs : List X) → All (λ x. p x ≡ false) xs → filter p xs ≡ []
filter_gone p [] all = refl
filter_gone p (x ∷ xs) all =
    rw (All-head (λ x. p x ≡ false) x xs all) (filter_gone p xs (All-tail (λ x. p x ≡ false) x xs all))

-- what holds of all items holds of those of a sender
pub sent_all : (P : Item → Type 0) (s : ℕ) (ys : List Item) → All P ys → All P (sent_by ys s)
sent_all P s ys all = All-filter (λ item. nat_eq item.sender s) P ys all

-- they have that sender
pub sent_is : (s : ℕ) (ys : List Item) → All (λ item. item.sender ≡ s) (sent_by ys s)
sent_is s ys =
    All-weaker (λ (item : Item). nat_eq item.sender s ≡ true) (λ item. item.sender ≡ s)
    (λ item e. eqb-true item.sender s e) (sent_by ys s) (filter_passes (λ item. nat_eq item.sender s) ys)

-- and there are no more of them
pub sent_few : (s : ℕ) (ys : List Item) → length (sent_by ys s) ≤ length ys
sent_few s ys =
    omega (
      arith,
      length-filter (λ (item : Item). nat_eq item.sender s) ys,
      count_by-le-length (λ (item : Item). nat_eq item.sender s) ys,
    )

-- of a sender's items all are of that sender, and none of another
pub sent_same : (s : ℕ) (ys : List Item) → sent_by (sent_by ys s) s ≡ sent_by ys s
sent_same s ys =
    filter_kept (λ item. nat_eq item.sender s) (sent_by ys s)
    (filter_passes (λ item. nat_eq item.sender s) ys)

pub sent_other : (s k : ℕ) (ys : List Item) → (k ≡ s → ⊥) → sent_by (sent_by ys s) k ≡ []
sent_other s k ys ne =
    filter_gone (λ item. nat_eq item.sender k) (sent_by ys s)
    (All-weaker (λ (item : Item). item.sender ≡ s) (λ item. nat_eq item.sender k ≡ false)
    (λ item is. ne_eqb item.sender k (λ e. ne (sym e ∙ is))) (sent_by ys s) (sent_is s ys))

-- items before a sender have none of its items
pub sent_none : (first s : ℕ) (ys : List Item) → AreBefore first ys → first ≤ s → sent_by ys s ≡ []
sent_none first s ys all le =
    filter_gone (λ item. nat_eq item.sender s) ys
    (All-weaker (λ (item : Item). item.sender < first) (λ item. nat_eq item.sender s ≡ false)
    (λ item low. ne_eqb item.sender s (λ is. omega (arith, low, is, le))) ys all)

-- items that rise by sender

-- what rises from a number rises from a lower one
pub lower : (low a : ℕ) (ys : List Item) → low ≤ a → Rises a ys → Rises low ys
lower low a [] le up = tt
lower low a (y ∷ ys) le up = (let first : a ≤ y.sender = up.0 in omega (arith, le, first), up.1)

-- the items of a sender rise
pub rises_sent : (low s : ℕ) (ys : List Item) → Rises low ys → Rises low (sent_by ys s)
rises_sent low s [] up = tt
rises_sent low s (y ∷ ys) up = by (nat_eq y.sender s) (rises_sent y.sender s ys up.1)
  where
    by : (b : Bool) → Rises y.sender (sent_by ys s) → Rises low (cond b (y ∷ sent_by ys s) (sent_by ys s))
    by true ih = (up.0, ih)
    by false ih = lower low y.sender (sent_by ys s) up.0 ih

-- none is before the least sender
pub before_none : (n low : ℕ) (ys : List Item) → n ≤ low → Rises low ys → before n ys ≡ []
before_none n low [] le up = refl
before_none n low (y ∷ ys) le up =
    let first : low ≤ y.sender = up.0 in
    let high : n ≤ y.sender = omega (arith, le, first) in
    rw (le-ltb y.sender n high) (before_none n y.sender ys high up.1)

-- before the sender after the least are those of the least
pub before_one : (n low : ℕ) (ys : List Item) → n ≤ low → Rises low ys → before (n + 1) ys ≡ sent_by ys n
before_one n low [] le up = refl
before_one n low (y ∷ ys) le up = by (cases_eq y.sender n) (before_one n y.sender ys high up.1)
  where
    high : n ≤ y.sender
    high = let first : low ≤ y.sender = up.0 in omega (arith, le, first)

    by : (y.sender ≡ n) ⊎ (y.sender ≡ n → ⊥) → before (n + 1) ys ≡ sent_by ys n
        → before (n + 1) (y ∷ ys) ≡ sent_by (y ∷ ys) n
    by (inl same) ih =
        rw (lt-ltb y.sender (n + 1) (omega (arith, same)), eq-eqb y.sender n same)
        (ap (λ (zs : List Item). y ∷ zs) ih)
    by (inr ne) ih = rw (le-ltb y.sender (n + 1) (omega (arith, ne, high)), ne_eqb y.sender n ne) ih

-- before the next sender are those before one, and then its own
pub before_more : (n low : ℕ) (ys : List Item) → Rises low ys
    → before (n + 1) ys ≡ before n ys ++ sent_by ys n
before_more n low [] up = refl
before_more n low (y ∷ ys) up = by (cases_lt y.sender n) (before_more n y.sender ys up.1)
  where
    by : (y.sender < n) ⊎ (n ≤ y.sender) → before (n + 1) ys ≡ before n ys ++ sent_by ys n
        → before (n + 1) (y ∷ ys) ≡ before n (y ∷ ys) ++ sent_by (y ∷ ys) n
    by (inl lt) ih =
        rw (
          lt-ltb y.sender (n + 1) (omega (arith, lt)),
          lt-ltb y.sender n lt,
          ne_eqb y.sender n (λ e. omega (arith, e, lt)),
        ) (ap (λ (zs : List Item). y ∷ zs) ih)
    by (inr ge) ih =
        let all : Rises n (y ∷ ys) = (ge, up.1) in
        before_one n n (y ∷ ys) (omega arith) all
        ∙ ap (λ zs. zs ++ sent_by (y ∷ ys) n) (sym (before_none n n (y ∷ ys) (omega arith) all))

-- items of senders before one are all before it
pub before_all : (n : ℕ) (ys : List Item) → AreBefore n ys → before n ys ≡ ys
before_all n ys all =
    filter_kept (λ item. nat_lt item.sender n) ys
    (All-weaker (λ (item : Item). item.sender < n) (λ item. nat_lt item.sender n ≡ true)
    (λ item lt. lt-ltb item.sender n lt) ys all)

-- and those before it are of senders before it
pub are_before : (n : ℕ) (ys : List Item) → AreBefore n (before n ys)
are_before n ys =
    All-weaker (λ (item : Item). nat_lt item.sender n ≡ true) (λ item. item.sender < n)
    (λ item e. ltb-true item.sender n e) (before n ys) (filter_passes (λ item. nat_lt item.sender n) ys)

-- items by sender are those before a sender, and those of each sender from it on
pub by_groups : (ys : List Item) (low a m : ℕ) → Rises low ys → AreBefore (a + m) ys
    → joined (before a ys) (map (sent_by ys) (range_with_len a m)) ≡ ys
by_groups ys low a zero up all =
    let e : a + 0 ≡ a = omega arith in
    before_all a ys (subst (λ n. AreBefore n ys) e all)
by_groups ys low a (suc m) up all =
    let e : a + suc m ≡ a + 1 + m = omega arith in
    ap (λ zs. joined zs (map (sent_by ys) (range_with_len (a + 1) m))) (sym (before_more a low ys up))
    ∙ by_groups ys low (a + 1) m up (subst (λ n. AreBefore n ys) e all)

-- which are apart
pub groups_apart : (ys now : List Item) (a m : ℕ) → AreBefore a now
    → AreAllApart now (map (sent_by ys) (range_with_len a m))
groups_apart ys now a zero all = tt
groups_apart ys now a (suc m) all = (
  λ i j d lt lt2 same. omega (arith, all i d lt, sent_is a ys j d lt2, same),
  groups_apart ys (now ++ sent_by ys a) (a + 1) m
      (All-append (λ item. item.sender < a + 1) now (sent_by ys a)
      (All-weaker (λ item. item.sender < a) (λ item. item.sender < a + 1)
      (λ item lt. omega (arith, lt)) now all)
      (All-weaker (λ item. item.sender ≡ a) (λ item. item.sender < a + 1) (λ item is. omega (arith, is))
      (sent_by ys a) (sent_is a ys))),
)

-- a figure that is at most the cost of each sender is a floor of them
pub groups_floor : (cost floor : List Item → ℕ) (ys : List Item)
    → ((s : ℕ) (q : List ℕ) → IsLegal (sent_by ys s) q
    → floor (sent_by ys s) ≤ over_classes cost (sent_by ys s) q)
    → (a m : ℕ) → IsFloor cost floor (map (sent_by ys) (range_with_len a m))
groups_floor cost floor ys each a zero = tt
groups_floor cost floor ys each a (suc m) = (each a, groups_floor cost floor ys each (a + 1) m)

-- a sum over the items of each sender
pub sum_groups : (floor : List Item → ℕ) (g : ℕ → List Item) (xs : List ℕ)
    → sum_by floor (map g xs) ≡ sum_by (λ x. floor (g x)) xs
sum_groups floor g xs = fold-map (λ (a : ℕ) (group : List Item). a + floor group) g 0 xs

-- the items placed, and those left

-- items placed are before the next sender
pub placed_before : (low : ℕ) (xs ys : List Item) → Rises low (xs ++ ys)
    → AreBefore (next_sender (last_sender xs)) xs
placed_before low [] ys up = All-nil (λ item. item.sender < 0)
placed_before low (x ∷ []) ys up =
    All-cons (λ item. item.sender < x.sender + 1) x [] (omega arith)
    (All-nil (λ item. item.sender < x.sender + 1))
placed_before low (x ∷ y ∷ xs) ys up =
    let n : ℕ = next_sender (last_sender (y ∷ xs)) in
    let all : AreBefore n (y ∷ xs) = placed_before x.sender (y ∷ xs) ys up.1 in
    let here : y.sender < n = All-head (λ item. item.sender < n) y xs all in
    let first : x.sender ≤ y.sender = up.1.0 in
    All-cons (λ item. item.sender < n) x (y ∷ xs) (omega (arith, here, first)) all

-- they come first among those before it
pub before_front : (n : ℕ) (xs ys : List Item) → AreBefore n xs → before n (xs ++ ys) ≡ xs ++ before n ys
before_front n xs ys all =
    filter-append (λ item. nat_lt item.sender n) xs ys ∙ ap (λ zs. zs ++ before n ys) (before_all n xs all)

-- the prices of a sender's items
pub sum_sent : (f : Item → ℕ) (s : ℕ) (ys : List Item)
    → sum_by (item_at s f) (before (s + 1) ys) ≡ sum_by f (sent_by ys s)
sum_sent f s [] = refl
sum_sent f s (y ∷ ys) = by (cases_eq y.sender s) (cases_lt y.sender (s + 1)) (sum_sent f s ys)
  where
    by : (y.sender ≡ s) ⊎ (y.sender ≡ s → ⊥) → (y.sender < s + 1) ⊎ (s + 1 ≤ y.sender)
        → sum_by (item_at s f) (before (s + 1) ys) ≡ sum_by f (sent_by ys s)
        → sum_by (item_at s f) (before (s + 1) (y ∷ ys)) ≡ sum_by f (sent_by (y ∷ ys) s)
    by (inl same) (inl lt) ih =
        let here : item_at s f y ≡ f y = ap (λ b. if b then f y else 0) (eq-eqb y.sender s same) in
        rw (lt-ltb y.sender (s + 1) lt, eq-eqb y.sender s same)
        (omega (
          arith,
          sum_by-cons (item_at s f) y (before (s + 1) ys),
          sum_by-cons f y (sent_by ys s),
          here,
          ih,
        ))
    by (inl same) (inr ge) ih = absurd (omega (arith, same, ge))
    by (inr ne) (inl lt) ih =
        let here : item_at s f y ≡ 0 = ap (λ b. if b then f y else 0) (ne_eqb y.sender s ne) in
        rw (lt-ltb y.sender (s + 1) lt, ne_eqb y.sender s ne)
        (omega (arith, sum_by-cons (item_at s f) y (before (s + 1) ys), here, ih))
    by (inr ne) (inr ge) ih = rw (le-ltb y.sender (s + 1) ge, ne_eqb y.sender s ne) ih

-- a sum of eighths
pub sum_eight : (f : ℕ → ℕ) (xs : List ℕ) → sum_by (λ x. 8 * f x) xs ≡ 8 * sum_by f xs
sum_eight f [] = refl
sum_eight f (x ∷ xs) = omega (arith, sum_by-cons (λ x. 8 * f x) x xs, sum_by-cons f x xs, sum_eight f xs)

-- a sum of zeros from a number on
pub sum_none : (f : ℕ → ℕ) (first a m : ℕ) → first ≤ a → ((k : ℕ) → first ≤ k → f k ≡ 0)
    → sum_by f (range_with_len a m) ≡ 0
sum_none f first a zero le each = refl
sum_none f first a (suc m) le each =
    omega (
      arith,
      sum_by-cons f a (range_with_len (a + 1) m),
      each a le,
      sum_none f first (a + 1) m (omega (arith, le)) each,
    )
