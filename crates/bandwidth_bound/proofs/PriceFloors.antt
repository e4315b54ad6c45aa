-- The bound below every completion: what is placed, the prices of what is left of its last sender, and a
-- floor for each later sender.
use Rattle.std.proofs.Common.{◌≡◌, ℕ, zero, suc, ◌+◌, ◌-◌, ◌<◌, ◌≤◌, Bool, true, false, cond, List, [], ◌∷◌, ◌++◌, length, drop, take, map, filter, get_or, nat_eq, if◌then◌else◌, sum_by, All, refl, sym, ap, subst, ◌∙◌, arith, length-append, take-append-drop, take-take, length-take-le}
use Rattle.std.specs.List.{range_with_len, zip}
use Rattle.std.proofs.lemmas.Bool.{and_parts}
use Rattle.std.proofs.lemmas.List.{take_all, get_or-append-add}
use Rattle.std.proofs.lemmas.List.Sums.{sum_by-cons, sum_by-le-sum_by}
use Rattle.pack_model.specs.declared.item.Item.{Item}
use Rattle.class_frame.specs.Grouping.{class_of, classes_of}
use Rattle.class_frame.specs.Legal.{ClassStands, IsLegal}
use Rattle.grouping_tree.specs.Partial.{begins}
use Rattle.grouping_tree.specs.Slack.{at_sender, over_classes}
use Rattle.bandwidth_bound.proofs.PriceSplits.{AreApart, first-whole, rest-whole, over-both}
use Rattle.bandwidth_bound.proofs.PriceSums.{IsPriced, prices-within}

-- items and then those of later senders
abbrev pub joined : List Item → List (List Item) → List Item
joined now [] = now
joined now (group ∷ later) = joined (now ++ group) later

-- each sender's items are apart from those before
abbrev pub AreAllApart : List Item → List (List Item) → Type 0
AreAllApart now [] = Unit {0}
AreAllApart now (group ∷ later) = AreApart now group × AreAllApart (now ++ group) later

-- the class of a label among the first items alone
class-within : {X : Type 0} (k : ℕ) (p : List ℕ) (xs ys : List X) → length p ≤ length xs
    → class_of k p (xs ++ ys) ≡ class_of k p xs
class-within k [] xs ys le = refl
class-within k (l ∷ p) [] ys le = absurd (omega arith)
class-within {X} k (l ∷ p) (x ∷ xs) ys le = by (nat_eq l k) (class-within k p xs ys (omega arith))
  where
    by : (b : Bool) → class_of k p (xs ++ ys) ≡ class_of k p xs
        → map (λ (e : ℕ × X). e.1) (cond b ((l, x) ∷ filter (λ e. nat_eq e.0 k) (zip p (xs ++ ys)))
        (filter (λ e. nat_eq e.0 k) (zip p (xs ++ ys))))
        ≡ map (λ (e : ℕ × X). e.1) (cond b ((l, x) ∷ filter (λ e. nat_eq e.0 k) (zip p xs))
        (filter (λ e. nat_eq e.0 k) (zip p xs)))
    by true ih = ap (λ zs. x ∷ zs) ih
    by false ih = ih

-- what is summed over classes of the first items is the same with more of them
pub over-within : (f : List Item → ℕ) (p : List ℕ) (xs ys : List Item) → length p ≤ length xs
    → over_classes f (xs ++ ys) p ≡ over_classes f xs p
over-within f p xs ys le =
    ap (λ (g : ℕ → ℕ). sum_by g (range_with_len 0 (classes_of p)))
    (λ i k. f (class-within k p xs ys le i))

pub over-joined : (f : List Item → ℕ) (p : List ℕ) (now : List Item) (later : List (List Item))
    → length p ≤ length now → over_classes f (joined now later) p ≡ over_classes f now p
over-joined f p now [] le = refl
over-joined f p now (group ∷ later) le =
    over-joined f p (now ++ group) later (omega (arith, length-append now group))
    ∙ over-within f p now group le

begins-take : (p q : List ℕ) (n : ℕ) → length p ≤ n → begins p q ≡ true → begins p (take n q) ≡ true
begins-take [] q n le e = refl
begins-take (a ∷ p) [] n le e = absurd cc
begins-take (a ∷ p) (b ∷ q) zero le e = absurd (omega arith)
begins-take (a ∷ p) (b ∷ q) (suc n) le e =
    let parts = and_parts (nat_eq a b) (begins p q) e in
    rw parts.0 (begins-take p q n (omega arith) parts.1)

module _ (cost floor : List Item → ℕ) where
  -- the floor of a sender is at most what each of its legal groupings costs
  abbrev pub IsFloor : List (List Item) → Type 0
  IsFloor [] = Unit {0}
  IsFloor (group ∷ later) =
      ((q : List ℕ) → IsLegal group q → floor group ≤ over_classes cost group q) × IsFloor later

  floors-within : (now : List Item) (later : List (List Item)) (q : List ℕ) → AreAllApart now later
      → IsFloor later → IsLegal (joined now later) q
      → IsLegal now (take (length now) q)
      × (over_classes cost now (take (length now) q) + sum_by floor later
      ≤ over_classes cost (joined now later) q)
  floors-within now [] q apart floors whole =
      let all : take (length now) q ≡ q = take_all (length now) q (omega (arith, whole.grouping.each)) in
      rw all (whole, omega arith)
  floors-within now (group ∷ later) q apart floors whole =
      let ih = floors-within (now ++ group) later q apart.1 floors.1 whole in
      let front = take (length (now ++ group)) q in
      let p = take (length now) front in
      let r = drop (length now) front in
      let parts : front ≡ p ++ r = sym (take-append-drop (length now) front) in
      let stands : IsLegal (now ++ group) (p ++ r) = subst (IsLegal (now ++ group)) parts ih.0 in
      let here : length p ≡ length now =
      length-take-le (length now) front (omega (arith, ih.0.grouping.each, length-append now group)) in
      let both = over-both now group p r here stands apart.0 cost in
      let low = floors.0 (map (λ l. l - classes_of p) r) (rest-whole now group p r here stands apart.0) in
      let same : p ≡ take (length now) q =
      take-take (length now) (length (now ++ group)) q (omega (arith, length-append now group)) in
      let total : over_classes cost now p + sum_by floor (group ∷ later)
      ≤ over_classes cost (joined (now ++ group) later) q =
      omega (
        arith,
        ih.1,
        ap (over_classes cost (now ++ group)) parts,
        both,
        low,
        sum_by-cons floor group later,
      )
      in
      subst (λ t. IsLegal now t
      × (over_classes cost now t + sum_by floor (group ∷ later)
      ≤ over_classes cost (joined (now ++ group) later) q))
      same (first-whole now group p r here stands, total)

-- the bound below every completion
pub bound-below : (Right : Item → Type 0) (cost slack floor : List Item → ℕ) (price : Item → ℕ)
    → IsPriced Right cost slack price → slack [] ≡ 0
    → (now : List Item) (later : List (List Item)) (p q : List ℕ) → All Right now → AreAllApart now later
    → IsFloor cost floor later → length p ≤ length now → IsLegal (joined now later) q → begins p q ≡ true
    → over_classes cost (joined now later) p + sum_by price (drop (length p) now) + sum_by floor later
    ≤ over_classes cost (joined now later) q + over_classes slack now p
bound-below Right cost slack floor price one none now later p q right apart floors le whole e =
    let low = floors-within cost floor now later q apart floors whole in
    let here = prices-within Right cost slack price one none now p (take (length now) q) right low.0
    (begins-take p q (length now) le e) in
    omega (arith, low.1, here, over-joined cost p now later le)

-- the prices of items are a floor
pub prices-floor : (Right : Item → Type 0) (cost slack : List Item → ℕ) (price : Item → ℕ)
    → IsPriced Right cost slack price → slack [] ≡ 0
    → (items : List Item) (q : List ℕ) → All Right items → IsLegal items q
    → sum_by price items ≤ over_classes cost items q
prices-floor Right cost slack price one none items q right whole =
    let all : 0 + sum_by price (drop 0 items) ≤ over_classes cost items q + 0 =
    prices-within Right cost slack price one none items [] q right whole refl in
    omega (arith, all, ap (sum_by price) (whole_drop items))
  where
    whole_drop : (xs : List Item) → drop 0 xs ≡ xs
    whole_drop [] = refl
    whole_drop (x ∷ xs) = refl

-- what counts for one sender's items alone
abbrev pub item_at : ℕ → (Item → ℕ) → Item → ℕ
item_at sender f item = if nat_eq item.sender sender then f item else 0

module _ (Right : Item → Type 0) (cost slack : List Item → ℕ) (price : Item → ℕ) (s : ℕ)
    (one : IsPriced Right cost slack price) (none : slack [] ≡ 0)
    (rises : (xs ys : List Item) → ClassStands (xs ++ ys) → All Right (xs ++ ys) → cost xs ≤ cost (xs ++ ys))
  where
    at_most : (item : Item) → item_at s price item ≤ price item
    at_most item = by (nat_eq item.sender s)
      where
        by : (b : Bool) → (if b then price item else 0) ≤ price item
        by true = omega arith
        by false = omega arith

    no_prices : (n : ℕ) → nat_eq n s ≡ false → (ys : List Item)
        → ((k : ℕ) (d : Item) → k < length ys → n ≡ (get_or ys k d).sender) → sum_by (item_at s price) ys ≡ 0
    no_prices n e [] h = refl
    no_prices n e (y ∷ ys) h =
        let first : nat_eq y.sender s ≡ false = ap (λ m. nat_eq m s) (sym (h 0 y (omega arith))) ∙ e in
        let zero_here : item_at s price y ≡ 0 = ap (λ b. if b then price y else 0) first in
        omega (
          arith,
          sum_by-cons (item_at s price) y ys,
          zero_here,
          no_prices n e ys (λ k d lt. h (suc k) d (omega arith)),
        )

    -- prices and slacks of one sender alone
    pub one-of-sender : IsPriced Right cost (at_sender s slack) (item_at s price)
    one-of-sender [] ys stands right =
        omega (arith, one [] ys stands right, none, sum_by-le-sum_by (item_at s price) price ys at_most)
    one-of-sender (x ∷ xs) ys stands right = by (nat_eq x.sender s) refl
      where
        other : (k : ℕ) (d : Item) → k < length ys → x.sender ≡ (get_or ys k d).sender
        other k d lt =
            stands.one_sender 0 (length (x ∷ xs) + k) d (omega arith)
            (omega (arith, length-append (x ∷ xs) ys))
            ∙ ap (λ (item : Item). item.sender) (get_or-append-add (x ∷ xs) ys k d)

        by : (b : Bool) → nat_eq x.sender s ≡ b
            → cost (x ∷ xs) + sum_by (item_at s price) ys
            ≤ cost ((x ∷ xs) ++ ys) + (if b then slack (x ∷ xs) else 0)
        by true e =
            omega (
              arith,
              one (x ∷ xs) ys stands right,
              sum_by-le-sum_by (item_at s price) price ys at_most,
            )
        by false e = omega (arith, rises (x ∷ xs) ys stands right, no_prices x.sender e ys other)
